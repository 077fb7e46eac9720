-- Only what stands, as a list of requests. Assumes nothing.
use Rattle.std.specs.Prelude.{ℕ, zero, suc, ◌+◌, List, [], ◌∷◌, ◌++◌, Some, None, Option}
use Rattle.forms.specs.declared.Contract.{Contract}
use Rattle.settlement.specs.{declared.states.State.State, declared.states.State.TheVariants.Open, declared.states.State.TheVariants.Closed, Posting.Posting}
use Rattle.law.specs.{Requests.Opening, Requests.hours_in, Requests.Request, Requests.posting, Requests.entering, Requests.closing, Standing.Standing}

-- the contracts of a list of places, of which the first has this number
abbrev pub entries_of : (number : ℕ) → List (Option Contract) → List Request
entries_of number [] = []
entries_of number (None ∷ places) = entries_of (number + 1) places
entries_of number (Some c ∷ places) = entering number c ∷ entries_of (number + 1) places

-- the postings of so many hours from one on, in the order of the hours
abbrev pub posting_at : Option Posting → List Request
posting_at None = []
posting_at (Some p) = posting p ∷ []

abbrev pub postings_of : (ℕ → Option Posting) → (hour n : ℕ) → List Request
postings_of posted hour zero = []
postings_of posted hour (suc n) = posting_at (posted hour) ++ postings_of posted (hour + 1) n

abbrev pub closing_of : State → List Request
closing_of Open = []
closing_of Closed = closing ∷ []

-- its contracts, then its postings in the order of the hours, then the closing if it is closed
abbrev pub only_standing : Opening → Standing → List Request
only_standing o s = entries_of 1 s.places ++ (postings_of s.posted 0 (hours_in o) ++ closing_of s.state)
