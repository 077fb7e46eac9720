-- A book's opening, and what its host asks of it, as the subject has them. Assumes nothing.
use Rattle.std.specs.Prelude.{ℕ, Bool, true, false, if◌then◌else◌, List, [], ◌∷◌, length}
use Rattle.calendar.specs.{declared.calendars.Calendar.Calendar, Limits.hours_of}
use Rattle.packets.specs.declared.faults.ByteFault.{ByteFault}
use Rattle.forms.specs.declared.Contract.{Contract}
use Rattle.settlement.specs.{declared.agents.Agent.Agent, declared.states.State.State, declared.states.State.TheVariants.Open, declared.states.State.TheVariants.Closed, Posting.Posting}

-- what a book is opened with: its agents, and the days of its month, which follow a calendar
pub record Opening : Type 0 where
  pub agents : List Agent
  pub days : ℕ
  pub calendar : Calendar

-- how many agents it has
abbrev pub count_in : Opening → ℕ
count_in o = length o.agents

-- how many hours its month has
abbrev pub hours_in : Opening → ℕ
hours_in o = hours_of o.days

-- what a host asks of a book: post an hour, or correct it, from lines or from a packet that says them; post bytes that are no
-- packet, with what is wrong in them; withdraw an hour; enter a contract under a number, or cancel it; close the month; give an
-- agent's statement, provisional while the month is open and final once it is closed
pub data Request : Type 0 where
  posting : Posting → Request
  unread : ByteFault → Request
  withdrawal : (hour : ℕ) → Request
  entering : (number : ℕ) → Contract → Request
  cancelling : (number : ℕ) → Request
  closing : Request
  statement : (agent : ℕ) → Request

-- whether a host has a way to ask it: of an open month anything, of a closed one only statements
abbrev pub can_ask : State → Request → Bool
can_ask Open _ = true
can_ask Closed (statement agent) = true
can_ask Closed _ = false

-- the requests that are about contracts
abbrev pub about_contracts : Request → Bool
about_contracts (entering number c) = true
about_contracts (cancelling number) = true
about_contracts _ = false

-- the same list without them
abbrev pub without_contracts : List Request → List Request
without_contracts [] = []
without_contracts (r ∷ rs) = if about_contracts r then without_contracts rs else r ∷ without_contracts rs

-- of what was told to a list of requests, what was told to those that are not about contracts
abbrev pub told_without : {X : Type 0} → List Request → List X → List X
told_without [] told = []
told_without (r ∷ rs) [] = []
told_without (r ∷ rs) (x ∷ told) = if about_contracts r then told_without rs told else x ∷ told_without rs told
