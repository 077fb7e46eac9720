-- When the same stands in two books. Assumes nothing.
use Rattle.std.specs.Prelude.{◌≡◌, ℕ, ◌<◌, List, [], ◌∷◌, Some, None, Option, IsPermutation}
use Rattle.forms.specs.declared.Contract.{Contract}
use Rattle.law.specs.{Requests.Opening, Requests.hours_in, Standing.Standing}

-- the contracts that stand, in the order of their numbers
abbrev pub standing_contracts : List (Option Contract) → List Contract
standing_contracts [] = []
standing_contracts (None ∷ places) = standing_contracts places
standing_contracts (Some c ∷ places) = c ∷ standing_contracts places

-- the same stands in two books: equal postings at each hour, the same contracts under whatever numbers, and both are open or both
-- closed
pub record Level (o : Opening) (s t : Standing) : Type 0 where
  pub hours : (hour : ℕ) → hour < hours_in o → s.posted hour ≡ t.posted hour
  pub contracts : IsPermutation (standing_contracts s.places) (standing_contracts t.places)
  pub state : s.state ≡ t.state
