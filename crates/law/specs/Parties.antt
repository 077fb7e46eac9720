-- Who is party to the contracts that stand. Assumes nothing.
use Rattle.std.specs.Prelude.{ℕ, ◌+◌, Bool, false, not, List, Some, None, Option}
use Rattle.std.specs.List.{list_all}
use Rattle.forms.specs.{declared.Contract.Contract, Parties.is_party_number}

-- whether an agent, counted from 0, is a party to what is in a contract place
abbrev pub is_party : ℕ → Option Contract → Bool
is_party i None = false
is_party i (Some c) = is_party_number c (i + 1)

-- whether it is a stranger to these places: party to none of the contracts that stand in them
abbrev pub is_stranger : ℕ → List (Option Contract) → Bool
is_stranger i places = list_all (λ place. not (is_party i place)) places
