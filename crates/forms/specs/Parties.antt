-- The parties to a contract and their legs, as lists: what is said of each party is said over these. Assumes nothing.
use Rattle.std.specs.Prelude.{ℕ, Bool, ◌==◌, List, [], ◌∷◌, ℤ, pos, ◌+ℤ◌}
use Rattle.std.specs.List.{list_any, zip}
use Rattle.forms.specs.declared.{Contract.Contract, Legs.Legs, Parties.Parties, Party.Party}

-- the numbers of a contract's parties
abbrev pub party_numbers : Contract → List ℕ
party_numbers terms = terms.seller ∷ terms.buyer ∷ []

-- the parties themselves, in the same order
abbrev pub members_of : Parties → List Party
members_of parties = parties.seller ∷ parties.buyer ∷ []

-- the points of their legs, in the same order
abbrev pub points_of : Legs → List ℤ
points_of legs = legs.seller ∷ legs.buyer ∷ []

-- each party's number beside its points
abbrev pub legs_by_party : Contract → Legs → List (ℕ × ℤ)
legs_by_party terms legs = zip (party_numbers terms) (points_of legs)

-- the number is that of a party
abbrev pub is_party_number : Contract → ℕ → Bool
is_party_number terms number = list_any (λ party. party == number) (party_numbers terms)

-- what points come to together
abbrev pub points_together : List ℤ → ℤ
points_together [] = pos 0
points_together (points ∷ rest) = points +ℤ points_together rest
