-- The terms that a book may hold, by three tests. Assumes nothing.
use Rattle.std.specs.Prelude.{ℕ, Bool, true, not, ◌&&◌, ◌==◌, List, [], ◌∷◌, IsTrue, is_some, nat_le, nat_lt}
use Rattle.std.specs.List.{list_all}
use Rattle.calendar.specs.Limits.{most_hours}
use Rattle.forms.specs.{declared.Contract.Contract, declared.Parties.Parties, declared.Party.Party, Limits.most_agents, Roles.role_of, Roles.roles_fit, Parties.party_numbers, Parties.members_of}
use Rattle.valuation.specs.Limits.{most_energy, most_price}

-- A party is such as an agent may be: it has a role, and a capacity within its limit.
abbrev pub party_fits : Party → Bool
party_fits party = is_some (role_of party.role) && nat_le party.capacity most_energy

-- A number that an agent of some book has.
abbrev pub number_fits : ℕ → Bool
number_fits number = nat_le 1 number && nat_le number most_agents

-- No number of a list stands in it twice.
abbrev pub numbers_apart : List ℕ → Bool
numbers_apart [] = true
numbers_apart (number ∷ rest) = list_all (λ other. not (number == other)) rest && numbers_apart rest

-- The parties: apart from one another, agents of some book, and the seller in a role that may sell to the buyer's.
abbrev pub parties_fit : Contract → Parties → Bool
parties_fit terms parties =
    (list_all number_fits (party_numbers terms) && numbers_apart (party_numbers terms))
    && (list_all party_fits (members_of parties)
    && roles_fit parties.seller.role parties.buyer.role)

-- The hours: the first is not after the last, and both are within a month of so many.
abbrev pub hours_fit : (hours : ℕ) → Contract → Bool
hours_fit hours terms = nat_le terms.first terms.last && nat_lt terms.last hours

-- The other figures: the price, the quantities and the margin are within their limits.
abbrev pub figures_fit : Contract → Bool
figures_fit terms =
    nat_le terms.price most_price
    && (nat_le terms.peak most_energy && (nat_le terms.medium most_energy
    && (nat_le terms.base most_energy && nat_le terms.margin most_energy)))

-- The terms, between these parties, can stand in some book: the test, and that it is true.
unfoldable pub valid_terms : Contract → Parties → Bool
valid_terms terms parties =
    parties_fit terms parties && (hours_fit most_hours terms && figures_fit terms)

abbrev pub Valid : Contract → Parties → Type 0
Valid terms parties = IsTrue (valid_terms terms parties)
