-- The facts of an hour, as an accepted posting can have them. Assumes nothing.
use Rattle.std.specs.Prelude.{◌+◌, Bool, if◌then◌else◌, ◌&&◌, IsTrue, nat_le}
use Rattle.forms.specs.{declared.Facts.Facts, declared.Parties.Parties, Roles.distributes, Roles.has_role}
use Rattle.valuation.specs.Limits.{most_energy, most_price, least_factor, most_factor}

-- The price and both node factors are within their limits.
abbrev pub prices_fit : Facts → Bool
prices_fit facts =
    nat_le facts.price most_price
    && ((nat_le least_factor facts.seller_factor && nat_le facts.seller_factor most_factor)
    && (nat_le least_factor facts.buyer_factor && nat_le facts.buyer_factor most_factor))

-- All withdrawn energy together is within its limit. A distributor's own is among that of all distributors, and any other
-- buyer's comes on top of it.
abbrev pub withdrawn_fits : Parties → Facts → Bool
withdrawn_fits parties facts =
    if has_role distributes parties.buyer.role
    then (nat_le facts.withdrawn facts.distributors_withdrawn
    && nat_le facts.distributors_withdrawn most_energy)
    else nat_le (facts.withdrawn + facts.distributors_withdrawn) most_energy

-- The facts can be those of an accepted posting: the test, and that it is true.
unfoldable pub measured_facts : Parties → Facts → Bool
measured_facts parties facts =
    prices_fit facts && (nat_le facts.injected most_energy && withdrawn_fits parties facts)

abbrev pub Measured : Parties → Facts → Type 0
Measured parties facts = IsTrue (measured_facts parties facts)
