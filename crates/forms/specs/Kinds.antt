-- The two kinds of contract. Assumes nothing.
use Rattle.std.specs.Prelude.{ℕ, ◌*◌, ◌/◌, Bool, if◌then◌else◌, ◌&&◌, ◌==◌, nat_le}
use Rattle.calendar.specs.declared.bands.Band.{Band, TheVariants.Peak, TheVariants.Medium, TheVariants.Base}
use Rattle.forms.specs.{Market.market_legs, Meaning.Meaning, Roles.generates, Roles.distributes, Roles.has_role, declared.Contract.Contract, declared.Facts.Facts, declared.Parties.Parties}

-- The quantity of a band.
abbrev pub quantity_in : Band → Contract → ℕ
quantity_in Peak terms = terms.peak
quantity_in Medium terms = terms.medium
quantity_in Base terms = terms.base

-- A block has kind 1, no margin, and quantities up to the seller's capacity; an hour has the quantity of its band.
abbrev pub block_takes : Contract → Parties → Bool
block_takes terms parties =
    (terms.kind == 1)
    && (terms.margin == 0
    && (nat_le terms.peak parties.seller.capacity
    && (nat_le terms.medium parties.seller.capacity && nat_le terms.base parties.seller.capacity)))

abbrev pub block : Meaning
block = record {
  takes = block_takes;
  quantity = λ terms parties facts. quantity_in facts.band terms;
  legs = λ terms parties facts quantity. market_legs terms facts quantity;
}

-- A share has kind 2 and no quantities, and is between a generator and a distributor.
abbrev pub share_takes : Contract → Parties → Bool
share_takes terms parties =
    (terms.kind == 2)
    && ((terms.peak == 0 && (terms.medium == 0 && terms.base == 0))
    && (has_role generates parties.seller.role && has_role distributes parties.buyer.role))

-- An hour has the seller's injected energy in the proportion of the buyer's withdrawn energy to that of all distributors, rounded
-- down; nothing, where they withdrew nothing.
abbrev pub shared_energy : Facts → ℕ
shared_energy facts =
    if facts.distributors_withdrawn == 0 then 0
    else (facts.injected * facts.withdrawn / facts.distributors_withdrawn)

abbrev pub share : Meaning
share = record {
  takes = share_takes;
  quantity = λ terms parties facts. shared_energy facts;
  legs = λ terms parties facts quantity. market_legs terms facts quantity;
}
