-- What forms keep: quantities within their limit, and legs within theirs that cancel. Assumes nothing.
use Rattle.std.specs.Prelude.{◌≡◌, ℕ, ◌*◌, ◌/◌, ◌≤◌, Bool, true, false, IsTrue, if◌then◌else◌, ◌==◌, [], ◌∷◌, ℤ, pos, ◌+ℤ◌, nat_abs}
use Rattle.std.proofs.Math.Nat.{div-le_of_le-mul}
use Rattle.std.proofs.lemmas.{Bool.cond_both, Bool.Decides.nat_tests, Int.ints, List.Elements.All-nil, List.Elements.All-cons}
use Rattle.std.proofs.Common.{mul_comm, mul-le-mul_left, arith}
use Rattle.calendar.specs.declared.bands.Band.{Band, TheVariants.Peak, TheVariants.Medium, TheVariants.Base}
use Rattle.forms.specs.{Kinds.quantity_in, Kinds.block, Kinds.share_takes, Kinds.shared_energy, Kinds.share, Known.figures_known, Known.contract_price_le, Known.prices_known, Known.price_le, Known.injected_le, Known.withdrawn_among, Layers.Rule, Layers.NeverRaises, Layers.less_margin, Layers.up_to_capacity, Layers.layered, Layers.by_kind, Layers.capped, Layers.lowered, Layers.product_meaning, Limits.most_leg, Market.factor_at, Market.value_of, Market.cost_of, Market.market_legs, Meaning.Meaning, Meaning.Askable, Meaning.Balanced, Meaning.Keeps, Measured.prices_fit, Measured.Measured, Roles.distributes, Roles.has_role, Terms.figures_fit, declared.Contract.Contract, declared.Delivery.Delivery, declared.Delivery.TheVariants.MarketBar, declared.Delivery.TheVariants.SellerNode, declared.Delivery.TheVariants.BuyerNode, declared.Facts.Facts, declared.Legs.Legs, declared.Parties.Parties}
use Rattle.valuation.proofs.Amounts.{amount_of_le, cost_amount_of_le}
use Rattle.valuation.specs.Limits.{most_energy, most_factor, most_amount, most_cost_amount}

-- ---- quantities

-- a band's quantity
pub quantity_in_le : (band : Band) (terms : Contract) → IsTrue (figures_fit terms) → quantity_in band terms ≤ most_energy
quantity_in_le Peak terms figures = grind (arith, nat_tests)
quantity_in_le Medium terms figures = grind (arith, nat_tests)
quantity_in_le Base terms figures = grind (arith, nat_tests)

-- a share's buyer is a distributor
pub share_buyer : (terms : Contract) (parties : Parties) → IsTrue (share_takes terms parties) →
    IsTrue (has_role distributes parties.buyer.role)
share_buyer terms parties taken = grind (arith, nat_tests)

-- and its withdrawn energy is among that of all distributors
pub share_among : (terms : Contract) (parties : Parties) (facts : Facts) → IsTrue (share_takes terms parties) →
    Measured parties facts → facts.withdrawn ≤ facts.distributors_withdrawn
share_among terms parties facts taken measured = withdrawn_among parties facts measured (grind (arith, nat_tests))

-- a share of the injected energy is at most all of it
pub share_le : (injected withdrawn all : ℕ) → withdrawn ≤ all → injected * withdrawn / all ≤ injected
share_le injected withdrawn all among =
    div-le_of_le-mul all (omega (arith, mul-le-mul_left injected among, mul_comm injected all))

pub shared_energy_le : (facts : Facts) → facts.injected ≤ most_energy → facts.withdrawn ≤ facts.distributors_withdrawn →
    shared_energy facts ≤ most_energy
shared_energy_le facts injected among =
    cond_both (facts.distributors_withdrawn == 0) _ _ (λ x. x ≤ most_energy) (λ _. omega arith)
    (λ _. omega (arith, share_le facts.injected facts.withdrawn facts.distributors_withdrawn among))

-- ---- legs

-- legs are balanced that are each within the limit and cancel
abbrev Within : ℤ → Type 0
Within points = nat_abs points ≤ most_leg

pub two_balanced : (legs : Legs) → nat_abs legs.seller ≤ most_leg → nat_abs legs.buyer ≤ most_leg →
    legs.seller +ℤ legs.buyer ≡ pos 0 → Balanced legs
two_balanced legs seller buyer cancel = record {
  within = All-cons Within legs.seller (legs.buyer ∷ []) seller (All-cons Within legs.buyer [] buyer (All-nil Within));
  cancel = omega (arith, ints);
}

-- the factor at each place
pub factor_le : (delivery : Delivery) (parties : Parties) (facts : Facts) → Measured parties facts →
    factor_at delivery facts ≤ most_factor
factor_le delivery parties facts measured = at delivery (prices_known parties facts measured)
  where
    at : (place : Delivery) → IsTrue (prices_fit facts) → factor_at place facts ≤ most_factor
    at MarketBar prices = omega arith
    at SellerNode prices = grind (arith, nat_tests)
    at BuyerNode prices = grind (arith, nat_tests)

-- the legs of a contract for differences, under terms and facts by which they may be asked for
pub market_balanced : {taken : Bool} (terms : Contract) (parties : Parties) (facts : Facts) (quantity : ℕ) →
    Askable taken terms parties facts → quantity ≤ most_energy → Balanced (market_legs terms facts quantity)
market_balanced terms parties facts quantity asked within =
    let factor = factor_le terms.delivery parties facts asked.measured in
    let value : value_of terms facts quantity ≤ most_amount =
    amount_of_le quantity _ facts.price within factor (price_le parties facts asked.measured) in
    let cost : cost_of terms quantity ≤ most_cost_amount =
    cost_amount_of_le quantity terms.price within (contract_price_le terms parties asked.valid) in
    two_balanced (market_legs terms facts quantity) (omega (arith, ints)) (omega (arith, ints)) (omega (arith, ints))

-- ---- forms

-- the two kinds
pub block_keeps : Keeps block
block_keeps = record {
  quantity = λ terms parties facts asked. quantity_in_le facts.band terms (figures_known terms parties asked.valid);
  legs = λ terms parties facts. market_balanced terms parties facts;
}

pub share_keeps : Keeps share
share_keeps = record {
  quantity = λ terms parties facts asked.
      shared_energy_le facts (injected_le parties facts asked.measured)
      (share_among terms parties facts asked.taken asked.measured);
  legs = λ terms parties facts. market_balanced terms parties facts;
}

-- a layer, which lowers quantities alone
pub layered_keeps : {rule : Rule} → NeverRaises rule → {form : Meaning} → Keeps form → Keeps (layered rule form)
layered_keeps {rule} lowers {form} keeps = record {
  quantity = λ terms parties facts asked.
      let lowered_le = lowers terms parties (form.quantity terms parties facts) in
      omega (arith, keeps.quantity terms parties facts asked);
  legs = keeps.legs;
}

-- two forms as one
either_keeps : (test : Bool) {first second : Meaning} → Keeps first → Keeps second →
    Keeps (if test then first else second)
either_keeps true first second = first
either_keeps false first second = second

pub by_kind_keeps : (kind : ℕ) {first second : Meaning} → Keeps first → Keeps second → Keeps (by_kind kind first second)
by_kind_keeps kind first second = record {
  quantity = λ terms. (either_keeps (terms.kind == kind) first second).quantity terms;
  legs = λ terms. (either_keeps (terms.kind == kind) first second).legs terms;
}

-- the product
pub capped_keeps : {form : Meaning} → Keeps form → Keeps (capped form)
capped_keeps keeps = layered_keeps {rule = up_to_capacity} (λ terms parties quantity. omega arith) keeps

pub lowered_keeps : {form : Meaning} → Keeps form → Keeps (lowered form)
lowered_keeps keeps = layered_keeps {rule = less_margin} (λ terms parties quantity. omega arith) keeps

pub product_keeps : Keeps product_meaning
product_keeps = by_kind_keeps 1 (capped_keeps block_keeps) (capped_keeps (lowered_keeps share_keeps))
