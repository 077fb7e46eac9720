-- What the daily profile keeps: a part of the base quantity, and the cost of an energy, are within their limits. Assumes nothing.
use Rattle.std.proofs.Common.{rules, arith}
use Rattle.std.proofs.lemmas.Int.{ints}
use Rattle.calendar.specs.declared.bands.Band.TheVariants.{Base}
use Rattle.forms.specs.{Kept.quantity_in_le, Kept.two_balanced, Known.figures_known, Known.contract_price_le, Meaning.Keeps}
use Rattle.profile.specs.Profile.{profile}
use Rattle.valuation.proofs.Amounts.{cost_amount_of_le}

-- its quantity and its legs are within their limits, and its legs cancel
pub profile_keeps : Keeps profile
profile_keeps = record {
  quantity = λ terms parties facts asked.
      let base = quantity_in_le Base terms (figures_known terms parties asked.valid) in search rules;
  legs = λ terms parties facts quantity asked within.
      let cost = cost_amount_of_le quantity terms.price within (contract_price_le terms parties asked.valid) in
      two_balanced _ (omega (arith, ints)) (omega (arith, ints)) (omega (arith, ints));
}
