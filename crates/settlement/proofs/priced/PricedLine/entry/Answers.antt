use Rattle.std.proofs.Common.{◌+◌, ℤ, pos, ◌-ℤ◌, ◌∙◌, arith, rules}
use lib.IntN.{+ℤ_idl, +ℤ_idr}
use Rattle.tally.{specs.declared.money.MoneyLine.TheVariants.Market, specs.declared.money.MoneyLine.TheVariants.Overcost, specs.EnergyLaws.energy_same, specs.Lines.no_lines, specs.Lines.alone, specs.Money.money_of, specs.Money.money_joined, specs.MoneyLaws.money_of_joined, proofs.PairLaws.pair_same}
use Rattle.settlement.{specs.Hour.market_line, specs.Hour.excess_on, proofs.Differences.difference}
use Rattle.settlement.proofs.priced.PricedLine.entry.Goals as goal

pub returns : goal.returns
returns c =
    let price = c.args.self.now.price in
    let line = c.args.self.now.line.now in
    let market : ℤ = market_line price line in
    let overcost : ℤ = pos (excess_on price line) -ℤ pos (c.args.caused + c.args.carried) in
    let earned = difference _ _ _ _ c.amount-earned.ensures.value c.amount-spent.ensures.value (omega (arith, c.amount-earned.ensures.bound)) (omega (arith, c.amount-spent.ensures.bound)) in
    let spare = difference _ _ _ _ c.excess.ensures.value (λ i. c.args.caused + c.args.carried) (omega (arith, c.excess.ensures.bound)) (omega (arith, c.requires.caused_within, c.requires.carried_within)) in
    pair_same _ _
    (c.join.ensures
    ∙ (λ t. money_joined (c.alone.ensures t) (c.alone-2.ensures t))
    ∙ (λ t. money_joined (money_of (alone Market (earned t))) (money_of (alone Overcost (spare t))))
    ∙ money_of_joined (alone Market market) (alone Overcost overcost)
    ∙ (λ t. money_of (record no_lines { market = +ℤ_idr market t; overcost = +ℤ_idl overcost t })))
    (energy_same _ _ (search rules) (search rules))
