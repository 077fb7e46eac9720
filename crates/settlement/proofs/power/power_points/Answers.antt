use Rattle.std.proofs.Common.{refl, ap, ◌∙◌}
use Rattle.tally.specs.declared.money.MoneyLine.TheVariants.{Power}
use Rattle.settlement.{specs.Holdings.points_alone, proofs.Differences.difference}
use Rattle.settlement.proofs.power.power_points.Goals as goal

pub returns : goal.returns
returns c = c.points_alone.ensures ∙ ap (points_alone Power) (difference c.args.credit c.args.debit _ _ refl refl c.requires.credit_within c.requires.debit_within)
