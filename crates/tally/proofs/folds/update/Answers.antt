use Rattle.tally.proofs.Totals.{total_set}
use Rattle.tally.proofs.folds.update.Goals as goal

-- what `opposite` promised takes the old item out, and the new one takes its place
pub returns-clause-keeps : goal.returns-clause-keeps
returns-clause-keeps g c xs i within stood sum =
    cc (total_set g.met.T.Tally.lawful xs i c.args.old c.opposite.result c.args.new c.opposite.ensures.cancels within stood)
