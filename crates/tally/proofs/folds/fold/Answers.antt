use Rattle.std.proofs.Common.{rules, tests}
use Rattle.std.proofs.lemmas.Iterator.{YieldsList-from_slice, Consumers.fold_from_yields_List}
use Rattle.tally.proofs.Totals.{total_fold}
use Rattle.tally.proofs.folds.fold.Goals as goal

pub returns : goal.returns
returns g c =
    let folded = fold_from_yields_List _ g.T.Tally.joined _ _ c.fold.ensures.ran (YieldsList-from_slice c.args.items.now cc) (λ a x r q k. search (rules, tests)) in
    cc (folded, total_fold g.met.T.Tally.lawful c.args.items.now)
