use Rattle.std.proofs.Common.{◌≡◌, [], sym, ap, ◌∙◌, arith}
use Rattle.std.proofs.lemmas.List.{drop_all}
use Rattle.std.specs.Slice.Iter.{chunks_rest}
use Rattle.tally.specs.Total.{total}
use Rattle.tally.proofs.Totals.{right_identity, total_next, total_days}
use Rattle.tally.proofs.folds.fold_days.Goals as goal

pub loop-day-preserved : goal.loop-day-preserved
loop-day-preserved g c =
    cc (total_next g.met.T.Tally.lawful c.loop-day.sum c.in-Some.day.now (chunks_rest c.next.new.self), c.in-Some.ensures.steps.1.0)

pub returns-clause-by_days : goal.returns-clause-by_days
returns-clause-by_days g c days few =
    let t = g.T.Tally in
    let none : chunks_rest c.loop-day.day-iterator ≡ [] = drop_all 0 (chunks_rest c.loop-day.day-iterator) (omega (arith, c.in-None.ensures.steps.1)) in
    sym (right_identity g.met.T.Tally.lawful c.loop-day.sum)
    ∙ ap (λ rest. t.joined c.loop-day.sum (total t.nothing t.joined rest)) (sym none)
    ∙ c.loop-day.invariant ∙ total_days g.met.T.Tally.lawful days c.args.month.now few
