use Rattle.std.proofs.Common.{◌≡◌}
use Rattle.std.specs.Slice.Iter.{chunks_rest}
use Rattle.tally.specs.Total.{total}
use Rattle.tally.proofs.folds.fold_days.Given as goal

-- what is summed so far, with the days that are left, is the month
abbrev pub invariant-loop-day : goal.invariant-loop-day
invariant-loop-day g l =
    let t = g.T.Tally in
    t.joined l.sum (total t.nothing t.joined (chunks_rest l.day-iterator)) ≡ total t.nothing t.joined l.month
