use Rattle.calendar.specs.Limits.{hours_of}
use Rattle.book.proofs.Columns.{Rewritten, Settled}
use Rattle.book.proofs.rewrites.replace_hour.Given as goal

abbrev pub invariant-loop-i : goal.invariant-loop-i
invariant-loop-i l =
    Rewritten (hours_of l.stamp.days) l.stamp.hour l.stamp.within l.fresh l.initial.entries l.i l.entries
    × Settled (hours_of l.stamp.days) l.stamp.hour l.stamp.within l.fresh l.initial.entries l.initial.accounts l.i l.accounts
