use Rattle.std.proofs.Common.{◌≡◌, ◌-◌, not}
use Rattle.tally.specs.Failing.{first_failing}
use Rattle.book.specs.Memory.{is_posted}
use Rattle.book.proofs.entering.check_covered.Given as goal

abbrev pub invariant-loop-hour : goal.invariant-loop-hour
invariant-loop-hour l =
    first_failing (λ hour. not (is_posted l.marks hour)) l.hour (l.hour-end - l.hour)
    ≡ first_failing (λ hour. not (is_posted l.marks hour)) l.initial.hour (l.hour-end - l.initial.hour)
