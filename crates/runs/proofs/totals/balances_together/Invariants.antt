use Rattle.std.proofs.Common.{◌≡◌, w64}
use Rattle.std.specs.Int.{int_wrap}
use Rattle.tally.specs.Sums.{sum_to_ℤ}
use Rattle.runs.specs.Runs.{balance_at}
use Rattle.runs.proofs.totals.balances_together.Given as goal

abbrev pub invariant-loop-statement : goal.invariant-loop-statement
invariant-loop-statement l = l.sum ≡ int_wrap w64 (sum_to_ℤ l.statement-index (balance_at l.statements))
