use Rattle.std.proofs.Common.{◌≡◌, ℕ, ◌<◌, length, get_or}
use Rattle.book.specs.Statements.{statement_in}
use Rattle.calendar.specs.Limits.{hours_of}
use Rattle.runs.specs.{Lent.memory_in, Reading.figures_in, Runs.no_statement}
use Rattle.runs.proofs.totals.fill_statements.Given as goal

abbrev pub invariant-loop-i : goal.invariant-loop-i
invariant-loop-i g l = record {
  long : length l.statements ≡ (figures_in l.month).agents;
  filled : (k : ℕ) → k < l.i → get_or l.statements k no_statement ≡ statement_in (hours_of (figures_in l.month).days) k (memory_in l.lent);
}
