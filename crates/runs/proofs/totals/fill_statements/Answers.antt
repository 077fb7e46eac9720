use Rattle.std.proofs.Common.{arith}
use Rattle.std.proofs.lemmas.List.FromFn.{fill_by_all}
use Rattle.runs.specs.Runs.{no_statement}
use Rattle.runs.proofs.totals.fill_statements.Goals as goal

pub returns-clause-stated : goal.returns-clause-stated
returns-clause-stated g c = fill_by_all _ c.loop-i.statements _ no_statement c.loop-i.invariant.long (λ k within. c.loop-i.invariant.filled k (omega (arith, c.loop-i.invariant.long)))
