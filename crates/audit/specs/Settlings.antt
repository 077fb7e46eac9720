-- A book settled from its opening on, and what the first leaves for the third. Assumes nothing.
use Rattle.std.specs.Prelude.{◌≡◌, List}
use Rattle.book.specs.declared.{months.MonthFigures.MonthFigures, statements.Statement.Statement}
use Rattle.runs.specs.Runs.{Kept, statements_in, together}
use Rattle.audit.specs.{declared.again.Left.Left, declared.settling.Settlement.Settlement, Cases.Case, Cases.standing_in, Cases.FirstAnswers}

-- what a book that is kept so came to: every agent's statement, whether its month is open or closed, and all balances together
pub record Came (f : MonthFigures) (kept : Kept) (statements : List Statement)
    (settlement : Settlement) : Type 0 where
  pub stated : statements ≡ statements_in f kept.memory
  pub state : settlement.state ≡ kept.state
  pub balances : settlement.balances ≡ together (statements_in f kept.memory)

-- what the first book left: its answers, its contract places and whether its month is open or closed
pub record FirstLeft (case : Case) (left : Left) : Type 0 where
  pub answers : FirstAnswers case left.answers.now
  pub places : left.places.now ≡ (standing_in case).places
  pub state : left.state ≡ (standing_in case).state
