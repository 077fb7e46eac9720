-- A book that hears further requests anew. Assumes nothing.
use Rattle.std.specs.Prelude.{Bool, true, ◌&&◌, List}
use Rattle.forms.specs.Meaning.{Meaning}
use Rattle.book.specs.{declared.months.MonthFigures.MonthFigures, Memory.Memory}
use Rattle.law.specs.Requests.{Request}
use Rattle.runs.specs.{Reading.state_of, Reading.figures_in, Runs.Kept, Runs.kept_of, Runs.answers_to, Runs.kept_after, Runs.all_done}
use Rattle.audit.specs.declared.again.Rerun.{Rerun}

-- the figures of its month, how it is kept, and whether all requests so far were done
pub record Running : Type 0 where
  pub figures : MonthFigures
  pub kept : Kept
  pub done : Bool

abbrev pub running_of : Rerun → Memory → Running
running_of rerun memory = record {
  figures = figures_in rerun.month;
  kept = kept_of (state_of rerun.month) memory;
  done = rerun.done;
}

-- what further requests leave
abbrev pub heard_anew : Meaning → List Request → Running → Running
heard_anew form requests book = record {
  figures = book.figures;
  kept = kept_after true form book.figures requests book.kept;
  done = book.done && all_done (answers_to true form book.figures requests book.kept);
}
