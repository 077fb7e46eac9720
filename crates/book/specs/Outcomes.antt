-- What a call on a book comes to. Assumes nothing.
use Rattle.std.specs.Prelude.{Some, None, Ok, Err, Option, Result}
use Rattle.settlement.specs.declared.faults.BookFault.{BookFault}
use Rattle.book.specs.Memory.{Memory}

-- its answer, and all memory after it
pub record Outcome (X : Type 0) : Type 0 where
  pub answer : Result X BookFault
  pub memory : Memory

-- from its parts
abbrev pub outcome_of : {X : Type 0} → Result X BookFault → Memory → Outcome X
outcome_of answer memory = record { answer = answer; memory = memory }

-- a call that meets this fault, if any, leaves all memory as it was
abbrev pub outcome : {X : Type 0} → Option BookFault → X → (before after : Memory) → Outcome X
outcome None x before after = outcome_of (Ok x) after
outcome (Some fault) x before after = outcome_of (Err fault) before
