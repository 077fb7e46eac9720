-- Withdrawing the posting of an hour. Assumes nothing.
use Rattle.std.specs.Prelude.{ℕ, [], ◌∷◌, Option, ◌==◌, slice_index}
use Rattle.calendar.specs.Limits.{hours_of}
use Rattle.forms.specs.Meaning.{Meaning}
use Rattle.settlement.specs.{declared.faults.BookFault.BookFault, declared.faults.BookFault.TheVariants.FreeHour, Faults.met_if, Faults.first_met, Faults.of_posting, Holdings.no_holding, PostingFaults.hour_fault}
use Rattle.book.specs.{declared.months.MonthFigures.MonthFigures, Memory.Memory, Memory.memory_fault, Outcomes.Outcome, Outcomes.outcome, Rewriting.rewritten}

-- the faults of a withdrawal: at last, that the hour is free
abbrev pub withdraw_fault : Meaning → MonthFigures → (hour : ℕ) → Memory → Option BookFault
withdraw_fault form f hour m =
    first_met (memory_fault form f m ∷ of_posting (hour_fault (hours_of f.days) hour)
    ∷ met_if (slice_index m.marks hour == 0) (FreeHour hour) ∷ [])

-- a withdrawal leaves neutral entries
abbrev pub withdrawn : Meaning → MonthFigures → (hour : ℕ) → Memory → Outcome (Unit {0})
withdrawn form f hour m =
    outcome (withdraw_fault form f hour m) tt m
    (rewritten (hours_of f.days) hour 0 (λ i. no_holding) m)
