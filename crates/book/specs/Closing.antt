-- Closing a month. Assumes nothing.
use Rattle.std.specs.Prelude.{ℕ, [], ◌∷◌, List, Option}
use Rattle.std.specs.Option.{option_map}
use Rattle.tally.specs.Failing.{first_failing}
use Rattle.calendar.specs.Limits.{hours_of}
use Rattle.forms.specs.Meaning.{Meaning}
use Rattle.settlement.specs.{declared.faults.BookFault.BookFault, declared.faults.BookFault.TheVariants.MissingHour, declared.faults.BookFault.TheVariants.NoPowerCarrier, Faults.met_if, Faults.first_met, Holdings.withdrawn_on, Power.power_uncarried, Power.accounts_charged}
use Rattle.book.specs.{declared.months.MonthFigures.MonthFigures, Memory.Memory, Memory.is_posted, Memory.memory_fault, Outcomes.Outcome, Outcomes.outcome}

-- 10: the first hour of a month of so many at which nothing stands
abbrev pub missing_fault : (hours : ℕ) → (marks : List ℕ) → Option BookFault
missing_fault hours marks =
    option_map (λ hour. MissingHour hour) (first_failing (is_posted marks) 0 hours)

-- the faults of a closing: an hour is missing, and at last that power is due and nothing carries it
abbrev pub close_fault : Meaning → MonthFigures → Memory → Option BookFault
close_fault form f m =
    first_met (memory_fault form f m ∷ missing_fault (hours_of f.days) m.marks
    ∷ met_if (power_uncarried m.agents (withdrawn_on m.accounts)) NoPowerCarrier ∷ [])

-- every account gains its power line
abbrev pub charged : Memory → Memory
charged m = record m { accounts = accounts_charged m.agents m.accounts }

abbrev pub closed : Meaning → MonthFigures → Memory → Outcome MonthFigures
closed form f m = outcome (close_fault form f m) f m (charged m)
