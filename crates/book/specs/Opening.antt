-- Opening a month. Assumes nothing.
use Rattle.std.specs.Prelude.{not, ◌||◌, [], ◌∷◌, length, replicate, None, Option}
use Rattle.std.specs.List.{list_all}
use Rattle.calendar.specs.Calendar.{calendar_fits}
use Rattle.settlement.specs.{declared.faults.BookFault.BookFault, declared.faults.BookFault.TheVariants.OutsideBook, Agents.agent_fits, Faults.met_if, Faults.first_met, Holdings.no_holding}
use Rattle.book.specs.{declared.months.MonthFigures.MonthFigures, Memory.Memory, Memory.size_fault, Months.size_known, Outcomes.Outcome, Outcomes.outcome}

-- the faults of an opening: agents or days, then the memory's size, then the calendar or an agent's
-- figures
abbrev pub open_fault : MonthFigures → Memory → Option BookFault
open_fault f m =
    let outside = not (calendar_fits f.calendar) || not (list_all agent_fits m.agents) in
    first_met (met_if (not (size_known f)) OutsideBook ∷ size_fault f m
    ∷ met_if outside OutsideBook ∷ [])

-- all lines, energies, marks and contract places empty
abbrev pub emptied : Memory → Memory
emptied m = record m {
  accounts = replicate (length m.accounts) no_holding;
  contracts = replicate (length m.contracts) None;
  marks = replicate (length m.marks) 0;
  entries = replicate (length m.entries) no_holding;
}

abbrev pub opened : MonthFigures → Memory → Outcome MonthFigures
opened f m = outcome (open_fault f m) f m (emptied m)
