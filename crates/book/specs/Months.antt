-- The month, open or closed: its figures. Assumes nothing.
use Rattle.std.specs.Prelude.{ℕ, Bool, ◌&&◌, List, Ok, Err, Option, Result, nat_le}
use Rattle.calendar.specs.{Limits.most_days, declared.calendars.Calendar.Calendar}
use Rattle.forms.specs.{declared.Contract.Contract, Limits.most_agents, Meaning.Meaning}
use Rattle.settlement.specs.{declared.agents.Agent.Agent, declared.faults.BookFault.BookFault, Setting.Setting}
use Rattle.book.specs.declared.months.{Extent.Extent, OpenMonth.OpenMonth, ClosedMonth.ClosedMonth, MonthFigures.MonthFigures}

-- the figures of a month to be opened
abbrev pub month_figures : (agents days : ℕ) → Calendar → MonthFigures
month_figures agents days calendar = record { agents = agents; days = days; calendar = calendar }

-- the figures of a month as it is looked at
abbrev pub figures_in : Extent → MonthFigures
figures_in month = month_figures month.agents month.days month.calendar

-- those of an open month, and of a closed one
abbrev pub figures_of : OpenMonth → MonthFigures
figures_of month = month_figures month.agents month.days (record { weekday = month.weekday })

abbrev pub closed_figures_of : ClosedMonth → MonthFigures
closed_figures_of month = month_figures month.agents month.days (record { weekday = month.weekday })

-- an opening's answer, by the figures of the month that it gives
abbrev pub opened_as : {F : Type 0} → Result OpenMonth F → Result MonthFigures F
opened_as (Ok month) = Ok (figures_of month)
opened_as (Err fault) = Err fault

-- a closing's answer, by the figures of the month that it gives: where it is refused, the open
-- month comes back beside the fault
abbrev pub closed_as : Result ClosedMonth (OpenMonth × BookFault) → Result MonthFigures BookFault
closed_as (Ok month) = Ok (closed_figures_of month)
closed_as (Err back) = Err back.1

-- what the hours of a month of these figures are settled with
abbrev pub setting_with : Meaning → MonthFigures → List Agent → List (Option Contract) → Setting
setting_with form f agents places = record {
  form = form;
  calendar = f.calendar;
  days = f.days;
  agents = agents;
  places = places;
}

-- a book has an agent at least, and a month a day
abbrev pub size_known : MonthFigures → Bool
size_known f =
    nat_le 1 f.agents && (nat_le f.agents most_agents
    && (nat_le 1 f.days && nat_le f.days most_days))
