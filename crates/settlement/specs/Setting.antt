-- What the hours of a month are settled with. Assumes nothing.
use Rattle.std.specs.Prelude.{ℕ, List, length, Option}
use Rattle.calendar.specs.{Limits.hours_of, declared.calendars.Calendar.Calendar}
use Rattle.forms.specs.{declared.Contract.Contract, Meaning.Meaning}
use Rattle.settlement.specs.declared.{agents.Agent.Agent, settings.Setting.Setting as LentSetting}

-- the form that contracts are asked of, the month's calendar and its days, the agents, and the contract places
pub record Setting : Type 0 where
  pub form : Meaning
  pub calendar : Calendar
  pub days : ℕ
  pub agents : List Agent
  pub places : List (Option Contract)

-- the setting whose agents and contract places lie in memory that is lent, with what its form means
abbrev pub setting_of : {F : Type 0} → Meaning → LentSetting F → Setting
setting_of form s = record {
  form = form;
  calendar = s.calendar;
  days = s.days;
  agents = s.agents.now;
  places = s.contracts.now;
}

-- how many hours the month has
abbrev pub hours_in : Setting → ℕ
hours_in setting = hours_of setting.days

-- how many agents there are
abbrev pub count_in : Setting → ℕ
count_in setting = length setting.agents
