-- What an accepted opening and what stands after any requests are known to be. Assumes nothing.
use Rattle.std.specs.List.{list_all}
use Rattle.std.proofs.Common.{◌≡◌, ℕ, ◌<◌, ◌≤◌, true, length, Some, None}
use Rattle.calendar.specs.{Calendar.calendar_fits, Limits.most_days}
use Rattle.forms.specs.{Meaning.Meaning, Limits.most_agents, Limits.most_contracts}
use Rattle.settlement.specs.{declared.states.State.TheVariants.Closed, Agents.agent_fits, Posting.Posting, PostingFaults.posting_fault, ContractFaults.place_fits}
use Rattle.law.specs.{Requests.Opening, Requests.count_in, Requests.hours_in, Standing.Standing, Standing.nothing_stands, Standing.setting_in, Faults.closing_fault}

-- an opening without fault
pub record Opened (o : Opening) : Type 0 where
  pub some_agents : 1 ≤ count_in o
  pub few_agents : count_in o ≤ most_agents
  pub some_days : 1 ≤ o.days
  pub few_days : o.days ≤ most_days
  pub calendar : calendar_fits o.calendar ≡ true
  pub agents : list_all agent_fits o.agents ≡ true

-- a posting may stand at an hour: it is one of that hour, and meets no fault
pub record MayStand (form : Meaning) (o : Opening) (hour : ℕ) (p : Posting) : Type 0 where
  pub at : p.hour ≡ hour
  pub faultless : posting_fault (setting_in form o nothing_stands) p ≡ None

-- what the faults have let in: every posting that stands may, every contract that stands may, and a closed month could be closed
pub record Sound (form : Meaning) (o : Opening) (s : Standing) : Type 0 where
  pub postings : (hour : ℕ) (p : Posting) → hour < hours_in o → s.posted hour ≡ Some p → MayStand form o hour p
  pub long : length s.places ≡ most_contracts
  pub contracts : list_all (place_fits (setting_in form o s)) s.places ≡ true
  pub closable : s.state ≡ Closed → closing_fault o s ≡ None
