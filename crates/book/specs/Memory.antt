-- The memory of a book that the host lends, and what a call finds wrong in it. Assumes nothing.
use Rattle.std.specs.Prelude.{ℕ, ◌*◌, Bool, not, ◌&&◌, List, [], ◌∷◌, length, Option, ◌==◌, nat_le, slice_index}
use Rattle.std.specs.List.{list_all}
use Rattle.calendar.specs.Limits.{hours_of}
use Rattle.forms.specs.{declared.Contract.Contract, Limits.most_contracts, Meaning.Meaning}
use Rattle.valuation.specs.Limits.{most_energy}
use Rattle.settlement.specs.{declared.agents.Agent.Agent, declared.faults.BookFault.BookFault, declared.faults.BookFault.TheVariants.WrongSize, declared.faults.BookFault.TheVariants.StoredOutside, Agents.agent_fits, ContractFaults.place_fits, Faults.met_if, Faults.first_met, Holdings.Holding, Holdings.all_withdrawn, Limits.most_month_energy, Setting.Setting}
use Rattle.book.specs.{declared.months.MonthFigures.MonthFigures, Months.setting_with}

-- all memory of a book: a record and an account per agent, the contract places, a mark per hour,
-- and an entry per agent and hour, agent after agent
pub record Memory : Type 0 where
  pub agents : List Agent
  pub accounts : List Holding
  pub contracts : List (Option Contract)
  pub marks : List ℕ
  pub entries : List Holding

-- all memory, from its parts
abbrev pub memory_of :
    List Agent → List Holding → List (Option Contract) → List ℕ → List Holding → Memory
memory_of agents accounts contracts marks entries = record {
  agents = agents;
  accounts = accounts;
  contracts = contracts;
  marks = marks;
  entries = entries;
}

-- whether a mark says that a posting stands at an hour
abbrev pub is_posted : List ℕ → ℕ → Bool
is_posted marks hour = not (slice_index marks hour == 0)

-- what the hours of a month of these figures are settled with
abbrev pub setting_in : Meaning → MonthFigures → Memory → Setting
setting_in form f m = setting_with form f m.agents m.contracts

-- ---- what may be wrong with it

-- memory of the size of a book of these figures
abbrev pub sized : MonthFigures → Memory → Bool
sized f m =
    (length m.agents == f.agents) && (length m.accounts == f.agents
    && (length m.contracts == most_contracts && (length m.marks == hours_of f.days
    && length m.entries == f.agents * hours_of f.days)))

-- a mark is 0, free, or 1, posted
abbrev pub mark_fits : ℕ → Bool
mark_fits mark = nat_le mark 1

-- energies of at most so many kWh
abbrev pub energy_within : ℕ → Holding → Bool
energy_within most holding =
    nat_le holding.second.injected most && nat_le holding.second.withdrawn most

-- stored figures are within their limits: agents, contracts by the test of an entry, marks, and the
-- energies of entries, those of an hour, of accounts, those of a month, and so of all withdrawn
-- energy together
abbrev pub stored_fits : Meaning → MonthFigures → Memory → Bool
stored_fits form f m =
    list_all agent_fits m.agents && (list_all (place_fits (setting_in form f m)) m.contracts
    && (list_all mark_fits m.marks && (list_all (energy_within most_energy) m.entries
    && (list_all (energy_within most_month_energy) m.accounts
    && nat_le (all_withdrawn m.accounts) most_month_energy))))

-- 1: memory of the wrong size
abbrev pub size_fault : MonthFigures → Memory → Option BookFault
size_fault f m = met_if (not (sized f m)) WrongSize

-- 2: a stored figure outside its limit
abbrev pub stored_fault : Meaning → MonthFigures → Memory → Option BookFault
stored_fault form f m = met_if (not (stored_fits form f m)) StoredOutside

-- the faults of memory, of which each call on a month tells the first before all others
abbrev pub memory_fault : Meaning → MonthFigures → Memory → Option BookFault
memory_fault form f m = first_met (size_fault f m ∷ stored_fault form f m ∷ [])
