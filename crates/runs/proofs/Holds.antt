-- How a book as it is kept holds what stands. Assumes nothing.
use Rattle.std.proofs.Common.{◌≡◌, ℕ, ◌*◌, ◌<◌, if◌then◌else◌, length, get_or, is_some, Option}
use Rattle.tally.specs.{Money.money_of, Energy.energy_of, Pair.pair_of}
use Rattle.forms.specs.Meaning.{Meaning}
use Rattle.settlement.specs.{Holdings.Holding, Holdings.no_holding, Holdings.entry_of, Posting.Posting}
use Rattle.book.specs.{declared.months.MonthFigures.MonthFigures, Rewriting.entry_place, Memory.Memory, Months.month_figures}
use Rattle.law.specs.{Requests.Opening, Requests.count_in, Requests.hours_in, Faults.withdrawn_of, Standing.Standing, Worked.figures_at, Worked.agent_lines, Worked.injected_of}
use Rattle.runs.specs.Runs.{Kept}

-- the figures of the month that an opening opens
abbrev pub figures_of_opening : Opening → MonthFigures
figures_of_opening o = month_figures (count_in o) o.days o.calendar

-- the mark of an hour: 1 where a posting stands
abbrev pub mark_for : Option Posting → ℕ
mark_for p = if is_some p then 1 else 0

-- an account: the exact whole numbers, each kept to its width
abbrev pub account_of : Meaning → Opening → Standing → ℕ → Holding
account_of form o s i = pair_of (money_of (agent_lines form o s i)) (energy_of (injected_of o s i) (withdrawn_of o s i))

-- memory holds what stands: the contract places are those that stand, marks tell posted hours, each entry is that of its hour's figures, and
-- each account that of the month's sums
pub record Held (form : Meaning) (o : Opening) (s : Standing) (m : Memory) : Type 0 where
  pub agents : m.agents ≡ o.agents
  pub accounts_long : length m.accounts ≡ count_in o
  pub marks_long : length m.marks ≡ hours_in o
  pub entries_long : length m.entries ≡ count_in o * hours_in o
  pub contracts : m.contracts ≡ s.places
  pub marks : (hour : ℕ) → hour < hours_in o → get_or m.marks hour 0 ≡ mark_for (s.posted hour)
  pub entries : (i hour : ℕ) → i < count_in o → hour < hours_in o → get_or m.entries (entry_place (hours_in o) i hour) no_holding ≡ entry_of (figures_at form o s i hour)
  pub accounts : (i : ℕ) → i < count_in o → get_or m.accounts i no_holding ≡ account_of form o s i

-- a book holds what stands: its month is open or closed as that is, and its memory holds it
pub record Holds (form : Meaning) (o : Opening) (s : Standing) (k : Kept) : Type 0 where
  pub state : k.state ≡ s.state
  pub memory : Held form o s k.memory
