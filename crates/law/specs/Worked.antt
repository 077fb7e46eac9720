-- The statement of an agent, worked from what stands as whole numbers. Agents are counted from 0. Assumes nothing.
use Rattle.std.specs.Prelude.{ℕ, List, ℤ, pos, Some, None, Option}
use Rattle.tally.specs.{declared.peak.Peak.Peak, declared.money.MoneyLine.TheVariants.Power, Peak.peak_of, Peak.no_peak, Peak.peak_joined, Total.total_over, Lines.Lines, Lines.lines_joined, Lines.alone, Lines.balance_of, Sums.lines_over, Sums.sum_to, Sums.sum_to_ℤ, Sums.int_sum_over}
use Rattle.forms.specs.Meaning.{Meaning}
use Rattle.settlement.specs.{declared.states.State.State, declared.states.State.TheVariants.Open, declared.states.State.TheVariants.Closed, Posting.line_at, Posting.Posting, Power.power_line, Setting.Setting, Hour.Figures, Hour.no_figures, Hour.residue_of, Legs.hour_of}
use Rattle.law.specs.{Requests.Opening, Requests.count_in, Requests.hours_in, Requests.Request, Standing.Standing, Standing.setting_in, Faults.withdrawn_in, Faults.withdrawn_of, Turns.after}

-- an agent's figures of an hour: those of the posting that stands there, with the standing contracts, or none
abbrev pub figures_from : Setting → (i : ℕ) → Option Posting → Figures
figures_from setting i None = no_figures
figures_from setting i (Some p) = hour_of setting p i

abbrev pub figures_at : Meaning → Opening → Standing → (i hour : ℕ) → Figures
figures_at form o s i hour = figures_from (setting_in form o s) i (s.posted hour)

-- ---- the lines

-- an agent's lines of the n hours from one on
abbrev pub lines_between : Meaning → Opening → Standing → (start n : ℕ) → (i : ℕ) → Lines
lines_between form o s start n i = lines_over start n (λ hour. (figures_at form o s i hour).lines)

-- closing gives the power line, which is 0 while the month is open
abbrev pub power_in : State → ℤ → ℤ
power_in Open points = pos 0
power_in Closed points = points

abbrev pub power_of : Opening → Standing → ℕ → ℤ
power_of o s i = power_in s.state (power_line o.agents (withdrawn_of o s) i)

-- an agent's lines of the month: those of its hours, and power
abbrev pub agent_lines : Meaning → Opening → Standing → ℕ → Lines
agent_lines form o s i = lines_joined (lines_between form o s 0 (hours_in o) i) (alone Power (power_of o s i))

abbrev pub agent_balance : Meaning → Opening → Standing → ℕ → ℤ
agent_balance form o s i = balance_of (agent_lines form o s i)

-- all balances together
abbrev pub balances_after : Meaning → Opening → Standing → ℤ
balances_after form o s = sum_to_ℤ (count_in o) (agent_balance form o s)

-- ---- energy

-- the energies of the standing hours; what an agent withdrew is counted with what stands
abbrev pub injected_in : ℕ → Option Posting → ℕ
injected_in i None = 0
injected_in i (Some p) = (line_at p.lines i).injected

abbrev pub injected_of : Opening → Standing → ℕ → ℕ
injected_of o s i = sum_to (hours_in o) (λ hour. injected_in i (s.posted hour))

-- the peak: the largest withdrawal of an hour, and of equal ones the earliest
abbrev pub peak_for : Opening → Standing → ℕ → Peak
peak_for o s i = total_over no_peak peak_joined 0 (hours_in o) (λ hour. peak_of (withdrawn_in i (s.posted hour)) hour)

-- ---- the statement

-- four lines, their sum, the energies and the peak
pub record Worked : Type 0 where
  pub lines : Lines
  pub balance : ℤ
  pub injected : ℕ
  pub withdrawn : ℕ
  pub peak : Peak

-- the statement of the agent at place i
abbrev pub worked : Meaning → Opening → Standing → ℕ → Worked
worked form o s i = record {
  lines = agent_lines form o s i;
  balance = agent_balance form o s i;
  injected = injected_of o s i;
  withdrawn = withdrawn_of o s i;
  peak = peak_for o s i;
}

-- and after a list of requests
abbrev pub statement_after : Meaning → Opening → List Request → ℕ → Worked
statement_after form o requests i = worked form o (after form o requests) i

-- ---- the residue

-- the residue of an hour, from its posting alone
abbrev pub residue_from : Option Posting → ℤ
residue_from None = pos 0
residue_from (Some p) = residue_of p

-- the residue of the n hours from one on
abbrev pub residue_between : Standing → (start n : ℕ) → ℤ
residue_between s start n = int_sum_over start n (λ hour. residue_from (s.posted hour))

-- and of all standing hours
abbrev pub residue_after : Opening → Standing → ℤ
residue_after o s = residue_between s 0 (hours_in o)
