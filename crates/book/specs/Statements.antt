-- The statement of an agent, of a month that is open or closed, and a day of it. Assumes nothing.
use Rattle.std.specs.Prelude.{ℕ, ◌+◌, ◌-◌, ◌*◌, ◌||◌, List, [], ◌∷◌, take, drop, Option, Result, ◌==◌, nat_lt, slice_index_or}
use Rattle.std.specs.Int.{int_wrap, w64}
use Rattle.tally.specs.{declared.peak.Peak.Peak, Lines.balance_of, Money.lines_of, Peak.peak_of, Peak.no_peak, Peak.peak_joined, Total.total, Total.total_over}
use Rattle.calendar.specs.Limits.{hours_of}
use Rattle.forms.specs.Meaning.{Meaning}
use Rattle.settlement.specs.{declared.faults.BookFault.BookFault, declared.faults.BookFault.TheVariants.OutsideBook, Faults.met_if, Faults.first_met, Faults.answer_of, Holdings.Holding, Holdings.no_holding, Holdings.holding_joined}
use Rattle.book.specs.{declared.months.MonthFigures.MonthFigures, declared.statements.Statement.Statement, Memory.Memory, Memory.memory_fault, Rewriting.entry_place}

-- the peak of hours whose entries are these
abbrev pub peak_over : (hours : ℕ) → (ℕ → Holding) → Peak
peak_over hours entry =
    total_over no_peak peak_joined 0 hours (λ hour. peak_of (entry hour).second.withdrawn hour)

-- the statement that an account and the month's peak give: lines, their sum, energies and peak
abbrev pub statement_of : Holding → Peak → Statement
statement_of account peak = record {
  lines = account.first;
  balance = int_wrap w64 (balance_of (lines_of account.first));
  energy = account.second;
  peak = peak;
}

-- the statement of the agent at place i
abbrev pub statement_in : (hours i : ℕ) → Memory → Statement
statement_in hours i m =
    statement_of (slice_index_or m.accounts i no_holding)
    (peak_over hours (λ hour. slice_index_or m.entries (entry_place hours i hour) no_holding))

-- the faults of a statement: at last, that the agent is not in the book
abbrev pub statement_fault : Meaning → MonthFigures → (agent : ℕ) → Memory → Option BookFault
statement_fault form f agent m =
    let outside = agent == 0 || nat_lt f.agents agent in
    first_met (memory_fault form f m ∷ met_if outside OutsideBook ∷ [])

abbrev pub stated : Meaning → MonthFigures → (agent : ℕ) → Memory → Result Statement BookFault
stated form f agent m =
    answer_of (statement_in (hours_of f.days) (agent - 1) m) (statement_fault form f agent m)

-- ---- a day

-- the entries of an agent's day, the twenty-four from its first hour on, both counted from 0
abbrev pub day_of : (hours i day : ℕ) → List Holding → List Holding
day_of hours i day entries = take 24 (drop (i * hours + 24 * day) entries)

-- all of them together
abbrev pub day_sum : (hours i day : ℕ) → List Holding → Holding
day_sum hours i day entries = total no_holding holding_joined (day_of hours i day entries)

-- the faults of a day: at last, that the agent or the day, both from 1, is not in the book
abbrev pub day_fault : Meaning → MonthFigures → (agent day : ℕ) → Memory → Option BookFault
day_fault form f agent day m =
    let outside = (agent == 0 || nat_lt f.agents agent) || (day == 0 || nat_lt f.days day) in
    first_met (memory_fault form f m ∷ met_if outside OutsideBook ∷ [])

abbrev pub day_stated : Meaning → MonthFigures → (agent day : ℕ) → Memory → Result Holding BookFault
day_stated form f agent day m =
    let sum = day_sum (hours_of f.days) (agent - 1) (day - 1) m.entries in
    answer_of sum (day_fault form f agent day m)
