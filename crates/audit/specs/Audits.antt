-- When an audit is refused, that its books were run on memory, and that the law holds of them. Assumes nothing.
use Rattle.std.specs.Prelude.{◌≡◌, ℕ, Bool, true, false, not, List, [], ◌∷◌, map, length, ℤ, Option}
use Rattle.settlement.specs.{declared.faults.BookFault.BookFault, declared.faults.BookFault.TheVariants.WrongSize, declared.faults.BookFault.TheVariants.OutsideBook, Faults.met_if, Faults.first_met}
use Rattle.book.specs.{declared.months.MonthFigures.MonthFigures, declared.statements.Statement.Statement, Memory.Memory, Months.size_known, Opening.open_fault}
use Rattle.law.specs.{Law.Book, Law.Settled, Requests.told_without, Replies.Reply}
use Rattle.runs.specs.{Reading.Answer, Reading.reply_of, Reading.worked_in, Runs.statements_in}
use Rattle.audit.specs.{declared.audits.Report.Report, Cases.Case, Cases.opening_in, Cases.again, Cases.ended, Cases.answered, Found.Found, Found.places_fit}

-- the faults of an audit of so many calls, in the order of an opening's: agents or days, then a place for each answer and each statement, and the
-- memory's size, then the weekday or an agent's figures
abbrev pub audit_fault : MonthFigures → (calls : ℕ) → Memory → Found → Option BookFault
audit_fault f calls m found =
    first_met (met_if (not (size_known f)) OutsideBook
    ∷ met_if (not (places_fit calls (length m.agents) found)) WrongSize ∷ open_fault f m ∷ [])

-- a book was run on memory: its answers are those that its calls were answered one after another, and its statements those of memory at the end
pub record RanOnMemory (contracts : Bool) (case : Case) (m : Memory)
    (answers : List Answer) (statements : List Statement) : Type 0 where
  pub told : answers ≡ answered contracts case m
  pub stated : statements ≡ statements_in case.figures (ended contracts case m).memory

-- all three were: the third on what stands in the first
pub record AllRan (case : Case) (m : Memory) (found : Found) : Type 0 where
  pub first : RanOnMemory true case m found.answers found.statements
  pub second : RanOnMemory false case m found.answers_without found.statements_without
  pub third : RanOnMemory true (again case) m (answered true (again case) m) found.statements_again

-- ---- the books

-- a book as it was run, by what it was told, its statements and all balances together
abbrev pub book_of : List Reply → List Statement → ℤ → Book
book_of told statements balances =
    record { told = told; statements = map worked_in statements; balances = balances }

-- the first, as an audit finds it: what each call was answered, every agent's statement, and all balances together
abbrev pub first_book : Found → Report → Book
first_book found report = book_of (map reply_of found.answers) found.statements report.balances

-- the second: what each call was answered that is not about contracts
abbrev pub second_book : Case → Found → Report → Book
second_book case found report =
    let told = told_without case.requests (map reply_of found.answers_without) in
    book_of told found.statements_without report.balances_without

-- the third, which was told what its run gives
abbrev pub third_book : Case → Memory → Found → Report → Book
third_book case m found report =
    let told = map reply_of (answered true (again case) m) in
    book_of told found.statements_again report.balances_again

-- the law holds of all three
abbrev pub SettledIn : Case → Memory → Found → Report → Type 0
SettledIn case m found report =
    Settled case.form (opening_in case) case.requests
    (first_book found report) (second_book case found report) (third_book case m found report)
    report.residue
