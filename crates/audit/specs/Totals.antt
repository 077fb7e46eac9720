-- When the settlement of one book is refused, and that the law holds of it. Assumes nothing.
use Rattle.std.specs.Prelude.{ℕ, Bool, true, false, not, ◌&&◌, List, [], ◌∷◌, map, length, Option, ◌==◌}
use Rattle.settlement.specs.{declared.faults.BookFault.BookFault, declared.faults.BookFault.TheVariants.WrongSize, declared.faults.BookFault.TheVariants.OutsideBook, Faults.met_if, Faults.first_met}
use Rattle.book.specs.{declared.months.MonthFigures.MonthFigures, declared.statements.Statement.Statement, Memory.Memory, Months.size_known, Opening.open_fault}
use Rattle.law.specs.{Law.Book, Law.Settled, Requests.told_without, Replies.Reply}
use Rattle.runs.specs.{Reading.Answer, Reading.reply_of, Runs.statements_in, Runs.together}
use Rattle.audit.specs.{declared.totals.Totals.Totals, Audits.book_of, Cases.Case, Cases.opening_in, Cases.again, Cases.ended, Cases.answered}

-- the faults of a settlement of so many calls, in the order of an opening's: agents or days, then a place for each answer and each statement, and the
-- memory's size, then the weekday or an agent's figures
abbrev pub settle_fault : MonthFigures → (calls : ℕ) → Memory → List Answer → List Statement → Option BookFault
settle_fault f calls m answers statements =
    first_met (met_if (not (size_known f)) OutsideBook
    ∷ met_if (not (length answers == calls && length statements == length m.agents)) WrongSize
    ∷ open_fault f m ∷ [])

-- a book as its run leaves it, which was told this
abbrev pub book_left : (contracts : Bool) → Case → Memory → List Reply → Book
book_left contracts case m told =
    let statements = statements_in case.figures (ended contracts case m).memory in
    book_of told statements (together statements)

-- the book that hears the calls that are not about contracts
abbrev pub book_without : Case → Memory → Book
book_without case m =
    book_left false case m (told_without case.requests (map reply_of (answered false case m)))

-- the book that hears only what stands in the first at the end
abbrev pub book_again : Case → Memory → Book
book_again case m = book_left true (again case) m (map reply_of (answered true (again case) m))

-- the law holds of the book that was settled, and of the two beside it as their runs would leave them
abbrev pub SettledOne : Case → Memory → List Answer → List Statement → Totals → Type 0
SettledOne case m answers statements totals =
    Settled case.form (opening_in case) case.requests
    (book_of (map reply_of answers) statements totals.balances) (book_without case m)
    (book_again case m) totals.residue
