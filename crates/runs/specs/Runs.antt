-- What requests come to in memory, one after another. Assumes nothing.
use Rattle.std.specs.Prelude.{ℕ, Bool, not, ◌||◌, List, [], ◌∷◌, map, length, ℤ, Ok, Err, Option, Result, ◌==◌, if◌then◌else◌, slice_index_or}
use Rattle.std.specs.{List.range_with_len, List.list_all, Int.int_wrap, Int.w64}
use Rattle.tally.specs.{Peak.no_peak, Sums.sum_to_ℤ}
use Rattle.calendar.specs.Limits.{hours_of}
use Rattle.forms.specs.Meaning.{Meaning}
use Rattle.settlement.specs.{declared.faults.BookFault.BookFault, declared.faults.BookFault.TheVariants.WrongSize, declared.states.State.State, declared.states.State.TheVariants.Closed, Faults.met_if, Faults.first_met, Holdings.no_holding}
use Rattle.book.specs.{declared.months.MonthFigures.MonthFigures, declared.statements.Statement.Statement, Closing.closed as closed_by, Entering.entered, Entering.cancelled, Outcomes.Outcome, Posting.posted, Posting.unread as refused_unread, Statements.statement_of, Statements.statement_in, Statements.statement_fault, Statements.stated, Withdrawal.withdrawn, Memory.Memory}
use Rattle.law.specs.{Replies.is_done, Requests.Request, Requests.posting, Requests.unread, Requests.withdrawal, Requests.entering, Requests.cancelling, Requests.closing, Requests.statement, Requests.about_contracts, Requests.can_ask}
use Rattle.runs.specs.{declared.lent.Lent.Lent, declared.months.Month.Month, declared.answers.Told.TheVariants.Accepted, declared.answers.Told.TheVariants.Stated, declared.answers.Told.TheVariants.Skipped, Lent.memory_in, Reading.Answer, Reading.reply_of, Reading.state_of}

-- a book as it is kept: its month is open or closed, and all its memory
pub record Kept : Type 0 where
  pub state : State
  pub memory : Memory

-- from its parts
abbrev pub kept_of : State → Memory → Kept
kept_of state memory = record { state = state; memory = memory }

-- the book of a month in lent memory
abbrev pub kept_in : Month → Lent → Kept
kept_in month lent = kept_of (state_of month) (memory_in lent)

-- what a request is answered, and the book as it is kept then
pub record Turn : Type 0 where
  pub answer : Answer
  pub kept : Kept

-- from its parts
abbrev pub turn_of : Answer → Kept → Turn
turn_of answer kept = record { answer = answer; kept = kept }

-- ---- one request

-- what is told of a call that gives nothing back
abbrev pub done_as : {X : Type 0} → Result X BookFault → Answer
done_as (Ok done) = Ok Accepted
done_as (Err fault) = Err fault

-- what is told of a call that gives a statement
abbrev pub stated_as : Result Statement BookFault → Answer
stated_as (Ok st) = Ok (Stated st)
stated_as (Err fault) = Err fault

-- a call that leaves the month as it was
abbrev pub came_to : {X : Type 0} → State → Outcome X → Turn
came_to state came = turn_of (done_as came.answer) (kept_of state came.memory)

-- an accepted closing closes the month
abbrev pub state_after : State → Result MonthFigures BookFault → State
state_after state (Ok f) = Closed
state_after state (Err fault) = state

-- a closing
abbrev pub closing_came_to : State → Outcome MonthFigures → Turn
closing_came_to state came =
    turn_of (done_as came.answer) (kept_of (state_after state came.answer) came.memory)

-- one request on a book with these figures, of which it can be asked
abbrev pub asked : Meaning → MonthFigures → Request → Kept → Turn
asked form f (posting p) k = came_to k.state (posted form f p k.memory)
asked form f (unread fault) k = came_to k.state (refused_unread f fault k.memory)
asked form f (withdrawal hour) k = came_to k.state (withdrawn form f hour k.memory)
asked form f (entering number c) k = came_to k.state (entered form f number c k.memory)
asked form f (cancelling number) k = came_to k.state (cancelled form f number k.memory)
asked form f closing k = closing_came_to k.state (closed_by form f k.memory)
asked form f (statement agent) k = turn_of (stated_as (stated form f agent k.memory)) k

-- one that is skipped does nothing
abbrev pub skipped_by : Kept → Turn
skipped_by k = turn_of (Ok Skipped) k

-- one request on a book as it is kept: where there is no way to ask it, it is skipped
abbrev pub heard : Meaning → MonthFigures → Request → Kept → Turn
heard form f r k = if can_ask k.state r then asked form f r k else skipped_by k

-- ---- one after another

-- whether a run hears a request: one about contracts only if it hears contracts
abbrev pub hears : Bool → Request → Bool
hears contracts r = contracts || not (about_contracts r)

-- a request that a run does not hear is skipped
abbrev pub turn : Bool → Meaning → MonthFigures → Request → Kept → Turn
turn contracts form f r k = if hears contracts r then heard form f r k else skipped_by k

-- the answers of a run to a list of requests
abbrev pub answers_to : Bool → Meaning → MonthFigures → List Request → Kept → List Answer
answers_to contracts form f [] k = []
answers_to contracts form f (r ∷ rs) k =
    let came = turn contracts form f r k in
    came.answer ∷ answers_to contracts form f rs came.kept

-- the book after a list of requests
abbrev pub kept_after : Bool → Meaning → MonthFigures → List Request → Kept → Kept
kept_after contracts form f [] k = k
kept_after contracts form f (r ∷ rs) k =
    kept_after contracts form f rs (turn contracts form f r k).kept

-- all of a run's answers say that something was done
abbrev pub all_done : List Answer → Bool
all_done answers = list_all (λ answer. is_done (reply_of answer)) answers

-- ---- statements

-- what stands past the last statement: nothing
abbrev pub no_statement : Statement
no_statement = statement_of no_holding no_peak

-- the statements of all agents of a book with these figures
abbrev pub statements_in : MonthFigures → Memory → List Statement
statements_in f m = map (λ i. statement_in (hours_of f.days) i m) (range_with_len 0 f.agents)

-- the faults of giving them all: that there is not a place for each, and those of the first
abbrev pub statements_fault : Meaning → MonthFigures → (places : ℕ) → Memory → Option BookFault
statements_fault form f places m =
    first_met (met_if (not (places == f.agents)) WrongSize ∷ statement_fault form f 1 m ∷ [])

-- the balance of the statement at a place
abbrev pub balance_at : List Statement → ℕ → ℤ
balance_at statements i = (slice_index_or statements i no_statement).balance

-- all balances together, modulo 2 ^ 64
abbrev pub together : List Statement → ℤ
together statements = int_wrap w64 (sum_to_ℤ (length statements) (balance_at statements))
