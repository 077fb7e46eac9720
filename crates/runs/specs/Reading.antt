-- How the host's calls, and what it is told, are read as the subject has them. Assumes nothing.
use Rattle.std.specs.Prelude.{List, Ok, Err, Result, vec_items}
use Rattle.tally.specs.Money.{lines_of}
use Rattle.packets.specs.declared.faults.ByteFault.{ByteFault}
use Rattle.settlement.specs.{declared.agents.Agent.Agent, declared.faults.BookFault.BookFault, declared.states.State.State, declared.states.State.TheVariants.Open, declared.states.State.TheVariants.Closed, Packets.posting_in, Posting.Posting}
use Rattle.book.specs.{declared.months.MonthFigures.MonthFigures, declared.statements.Statement.Statement, Months.figures_of, Months.closed_figures_of}
use Rattle.law.specs.{Replies.Reply, Replies.accepted, Replies.stated, Replies.refused, Replies.skipped, Requests.Opening, Requests.Request, Requests.posting, Requests.unread, Requests.withdrawal, Requests.entering, Requests.cancelling, Requests.closing, Requests.statement, Worked.Worked}
use Rattle.runs.specs.declared.{answers.Told.Told, answers.Told.TheVariants.Accepted, answers.Told.TheVariants.Stated, answers.Told.TheVariants.Skipped, calls.Call.Call, calls.Call.TheVariants.Post, calls.Call.TheVariants.Packet, calls.Call.TheVariants.Withdraw, calls.Call.TheVariants.Enter, calls.Call.TheVariants.Cancel, calls.Call.TheVariants.Close, calls.Call.TheVariants.Statement as StatementOf, months.Month.Month, months.Month.TheVariants.Open as OpenOf, months.Month.TheVariants.Closed as ClosedOf}

-- what a book is opened with
abbrev pub opening_of : MonthFigures → List Agent → Opening
opening_of f agents = record { agents = agents; days = f.days; calendar = f.calendar }

-- what bytes ask: a posting, or where they are no packet, only to be told so
abbrev pub request_in : Result Posting ByteFault → Request
request_in (Ok p) = posting p
request_in (Err fault) = unread fault

-- what a call asks
abbrev pub request_of : Call → Request
request_of (Post hour price lines) =
    posting (record { hour = hour; price = price; lines = vec_items lines })
request_of (Packet bytes) = request_in (posting_in (vec_items bytes))
request_of (Withdraw hour) = withdrawal hour
request_of (Enter number c) = entering number c
request_of (Cancel number) = cancelling number
request_of Close = closing
request_of (StatementOf agent) = statement agent

-- a month is open or closed
abbrev pub state_of : Month → State
state_of (OpenOf month) = Open
state_of (ClosedOf month) = Closed

-- the figures that it was opened with
abbrev pub figures_in : Month → MonthFigures
figures_in (OpenOf month) = figures_of month
figures_in (ClosedOf month) = closed_figures_of month

-- the numbers of a statement
abbrev pub worked_in : Statement → Worked
worked_in st = record {
  lines = lines_of st.lines;
  balance = st.balance;
  injected = st.energy.injected;
  withdrawn = st.energy.withdrawn;
  peak = st.peak;
}

-- what a call is answered: what it is told, or the fault for which it was refused
abbrev pub Answer : Type 0
Answer = Result Told BookFault

-- what an answer tells
abbrev pub reply_of : Answer → Reply
reply_of (Ok Accepted) = accepted
reply_of (Ok (Stated st)) = stated (worked_in st)
reply_of (Ok Skipped) = skipped
reply_of (Err fault) = refused fault
