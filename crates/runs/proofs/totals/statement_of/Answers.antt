use Rattle.std.proofs.Common.{◌≡◌, ℕ, ◌-◌, IfOk, Result, sym, ap, ◌∙◌, subst}
use Rattle.std.specs.Result.{result_err}
use Rattle.calendar.specs.Limits.{hours_of}
use Rattle.forms.specs.Meaning.{Meaning}
use Rattle.settlement.specs.declared.faults.BookFault.{BookFault}
use Rattle.book.specs.{declared.months.MonthFigures.MonthFigures, declared.statements.Statement.Statement, Memory.Memory, Statements.statement_in, Statements.statement_fault, Statements.stated}
use Rattle.runs.specs.{Lent.memory_in, Reading.figures_in}
use Rattle.runs.proofs.Outcomes.{answer_fault, answer_value}
use Rattle.runs.proofs.totals.statement_of.Goals as goal

-- what is told of a month is its statement, or the fault that it meets
as_told : (form : Meaning) (f : MonthFigures) (agent : ℕ) (m : Memory) (told : Result Statement BookFault) → told ≡ stated form f agent m →
    (result_err told ≡ statement_fault form f agent m) × IfOk told (λ st. st ≡ statement_in (hours_of f.days) (agent - 1) m)
as_told form f agent m told is =
    (ap result_err is ∙ answer_fault _ _, subst (λ r. IfOk r (λ st. st ≡ statement_in (hours_of f.days) (agent - 1) m)) (sym is) (answer_value _ _))

pub returns-in-Open : goal.returns-in-Open
returns-in-Open g c =
    let form = g.F.ContractForm.meaning c.args.form.now in
    let told = as_told form (figures_in c.args.month.now) c.args.agent (memory_in c.args.lent.now) _
    (c.provisional.ensures ∙ (λ t. stated form (figures_in (sym c.in-Open.is t)) c.args.agent (c.view.ensures t))) in
    record { fault = told.0; statement = told.1 }

pub returns-in-Closed : goal.returns-in-Closed
returns-in-Closed g c =
    let form = g.F.ContractForm.meaning c.args.form.now in
    let told = as_told form (figures_in c.args.month.now) c.args.agent (memory_in c.args.lent.now) _
    (c.final_statement.ensures ∙ (λ t. stated form (figures_in (sym c.in-Closed.is t)) c.args.agent (c.view-in-Closed.ensures t))) in
    record { fault = told.0; statement = told.1 }
