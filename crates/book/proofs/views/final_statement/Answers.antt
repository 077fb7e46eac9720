use Rattle.std.proofs.Common.{ap, ◌∙◌}
use Rattle.book.specs.{Lent.memory_seen, Statements.stated}
use Rattle.book.proofs.views.final_statement.Goals as goal

pub returns : goal.returns
returns g c =
    c.statement_in.ensures
    ∙ ap (λ f. stated (g.F.ContractForm.meaning c.args.form.now) f c.args.agent (memory_seen c.args.view.now)) c.extent.ensures
