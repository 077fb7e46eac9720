use Rattle.std.proofs.Common.{ap, ◌∙◌, rules}
use Rattle.book.specs.{Statements.stated, Months.figures_of}
use Rattle.runs.proofs.runs.answer_open.Goals as goal

pub returns-in-Statement-clause-turn : goal.returns-in-Statement-clause-turn
returns-in-Statement-clause-turn g c =
    let told = c.provisional.ensures ∙ ap (stated (g.F.ContractForm.meaning c.args.form.now) (figures_of c.args.month) _) c.view.ensures in search rules
