use Rattle.forms.specs.Meaning.{Meaning}
use Rattle.book.specs.{Closing.close_fault, Closing.charged, Lent.memory_in, Memory.Memory, Months.figures_of, Months.closed_figures_of}
use Rattle.runs.proofs.Outcomes.{month_given}
use Rattle.runs.proofs.runs.answer_close.Goals as goal

pub returns-in-Ok-clause-figures : goal.returns-in-Ok-clause-figures
returns-in-Ok-clause-figures g c =
    let form : Meaning = g.F.ContractForm.meaning c.args.form.now in
    let m : Memory = memory_in c.args.pool.now c.args.ledger.now in
    let f = figures_of c.args.month in
    (month_given (close_fault form f m) f (closed_figures_of c.in-Ok.month) m _ (charged m) c.in-Ok.ensures.value).1
