use Rattle.std.proofs.Common.{None, ap, ◌∙◌}
use Rattle.std.proofs.lemmas.Result.{err_from_is_err_and}
use Rattle.book.specs.{Entering.cancel_fault, Entering.placed, Lent.memory_with, Outcomes.outcome}
use Rattle.book.proofs.entering.cancel.Goals as goal

pub returns-in_err-place : goal.returns-in_err-place
returns-in_err-place g c =
    let form = g.F.ContractForm.meaning c.args.form.now in
    let m = memory_with c.args.agents.now c.args.contracts.now c.args.ledger.now in
    let p = err_from_is_err_and c.from_residual.result c.from_residual.ensures.1 in
    rw (p.1, p.2)
    (ap (λ met. outcome met tt m (placed c.args.number None m))
    (c.in_err-place.ensures.fault ∙ (λ t. cancel_fault form (c.extent.ensures t) c.args.number (c.view.ensures t))))
