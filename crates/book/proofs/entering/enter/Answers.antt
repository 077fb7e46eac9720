use Rattle.std.proofs.Common.{set, Some, Ok, ap, ◌∙◌}
use Rattle.std.proofs.lemmas.Result.{err_from_is_err_and}
use Rattle.book.specs.{Entering.enter_fault, Entering.placed, Lent.memory_with, Memory.Memory, Outcomes.outcome, Outcomes.outcome_of}
use Rattle.book.proofs.entering.enter.Goals as goal

pub returns-in_err-place : goal.returns-in_err-place
returns-in_err-place g c =
    let form = g.F.ContractForm.meaning c.args.form.now in
    let m : Memory = memory_with c.args.agents.now c.args.contracts.now c.args.ledger.now in
    let e = c.args.numbered in
    let p = err_from_is_err_and c.from_residual.result c.from_residual.ensures.1 in
    rw (p.1, p.2)
    (ap (λ met. outcome met tt m (placed e.number (Some e.contract) m))
    (c.in_err-place.ensures.fault ∙ (λ t. enter_fault form (c.extent.ensures t) e.number e.contract (c.view.ensures t))))

pub returns : goal.returns
returns g c =
    let form = g.F.ContractForm.meaning c.args.form.now in
    let m : Memory = memory_with c.args.agents.now c.args.contracts.now c.args.ledger.now in
    let e = c.args.numbered in
    (λ t. outcome_of (Ok tt) (record m { contracts = set m.contracts (c.in_ok-place.ensures.place t) (Some e.contract) }))
    ∙ ap (λ met. outcome met tt m (placed e.number (Some e.contract) m))
    (c.in_ok-place.ensures.fault ∙ (λ t. enter_fault form (c.extent.ensures t) e.number e.contract (c.view.ensures t)))
