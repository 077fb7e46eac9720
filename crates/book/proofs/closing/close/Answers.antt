use Rattle.std.proofs.Common.{Ok, ap, ◌∙◌}
use Rattle.book.specs.{Closing.close_fault, Closing.charged, Lent.memory_in, Memory.Memory, Months.figures_of, Outcomes.outcome, Outcomes.outcome_of}
use Rattle.book.proofs.closing.close.Goals as goal

pub returns-in-Err-clause-value : goal.returns-in-Err-clause-value
returns-in-Err-clause-value g c =
    let form = g.F.ContractForm.meaning c.args.form.now in
    let m : Memory = memory_in c.args.pool.now c.args.ledger.now in
    ap (λ met. outcome met (figures_of c.args.month) m (charged m)) (c.in-Err.ensures ∙ (λ t. close_fault form (c.extent.ensures t) (c.view.ensures t)))

pub returns-clause-value : goal.returns-clause-value
returns-clause-value g c =
    let form = g.F.ContractForm.meaning c.args.form.now in
    let m : Memory = memory_in c.args.pool.now c.args.ledger.now in
    (λ t. outcome_of (Ok (c.closed.ensures t)) (record m { accounts = c.charge_power.ensures t }))
    ∙ ap (λ met. outcome met (figures_of c.args.month) m (charged m)) (c.in_default.ensures ∙ (λ t. close_fault form (c.extent.ensures t) (c.view.ensures t)))
