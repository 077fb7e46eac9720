use Rattle.std.proofs.Common.{◌≡◌, ℕ, ◌*◌, ◌<◌, length, get_or, take, set, replicate, sym, refl, ap, ◌∙◌, arith}
use Rattle.std.proofs.lemmas.{List.get_or-take, List.get_or-replicate, Result.err_from_is_err_and, Bool.ne_eqb}
use Rattle.settlement.specs.{declared.faults.BookFault.TheVariants.FreeHour, Faults.met_if, Faults.of_posting, Holdings.no_holding, PostingFaults.hour_fault}
use Rattle.book.specs.{Lent.memory_in, Memory.Memory, Memory.memory_fault, Months.figures_in, Rewriting.rewritten}
use Rattle.calendar.specs.Limits.{hours_of}
use Rattle.book.proofs.{Columns.entries_with_same, Columns.accounts_with_same, Tables.memory_fits, Tables.next_row, Tables.this_row, Tables.refused, Tables.accepted}
use Rattle.book.proofs.posting.withdraw.Goals as goal

pub returns-in_err-check-clause-value : goal.returns-in_err-check-clause-value
returns-in_err-check-clause-value g c =
    let form = g.F.ContractForm.meaning c.args.form.now in
    let p = err_from_is_err_and c.from_residual.result c.from_residual.ensures.1 in
    rw (p.1, p.2) (refused _ _ _ _ _ (this_row _ _ _ (c.in_err-check.ensures ∙ (λ t. memory_fault form (c.extent-month.ensures t) (c.view.ensures t)))))

pub returns-clause-value : goal.returns-clause-value
returns-clause-value g c =
    let form = g.F.ContractForm.meaning c.args.form.now in
    let m : Memory = memory_in c.args.pool.now c.args.ledger.now in
    let month = c.extent-month.result in
    let same = c.extent-month.ensures in
    let known = memory_fits form (figures_in month) m (c.in_ok-check.ensures ∙ ap (memory_fault form (figures_in month)) c.view.ensures) in
    let stamp = c.in_ok-stamp.stamp in
    let is = c.in_ok-stamp.ensures.stamp in
    let days = is.1 ∙ ap (λ f. f.days) same in
    let hours = hours_of stamp.days in
    let n = length m.agents in
    let many = replicate 64 c.neutral-nothing.result in
    let neutral : (i : ℕ) → i < n → get_or (take n many) i no_holding ≡ no_holding =
    λ i below. get_or-take n many i no_holding below ∙ get_or-replicate 64 i _ no_holding (omega (arith, known.sizes.agents_long, month.few_agents)) ∙ c.neutral-nothing.ensures in
    let entries = c.replace_hour.ensures.entries ∙ entries_with_same hours stamp.hour n stamp.within _ (λ i. no_holding) neutral m.entries (known.sizes.entries_long ∙ (λ t. sym known.sizes.agents_long t * hours_of (sym is.1 t))) in
    let accounts = c.replace_hour.ensures.accounts ∙ accounts_with_same hours stamp.hour n stamp.within _ (λ i. no_holding) neutral m.entries m.accounts (known.sizes.accounts_long ∙ sym known.sizes.agents_long) in
    accepted _ _ _ _ _
    (next_row _ _ _ (c.in_ok-check.ensures ∙ (λ t. memory_fault form (same t) (c.view.ensures t)))
    (next_row _ _ _ (ap of_posting (c.in_ok-stamp.ensures.fault ∙ (λ t. hour_fault (hours_of (same t).days) c.args.hour)))
    (next_row _ _ _ (sym (ap (λ b. met_if b (FreeHour c.args.hour)) (ne_eqb _ _ c.if-ledger-hour-eq-FREE.false))) refl)))
    ((λ t. record m { accounts = accounts t; marks = set m.marks (sym is.0 t) 0; entries = entries t }) ∙ (λ t. rewritten (hours_of (days t)) (is.0 t) 0 (λ i. no_holding) m))
