use Rattle.std.proofs.Common.{◌≡◌, ◌+◌, ◌-◌, ◌*◌, ◌<◌, ◌≤◌, false, ◌||◌, eqb, ltb, Ok, length, take, drop, refl, sym, ap, ◌∙◌, arith, rules}
use Rattle.std.proofs.lemmas.{Result.err_from_is_err_and, Bool.Decides.nat_tests}
use Rattle.tally.specs.Total.{total}
use Rattle.settlement.specs.{declared.faults.BookFault.TheVariants.OutsideBook, Faults.answer_of, Faults.met_if, Holdings.no_holding, Holdings.holding_joined}
use Rattle.book.specs.{Statements.day_sum, Statements.day_stated, Lent.memory_seen, Memory.memory_fault, Months.figures_in}
use Rattle.calendar.specs.Limits.{hours_of}
use Rattle.book.proofs.{Columns.day_within, Tables.memory_fits, Tables.next_row, Tables.this_row}
use Rattle.book.proofs.views.day_total.Goals as goal

pub slice_bounds-fold-end : goal.slice_bounds-fold-end
slice_bounds-fold-end g c =
    let month = c.extent-month.result in
    let hours = c.hours-hours.result in
    let i = c.args.agent - 1 in
    let day = c.args.day - 1 in
    let known = memory_fits (g.F.ContractForm.meaning c.args.form.now) (figures_in month) (memory_seen c.args.view.now) c.in_ok-check.ensures in
    let agent_below : i < month.agents = omega arith in
    let day_below : day < month.days = omega arith in
    let within : i * hours + 24 * day + 24 ≤ length c.args.view.now.entries.now =
    omega (arith, day_within hours month.days month.agents i day c.hours-hours.ensures agent_below day_below, known.sizes.entries_long ∙ ap (λ h. month.agents * h) (sym c.hours-hours.ensures)) in
    search rules

pub returns-in_err-check : goal.returns-in_err-check
returns-in_err-check g c =
    let form = g.F.ContractForm.meaning c.args.form.now in
    let m = memory_seen c.args.view.now in
    let p = err_from_is_err_and c.from_residual.result c.from_residual.ensures.1 in
    rw (p.1, p.2) (sym (ap (answer_of _) (this_row _ _ _ (c.in_err-check.ensures ∙ (λ t. memory_fault form (c.extent-month.ensures t) m)))))

pub returns : goal.returns
returns g c =
    let form = g.F.ContractForm.meaning c.args.form.now in
    let m = memory_seen c.args.view.now in
    let month = c.extent-month.result in
    let agent = c.args.agent in
    let day = c.args.day in
    let first = (agent - 1) * c.hours-hours.result + 24 * (day - 1) in
    let long : first + 24 - first ≡ 24 = omega arith in
    let sum = c.fold.ensures ∙ (λ t. total no_holding holding_joined (take (long t) (drop ((agent - 1) * c.hours-hours.ensures t + 24 * (day - 1)) m.entries))) in
    let inside : false ≡ ((eqb agent 0 || ltb month.agents agent) || (eqb day 0 || ltb month.days day)) = grind (arith, nat_tests) in
    ap Ok sum
    ∙ sym (ap (answer_of (day_sum (hours_of month.days) (agent - 1) (day - 1) m.entries)) (next_row _ _ _ c.in_ok-check.ensures (next_row _ _ _ (ap (λ b. met_if b OutsideBook) inside) refl)))
    ∙ ap (λ f. day_stated form f agent day m) c.extent-month.ensures
