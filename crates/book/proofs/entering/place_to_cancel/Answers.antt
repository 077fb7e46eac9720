use Rattle.std.proofs.Common.{◌≡◌, ◌-◌, ◌<◌, true, length, get_or, Some, None, sym, ap, ◌∙◌, arith}
use Rattle.std.proofs.lemmas.{Bool.and_parts, Bool.ltb-true, Result.err_from_is_err_and}
use Rattle.settlement.specs.ContractFaults.{contract_fits, place_fits, place_at}
use Rattle.tally.proofs.Failing.{all_each}
use Rattle.settlement.proofs.Settles.{fitting}
use Rattle.calendar.specs.Limits.{hours_of}
use Rattle.book.specs.{Lent.memory_seen, Memory.setting_in, Months.figures_in}
use Rattle.book.proofs.Tables.{memory_fits, this_row}
use Rattle.book.proofs.entering.place_to_cancel.Goals as goal

pub returns-in_err-check-clause-fault : goal.returns-in_err-check-clause-fault
returns-in_err-check-clause-fault g c =
    let p = err_from_is_err_and c.from_residual.result c.from_residual.ensures.1 in
    rw (p.1, p.2) (sym (this_row _ _ _ c.in_err-check.ensures))

pub check_covered-requires-clause-within : goal.check_covered-requires-clause-within
check_covered-requires-clause-within g c =
    let form = g.F.ContractForm.meaning c.args.form.now in
    let f = figures_in c.args.month in
    let m = memory_seen c.args.view.now in
    let setting = setting_in form f m in
    let known = memory_fits form f m c.in_ok-check.ensures in
    let place = c.in_ok-place.ensures.place in
    let contract = c.in-Some.contract in
    let stands : place_at m.contracts c.args.number ≡ Some contract = ap (λ k. get_or m.contracts k None) (sym place) ∙ c.in-Some.is in
    let inside : c.args.number - 1 < length m.contracts = omega (arith, place, known.sizes.contracts_long, c.in_ok-place.ensures.within) in
    let fits : contract_fits setting contract ≡ true =
    sym (ap (place_fits setting) stands) ∙ all_each (place_fits setting) m.contracts (c.args.number - 1) None known.contracts_fit inside in
    let within : contract.last < hours_of f.days = ltb-true _ _ (and_parts _ _ (fitting setting contract fits).hours).1 in
    omega (arith, known.sizes.marks_long)
