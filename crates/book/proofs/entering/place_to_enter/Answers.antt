use Rattle.std.proofs.Common.{◌≡◌, ◌<◌, true, sym, ap, arith}
use Rattle.std.specs.Prelude.{is_none}
use Rattle.std.proofs.lemmas.{Bool.and_parts, Bool.ltb-true, Result.err_from_is_err_and}
use Rattle.calendar.specs.Limits.{hours_of}
use Rattle.settlement.specs.ContractFaults.{contract_fits}
use Rattle.settlement.proofs.Settles.{fitting}
use Rattle.book.specs.{Lent.memory_seen, Memory.setting_in, Months.figures_in}
use Rattle.book.proofs.Tables.{memory_fits, this_row}
use Rattle.book.proofs.entering.place_to_enter.Goals as goal

pub returns-in_err-check-clause-fault : goal.returns-in_err-check-clause-fault
returns-in_err-check-clause-fault g c =
    let p = err_from_is_err_and c.from_residual.result c.from_residual.ensures.1 in
    rw (p.1, p.2) (sym (this_row _ _ _ c.in_err-check.ensures))

pub check_covered-requires-clause-within : goal.check_covered-requires-clause-within
check_covered-requires-clause-within g c =
    let form = g.F.ContractForm.meaning c.args.form.now in
    let f = figures_in c.args.month in
    let m = memory_seen c.args.view.now in
    let contract = c.args.numbered.contract in
    let setting = setting_in form f m in
    let known = memory_fits form f m c.in_ok-check.ensures in
    let fits : contract_fits setting contract ≡ true = sym (ap is_none c.in_ok-check_terms.ensures) in
    let within : contract.last < hours_of f.days = ltb-true _ _ (and_parts _ _ (fitting setting contract fits).hours).1 in
    omega (arith, known.sizes.marks_long)
