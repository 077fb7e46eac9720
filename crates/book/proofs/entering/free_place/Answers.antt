use Rattle.std.proofs.Common.{not, is_some}
use Rattle.std.proofs.lemmas.Result.{err_from_is_err_and}
use Rattle.settlement.specs.{ContractFaults.number_known, ContractFaults.place_at, declared.faults.BookFault.TheVariants.ContractNumber}
use Rattle.book.proofs.Tables.{first_meets}
use Rattle.book.proofs.entering.free_place.Goals as goal

pub returns-in_err-place-clause-fault : goal.returns-in_err-place-clause-fault
returns-in_err-place-clause-fault c =
    let number = c.args.number in
    let p = err_from_is_err_and c.from_residual.result c.from_residual.ensures.1 in
    rw (p.1, p.2) (first_meets (not (number_known number)) (is_some (place_at c.args.contracts.now number)) ContractNumber _ c.in_err-place.ensures.fault)
