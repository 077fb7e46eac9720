use Rattle.std.specs.{Iterator.Adapters.zip_first, Iterator.Adapters.zip_second, Option.option_copied, Slice.Iter.iter_rest}
use Rattle.audit.specs.{Cases.Case, Cases.opening_in, Cases.standing_in, Reading.case_in}
use Rattle.audit.proofs.Stands.{Leads}
use Rattle.audit.proofs.cases.Case.standing_call.Given as goal

abbrev pub invariant-loop-call : goal.invariant-loop-call
invariant-loop-call g l =
    let case : Case = case_in (g.F.ContractForm.meaning l.self.form.now) l.self in
    Leads case.form (opening_in case) l.hour (option_copied l.standing) (iter_rest (zip_first l.call-iterator)) (iter_rest (zip_second l.call-iterator)) (standing_in case)
