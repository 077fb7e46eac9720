use Rattle.std.proofs.Common.{◌≡◌}
use Rattle.law.specs.Only.{postings_of}
use Rattle.runs.specs.Lent.{memory_in, SameLoan}
use Rattle.audit.specs.{Again.running_of, Again.heard_anew, Cases.standing_in, Reading.case_in}
use Rattle.audit.proofs.again.Rerun.post_hours.Given as goal

abbrev pub invariant-loop-hour : goal.invariant-loop-hour
invariant-loop-hour g l =
    let form = g.F.ContractForm.meaning l.case.form.now in
    let start = running_of l.initial.rerun (memory_in l.initial.lent) in
    record {
      lent : SameLoan l.initial.lent l.lent;
      heard : running_of l.rerun (memory_in l.lent) ≡ heard_anew form (postings_of (standing_in (case_in form l.case)).posted 0 l.hour) start;
    }
