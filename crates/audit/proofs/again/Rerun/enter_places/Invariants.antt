use Rattle.std.proofs.Common.{◌≡◌, take}
use Rattle.law.specs.Only.{entries_of}
use Rattle.runs.specs.Lent.{memory_in, SameLoan}
use Rattle.audit.specs.Again.{running_of, heard_anew}
use Rattle.audit.proofs.again.Rerun.enter_places.Given as goal

abbrev pub invariant-loop-i : goal.invariant-loop-i
invariant-loop-i g l =
    let start = running_of l.initial.rerun (memory_in l.initial.lent) in
    record {
      lent : SameLoan l.initial.lent l.lent;
      heard : running_of l.rerun (memory_in l.lent) ≡ heard_anew (g.F.ContractForm.meaning l.form) (entries_of 1 (take l.i l.places)) start;
    }
