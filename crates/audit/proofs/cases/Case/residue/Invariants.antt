use Rattle.std.proofs.Common.{◌≡◌, ◌*◌, ◌≤◌, nat_abs}
use Rattle.valuation.specs.Limits.{most_amount}
use Rattle.forms.specs.Limits.{most_agents}
use Rattle.law.specs.Worked.{residue_between}
use Rattle.audit.specs.{Cases.standing_in, Reading.case_in}
use Rattle.audit.proofs.cases.Case.residue.Given as goal

abbrev pub invariant-loop-hour : goal.invariant-loop-hour
invariant-loop-hour g l = record {
  total : l.sum ≡ residue_between (standing_in (case_in (g.F.ContractForm.meaning l.self.form.now) l.self)) 0 l.hour;
  small : nat_abs l.sum ≤ l.hour * (most_agents * most_amount);
}
