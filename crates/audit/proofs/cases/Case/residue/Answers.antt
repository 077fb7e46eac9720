use Rattle.std.proofs.Common.{arith}
use Rattle.std.proofs.lemmas.Int.{ints}
use Rattle.tally.proofs.Numbers.{sum_to_ℤ_more}
use Rattle.law.specs.Worked.{residue_from}
use Rattle.audit.specs.{Cases.standing_in, Reading.case_in}
use Rattle.audit.proofs.cases.Case.residue.Goals as goal

pub loop-hour-preserved : goal.loop-hour-preserved
loop-hour-preserved g c =
    let stood = standing_in (case_in (g.F.ContractForm.meaning c.args.self.now.form.now) c.args.self.now) in
    record {
      total = omega (arith, ints, c.hour_residue-sum.ensures.value, c.hour_residue-sum.ensures.bound, c.loop-hour.invariant.small, sum_to_ℤ_more c.loop-hour.hour (λ hour. residue_from (stood.posted hour)));
      small = omega (arith, ints, c.hour_residue-sum.ensures.bound);
    }
