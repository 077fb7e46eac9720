use Rattle.std.proofs.Common.{ap, ◌∙◌, rules}
use Rattle.law.specs.Only.{posting_at, postings_of}
use Rattle.runs.specs.Lent.{memory_in}
use Rattle.audit.specs.{Again.running_of, Again.heard_anew, Cases.standing_in, Reading.case_in}
use Rattle.audit.proofs.Anew.{heard_more, postings_more}
use Rattle.audit.proofs.again.Rerun.post_hours.Goals as goal

pub loop-hour-preserved : goal.loop-hour-preserved
loop-hour-preserved g c =
    let form = g.F.ContractForm.meaning c.args.case.now.form.now in
    let start = running_of c.args.self (memory_in c.args.lent.now) in
    let posted = (standing_in (case_in form c.args.case.now)).posted in
    let hour = c.loop-hour.hour in
    record {
      lent = search rules;
      heard =
          heard_more form start _ _ (postings_of posted 0 hour) (posting_at (posted hour)) c.loop-hour.invariant.heard c.post_hour-rerun.ensures.heard
          ∙ ap (λ asked. heard_anew form asked start) (postings_more posted hour);
    }
