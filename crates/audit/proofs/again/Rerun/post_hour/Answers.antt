use Rattle.std.proofs.Common.{ap, ◌∙◌, rules}
use Rattle.runs.specs.Lent.{memory_in}
use Rattle.audit.specs.{Again.running_of, Again.heard_anew, Cases.standing_in, Reading.case_in}
use Rattle.audit.proofs.Stands.{posts_asked}
use Rattle.audit.proofs.again.Rerun.post_hour.Goals as goal

pub returns-in-Some-clause-heard : goal.returns-in-Some-clause-heard
returns-in-Some-clause-heard g c =
    let form = g.F.ContractForm.meaning c.args.case.now.form.now in
    c.hear.ensures.heard
    ∙ ap (λ asked. heard_anew form asked (running_of c.args.self (memory_in c.args.lent.now))) (posts_asked c.args.hour c.in-Some.call.now (standing_in (case_in form c.args.case.now)) (search rules))
