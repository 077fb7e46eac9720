use Rattle.std.proofs.Common.{◌++◌, length, ap, ◌∙◌, arith}
use Rattle.calendar.specs.Limits.{hours_of}
use Rattle.law.specs.Only.{entries_of, postings_of, closing_of}
use Rattle.law.proofs.Soundness.{sound_after}
use Rattle.runs.specs.Lent.{memory_in}
use Rattle.audit.specs.{Again.running_of, Again.heard_anew, Cases.Case, Cases.opening_in, Cases.standing_in, Reading.case_in}
use Rattle.audit.proofs.Anew.{heard_more}
use Rattle.audit.proofs.again.Rerun.repeat.Goals as goal

pub enter_places-rerun-requires : goal.enter_places-rerun-requires
enter_places-rerun-requires g c =
    let case : Case = case_in (g.F.ContractForm.meaning c.args.case.now.form.now) c.args.case.now in
    omega (arith, ap length c.requires.left.places, (sound_after case.form (opening_in case) case.requests).long)

pub returns-clause-heard : goal.returns-clause-heard
returns-clause-heard g c =
    let form = g.F.ContractForm.meaning c.args.case.now.form.now in
    let case : Case = case_in form c.args.case.now in
    let stood = standing_in case in
    let start = running_of c.args.self (memory_in c.args.lent.now) in
    let postings = postings_of stood.posted 0 (hours_of c.args.case.now.figures.days) in
    let left = c.requires.left in
    heard_more form start _ _ (entries_of 1 c.args.left.now.places.now) (postings ++ closing_of c.args.left.now.state) c.enter_places-rerun.ensures.heard
    (heard_more form _ _ _ postings (closing_of c.args.left.now.state) c.post_hours-rerun.ensures.heard c.close_as.ensures.heard)
    ∙ (λ t. heard_anew form (entries_of 1 (left.places t) ++ (postings ++ closing_of (left.state t))) start)
