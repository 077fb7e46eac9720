use Rattle.std.proofs.Common.{◌≡◌, length, take, sym, refl, ap, ◌∙◌}
use Rattle.std.proofs.lemmas.List.{length-map}
use Rattle.std.proofs.Math.Seq.{take-length}
use Rattle.runs.specs.{Lent.memory_in, Reading.request_of, Reading.figures_in, Runs.kept_in, Runs.kept_after}
use Rattle.audit.specs.{Cases.Case, Reading.case_in}
use Rattle.audit.proofs.Audited.{Opens, states_after}
use Rattle.audit.proofs.settling.settle_calls.Goals as goal

pub conclude-requires : goal.conclude-requires
conclude-requires g c =
    let case : Case = case_in (g.F.ContractForm.meaning c.args.case.now.form.now) c.args.case.now in
    let m = memory_in c.args.lent.now in
    let lent : Opens (record case { agents = m.agents }) m = record { keeps = g.met.F.ContractForm.keeps c.args.case.now.form.now; agents = refl; opens = c.requires.opens } in
    let begun = c.begin-month.ensures in
    let heard = c.replay-month.ensures in
    let all : take (length c.args.answers.now) case.requests ≡ case.requests =
    ap (λ n. take n case.requests) (c.requires.answers_long ∙ sym (length-map c.args.case.now.calls.now request_of)) ∙ take-length case.requests in
    states_after lent c.args.hears_contracts case.requests (figures_in c.replay-month.result) (kept_in c.replay-month.result c.replay-month.new.lent)
    (heard.figures ∙ begun.figures) (heard.kept ∙ (λ t. kept_after c.args.hears_contracts case.form (begun.figures t) (all t) (begun.kept t))) (length c.args.statements.now) c.requires.statements_long
