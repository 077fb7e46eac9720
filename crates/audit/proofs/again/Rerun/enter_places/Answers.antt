use Rattle.std.proofs.Common.{◌+◌, [], ◌∷◌, get_or, take, None, ap, ◌∙◌, rules}
use Rattle.law.specs.Only.{entries_of}
use Rattle.runs.specs.Lent.{memory_in}
use Rattle.audit.specs.Again.{running_of, heard_anew}
use Rattle.audit.proofs.Anew.{heard_more, entries_more}
use Rattle.audit.proofs.again.Rerun.enter_places.Goals as goal

pub loop-i-preserved : goal.loop-i-preserved
loop-i-preserved g c =
    let form = g.F.ContractForm.meaning c.args.form.now in
    let start = running_of c.args.self (memory_in c.args.lent.now) in
    let places = c.args.places.now in
    let i = c.loop-i.i in
    record {
      lent = search rules;
      heard =
          heard_more form start _ _ (entries_of 1 (take i places)) (entries_of (i + 1) (get_or places i None ∷ [])) c.loop-i.invariant.heard c.enter_place-rerun.ensures.heard
          ∙ ap (λ requests. heard_anew form requests start) (entries_more places i c.loop-i-test.true);
    }
