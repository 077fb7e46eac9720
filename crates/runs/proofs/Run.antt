-- A whole run: what is told and what stands, for any list of requests on a book that holds what stands. Assumes nothing.
use Rattle.std.proofs.Common.{◌≡◌, Bool, true, false, cond, List, [], ◌∷◌, map, refl, sym, ⊎_elim}
use Rattle.std.proofs.lemmas.Bool.{cases_Bool}
use Rattle.forms.specs.Meaning.{Meaning, Keeps}
use Rattle.law.specs.{Requests.Opening, Requests.Request, Requests.about_contracts, Requests.without_contracts, Requests.told_without, Replies.Reply, Replies.replies_from, Standing.Standing, Turns.next, Turns.standing_after}
use Rattle.law.proofs.{Sound.Opened, Sound.Sound, Soundness.sound_next}
use Rattle.runs.specs.{Reading.reply_of, Runs.Kept, Runs.heard, Runs.answers_to, Runs.kept_after}
use Rattle.runs.proofs.{Holds.figures_of_opening, Holds.Holds, Steps.heard_step}

-- what a run hears of a list: all of it, or all but what is about contracts
abbrev pub heard_by : Bool → List Request → List Request
heard_by contracts requests = cond contracts requests (without_contracts requests)

-- what it was told
abbrev pub told_by : Bool → List Request → List Reply → List Reply
told_by contracts requests told = cond contracts told (told_without requests told)

-- a run from a book that holds what stands: what it tells of the requests that it hears is worked from what stands, and the
-- book holds what stands at the end
pub record RunFrom (form : Meaning) (o : Opening) (contracts : Bool) (s : Standing) (k : Kept) (requests : List Request) : Type 0 where
  pub told : told_by contracts requests (map reply_of (answers_to contracts form (figures_of_opening o) requests k)) ≡ replies_from form o s (heard_by contracts requests)
  pub holds : Holds form o (standing_after form o s (heard_by contracts requests)) (kept_after contracts form (figures_of_opening o) requests k)

module _ (form : Meaning) (keeps : Keeps form) (o : Opening) (opened : Opened o) where
  -- so it is, whether it hears contracts or not
  pub run_from : (contracts : Bool) (s : Standing) → Sound form o s → (k : Kept) → Holds form o s k → (requests : List Request) → RunFrom form o contracts s k requests
  run_from true s sound k holds [] = record { told = refl; holds = holds }
  run_from false s sound k holds [] = record { told = refl; holds = holds }
  run_from true s sound k holds (r ∷ rs) =
      let step = heard_step form keeps o opened s sound k.memory holds.memory k.state (sym holds.state) r in
      let after = run_from true (next form o s r) (sound_next form o s sound r) (heard form (figures_of_opening o) r k).kept step.holds rs in
      record { told = λ t. step.told t ∷ after.told t; holds = after.holds }
  run_from false s sound k holds (r ∷ rs) =
      let step = heard_step form keeps o opened s sound k.memory holds.memory k.state (sym holds.state) r in
      let past = run_from false s sound k holds rs in
      let after = run_from false (next form o s r) (sound_next form o s sound r) (heard form (figures_of_opening o) r k).kept step.holds rs in
      record {
        told =
            ⊎_elim (λ (about : about_contracts r ≡ true). rw about past.told)
            (λ (other : about_contracts r ≡ false). rw other (λ t. step.told t ∷ after.told t)) (cases_Bool (about_contracts r));
        holds =
            ⊎_elim (λ (about : about_contracts r ≡ true). rw about past.holds) (λ (other : about_contracts r ≡ false). rw other after.holds) (cases_Bool (about_contracts r));
      }
