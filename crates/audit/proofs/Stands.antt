-- What stands at each hour, as the answers of the first book tell it. Assumes nothing.
use Rattle.std.proofs.Common.{◌≡◌, ℕ, ◌<◌, true, List, [], ◌∷◌, map, Some, None, Ok, Err, IfOk, Option, Result, sym, refl, ap, ◌∙◌, subst, ◌⊎◌, inl, inr}
use Rattle.std.specs.Option.{option_map}
use Rattle.forms.specs.Meaning.{Meaning, Keeps}
use Rattle.calendar.specs.Limits.{hours_of}
use Rattle.packets.specs.declared.faults.ByteFault.{ByteFault}
use Rattle.settlement.specs.{Posting.Posting, PostingFaults.PostingFits}
use Rattle.settlement.proofs.Checked.{checked}
use Rattle.law.specs.{Only.posting_at, Replies.accepted, Replies.done, Replies.told_as, Replies.reply, Replies.replies_from, Requests.Opening, Requests.Request, Requests.posting, Requests.unread, Requests.withdrawal, Requests.entering, Requests.cancelling, Requests.closing, Requests.statement, Standing.Standing, Standing.nothing_stands, Standing.setting_in, Turns.Manner, Turns.was_done, Turns.was_refused, Turns.was_skipped, Turns.manner, Turns.changed, Turns.left_by, Turns.next, Turns.standing_after}
use Rattle.law.proofs.{Sound.Opened, Soundness.sound_after}
use Rattle.runs.specs.{declared.calls.Call.Call, Reading.opening_of, Reading.request_in, Reading.request_of, Reading.Answer, Reading.reply_of}
use Rattle.runs.proofs.Books.{is_opened, kept_told}
use Rattle.audit.specs.Cases.{Case, opening_in, standing_in, FirstAnswers, Posts}

-- ---- from request to request

-- a request that is accepted changes what stands
next_accepted : (form : Meaning) (o : Opening) (s : Standing) (r : Request) → reply form o s r ≡ accepted → next form o s r ≡ changed r s
next_accepted form o s r = by (manner form o s r)
  where
    by : (how : Manner) → told_as form o s r how ≡ accepted → left_by how r s ≡ changed r s
    by was_done told = refl
    by (was_refused fault) told = cc
    by was_skipped told = cc

-- and any other leaves it at each hour
next_posted : (form : Meaning) (o : Opening) (s : Standing) (r : Request) (hour : ℕ) → (reply form o s r ≡ accepted → ⊥) → s.posted hour ≡ (next form o s r).posted hour
next_posted form o s r hour = by (manner form o s r)
  where
    done_posted : (q : Request) → (done form o s q ≡ accepted → ⊥) → s.posted hour ≡ (changed q s).posted hour
    done_posted (statement agent) other = refl
    done_posted (posting p) other = absurd (other refl)
    done_posted (unread fault) other = absurd (other refl)
    done_posted (withdrawal h) other = absurd (other refl)
    done_posted (entering number c) other = absurd (other refl)
    done_posted (cancelling number) other = absurd (other refl)
    done_posted closing other = absurd (other refl)

    by : (how : Manner) → (told_as form o s r how ≡ accepted → ⊥) → s.posted hour ≡ (left_by how r s).posted hour
    by was_done other = done_posted r other
    by (was_refused fault) other = refl
    by was_skipped other = refl

-- calls and answers that are left, after which this stands: the call that posts what stands at an hour so far
pub record Leads (form : Meaning) (o : Opening) (hour : ℕ) (call : Option Call) (calls : List Call) (answers : List Answer) (last : Standing) : Type 0 where
  pub so_far : Standing
  pub posts : Posts hour call so_far
  pub told : map reply_of answers ≡ replies_from form o so_far (map request_of calls)
  pub after : standing_after form o so_far (map request_of calls) ≡ last

module _ {form : Meaning} {o : Opening} {hour : ℕ} {last : Standing} where
  -- with no call or no answer to come, it is the one that stands at last
  pub leads_none : (call : Option Call) (calls : List Call) (answers : List Answer) → (calls ≡ []) ⊎ (answers ≡ []) → Leads form o hour call calls answers last → Posts hour call last
  leads_none call [] answers over leads = leads.posts ∙ ap (λ (s : Standing). option_map posting (s.posted hour)) leads.after
  leads_none call (c ∷ calls) [] over leads = let never = leads.told in cc
  leads_none call (c ∷ calls) (a ∷ answers) (inl never) leads = cc
  leads_none call (c ∷ calls) (a ∷ answers) (inr never) leads = cc

  -- one that is accepted gives way to the one that it leaves
  pub leads_accepted : {before left : Option Call} {all calls : List Call} {told answers : List Answer} (call : Call) (answer : Answer) →
      Leads form o hour before all told last → (all ≡ call ∷ calls) → (told ≡ answer ∷ answers) → reply_of answer ≡ accepted →
      ((s : Standing) → Posts hour before s → Posts hour left (changed (request_of call) s)) → Leads form o hour left calls answers last
  leads_accepted {left} {calls} {answers} call answer leads all told done leaves =
      let s : Standing = leads.so_far in
      let r : Request = request_of call in
      let heard : reply_of answer ∷ map reply_of answers ≡ reply form o s r ∷ replies_from form o (next form o s r) (map request_of calls) =
      ap (map reply_of) (sym told) ∙ leads.told ∙ ap (λ cs. replies_from form o s (map request_of cs)) all in
      let so : next form o s r ≡ changed r s = next_accepted form o s r (cc (heard, done)) in
      record {
        so_far = next form o s r;
        posts = subst (λ t. Posts hour left t) (sym so) (leaves s leads.posts);
        told = cc heard;
        after = ap (λ cs. standing_after form o s (map request_of cs)) (sym all) ∙ leads.after;
      }

  -- and any other leaves it
  pub leads_other : {before : Option Call} {all calls : List Call} {told answers : List Answer} (call : Call) (answer : Answer) →
      Leads form o hour before all told last → (all ≡ call ∷ calls) → (told ≡ answer ∷ answers) → (reply_of answer ≡ accepted → ⊥) →
      Leads form o hour before calls answers last
  leads_other {calls} {answers} call answer leads all told other =
      let s : Standing = leads.so_far in
      let r : Request = request_of call in
      let heard : reply_of answer ∷ map reply_of answers ≡ reply form o s r ∷ replies_from form o (next form o s r) (map request_of calls) =
      ap (map reply_of) (sym told) ∙ leads.told ∙ ap (λ cs. replies_from form o s (map request_of cs)) all in
      let same : reply_of answer ≡ reply form o s r = cc heard in
      record {
        so_far = next form o s r;
        posts = leads.posts ∙ ap (option_map posting) (next_posted form o s r hour (λ is. other (same ∙ is)));
        told = cc heard;
        after = ap (λ cs. standing_after form o s (map request_of cs)) (sym all) ∙ leads.after;
      }

-- ---- the first book

module _ (case : Case) (keeps : Keeps case.form) (answers : List Answer) (first : FirstAnswers case answers) where
  -- its opening
  pub first_opened : Opened (opening_in case)
  first_opened = subst (λ agents. Opened (opening_of case.figures agents)) first.agents (is_opened case.figures first.memory first.opens)

  -- all of its answers lead to what stands at the end
  pub first_leads : (hour : ℕ) {calls : List Call} {told : List Answer} → map request_of calls ≡ case.requests → told ≡ answers → Leads case.form (opening_in case) hour None calls told (standing_in case)
  first_leads hour asked heard = record {
    so_far = nothing_stands;
    posts = refl;
    told =
        ap (map reply_of) (heard ∙ first.told)
        ∙ kept_told case.form keeps case.figures first.memory first.opens true case.requests
        ∙ (λ t. replies_from case.form (opening_of case.figures (first.agents t)) nothing_stands (sym asked t));
    after = ap (standing_after case.form (opening_in case) nothing_stands) asked;
  }

  -- a posting that stands fits
  pub first_fits : (hour : ℕ) → hour < hours_of case.figures.days → (p : Posting) → (standing_in case).posted hour ≡ Some p → PostingFits p
  first_fits hour within p stands =
      (checked (setting_in case.form (opening_in case) nothing_stands) p ((sound_after case.form (opening_in case) case.requests).postings hour p within stands).faultless first_opened.few_agents).fits

  -- and so does what a call posts that stands at an hour
  pub call_fits : (hour : ℕ) → hour < hours_of case.figures.days → (call : Call) → Posts hour (Some call) (standing_in case) → (p : Posting) → request_of call ≡ posting p → PostingFits p
  call_fits hour within call posts p is = first_fits hour within p (stands_of ((standing_in case).posted hour) (sym (ap Some is) ∙ posts))
    where
      stands_of : (q : Option Posting) → Some (posting p) ≡ option_map posting q → q ≡ Some p
      stands_of None never = cc
      stands_of (Some q) same = ap Some (sym (posting_same same))
        where
          posting_same : Some (posting p) ≡ Some (posting q) → p ≡ q
          posting_same e = cc

  -- and what bytes say of which it is the call
  pub packet_fits : (hour : ℕ) → hour < hours_of case.figures.days → (call : Call) → Posts hour (Some call) (standing_in case) → (said : Result Posting ByteFault) → request_of call ≡ request_in said → IfOk said PostingFits
  packet_fits hour within call posts (Ok p) is = call_fits hour within call posts p is
  packet_fits hour within call posts (Err fault) is = tt

-- ---- a call that stands at an hour

-- is what stands there as a request
pub posts_asked : (hour : ℕ) (call : Call) (s : Standing) → Posts hour (Some call) s → request_of call ∷ [] ≡ posting_at (s.posted hour)
posts_asked hour call s = by (s.posted hour)
  where
    by : (q : Option Posting) → Some (request_of call) ≡ option_map posting q → request_of call ∷ [] ≡ posting_at q
    by None never = cc
    by (Some p) same = cc
