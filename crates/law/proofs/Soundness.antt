-- What stands after any requests is sound: the faults let nothing else in. Assumes nothing.
use Rattle.std.specs.List.{list_all}
use Rattle.std.proofs.Common.{◌≡◌, ℕ, zero, suc, ◌-◌, ◌<◌, Bool, true, false, cond, eqb, List, [], ◌∷◌, set, is_none, Some, None, Option, sym, refl, ap, ◌∙◌, subst}
use Rattle.std.proofs.lemmas.{List.length-set, Bool.false≢true, Bool.eqb-true, Bool.and_parts, Bool.and_from}
use Rattle.forms.specs.{declared.Contract.Contract, Meaning.Meaning}
use Rattle.settlement.specs.{declared.states.State.TheVariants.Closed, ContractFaults.taken_fault, ContractFaults.covered_fault, ContractFaults.contract_fault, ContractFaults.place_fits, Posting.Posting}
use Rattle.settlement.proofs.FaultTables.{first_met_none}
use Rattle.law.specs.{Requests.Opening, Requests.hours_in, Requests.Request, Requests.posting, Requests.withdrawal, Requests.entering, Requests.cancelling, Requests.closing, Standing.Standing, Standing.nothing_stands, Standing.standing_with, Standing.placed_with, Standing.stands, Standing.setting_in, Faults.fault_met, Requests.can_ask, Turns.changed, Turns.next, Turns.standing_after, Turns.after}
use Rattle.law.proofs.{Turns.next_both, Sound.MayStand, Sound.Sound}

-- a list that passes still does with one item that passes in another's place
pub all_of_set : {X : Type 0} (test : X → Bool) (xs : List X) (i : ℕ) (x : X) → list_all test xs ≡ true → test x ≡ true → list_all test (set xs i x) ≡ true
all_of_set test [] i x all passes = refl
all_of_set test (y ∷ ys) zero x all passes = and_from (test x) (list_all test ys) passes (and_parts (test y) (list_all test ys) all).1
all_of_set test (y ∷ ys) (suc i) x all passes =
    let parts = and_parts (test y) (list_all test ys) all in
    and_from (test y) (list_all test (set ys i x)) parts.0 (all_of_set test ys i x parts.1 passes)

module _ (form : Meaning) (o : Opening) where
  -- what stands at an opening is sound
  pub sound_none : Sound form o nothing_stands
  sound_none = record { postings = λ hour p within is. cc; long = refl; contracts = refl; closable = λ is. cc }

  module _ (s : Standing) (sound : Sound form o s) where
    -- a month in which this can be asked is open, where a closed one has no way to ask it
    still_open : (r : Request) → can_ask Closed r ≡ false → can_ask s.state r ≡ true → s.state ≡ Closed → ⊥
    still_open r never asked is = false≢true (sym never ∙ subst (λ state. can_ask state r ≡ true) is asked)

    -- a posting that may, or none, in the place of what stood at an hour
    sound_with : (hour : ℕ) (q : Option Posting) → ((p : Posting) → q ≡ Some p → MayStand form o hour p) → (s.state ≡ Closed → ⊥) → Sound form o (standing_with hour q s)
    sound_with hour q fine unclosed = record {
      postings = λ h p within is. at h p within (eqb h hour) refl is;
      long = sound.long;
      contracts = sound.contracts;
      closable = λ is. absurd (unclosed is);
    }
      where
        at : (h : ℕ) (p : Posting) → h < hours_in o → (here : Bool) → eqb h hour ≡ here → cond here q (s.posted h) ≡ Some p → MayStand form o h p
        at h p within true is put = subst (λ k. MayStand form o k p) (sym (eqb-true h hour is)) (fine p put)
        at h p within false is stood = sound.postings h p within stood

    -- a contract that may stand, or none, under a number
    sound_placed : (number : ℕ) (c : Option Contract) → place_fits (setting_in form o s) c ≡ true → (s.state ≡ Closed → ⊥) → Sound form o (placed_with number c s)
    sound_placed number c fits unclosed = record {
      postings = sound.postings;
      long = length-set s.places (number - 1) c ∙ sound.long;
      contracts = all_of_set (place_fits (setting_in form o s)) s.places (number - 1) c sound.contracts fits;
      closable = λ is. absurd (unclosed is);
    }

    -- what a request changes that meets no fault
    sound_changed : (r : Request) → can_ask s.state r ≡ true → fault_met form o s r ≡ None → Sound form o (changed r s)
    sound_changed (posting p) asked none =
        sound_with p.hour (Some p) (λ q is. subst (MayStand form o p.hour) (cc) (record { at = refl; faultless = none })) (still_open (posting p) refl asked)
    sound_changed (withdrawal hour) asked none = sound_with hour None (λ p is. cc) (still_open (withdrawal hour) refl asked)
    sound_changed (entering number c) asked none =
        let met = first_met_none (taken_fault s.places number ∷ contract_fault (setting_in form o s) c ∷ covered_fault (stands s) c ∷ []) none in
        sound_placed number (Some c) (ap is_none met.1.0) (still_open (entering number c) refl asked)
    sound_changed (cancelling number) asked none = sound_placed number None refl (still_open (cancelling number) refl asked)
    sound_changed closing asked none = record { postings = sound.postings; long = sound.long; contracts = sound.contracts; closable = λ is. none }
    sound_changed _ asked none = sound

    -- a request leaves what stands sound
    pub sound_next : (r : Request) → Sound form o (next form o s r)
    sound_next r = next_both form o s r (Sound form o) (sound_changed r) sound

  -- and so does a list of them
  pub sound_from : (s : Standing) → Sound form o s → (requests : List Request) → Sound form o (standing_after form o s requests)
  sound_from s sound [] = sound
  sound_from s sound (r ∷ rs) = sound_from (next form o s r) (sound_next s sound r) rs

  -- what stands after any requests is sound
  pub sound_after : (requests : List Request) → Sound form o (after form o requests)
  sound_after requests = sound_from nothing_stands sound_none requests
