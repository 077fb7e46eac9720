-- How a request is answered, by whether it can be asked and which fault it meets. Assumes nothing.
use Rattle.std.proofs.Common.{◌≡◌, true, false, cond, Some, None, Option, Bool, refl}
use Rattle.forms.specs.Meaning.{Meaning}
use Rattle.settlement.specs.declared.faults.BookFault.{BookFault}
use Rattle.law.specs.{Requests.Opening, Requests.Request, Standing.Standing, Faults.fault_met, Turns.was_skipped, Requests.can_ask, Turns.judged, Turns.manner, Turns.changed, Turns.left_by, Turns.next}

module _ (form : Meaning) (o : Opening) (s : Standing) (r : Request) where
  -- what can be asked is judged by the fault that it meets
  pub manner_asked : can_ask s.state r ≡ true → (fault : Option BookFault) → fault_met form o s r ≡ fault → manner form o s r ≡ judged fault
  manner_asked asked fault is = λ t. cond (asked t) (judged (is t)) was_skipped

  -- and anything else is skipped
  pub manner_unasked : can_ask s.state r ≡ false → manner form o s r ≡ was_skipped
  manner_unasked never = λ t. cond (never t) (judged (fault_met form o s r)) was_skipped

  -- what a request leaves: what it changes, where it can be asked and meets no fault, or what stood
  pub next_both : (P : Standing → Type 0) → (can_ask s.state r ≡ true → fault_met form o s r ≡ None → P (changed r s)) → P s → P (next form o s r)
  next_both P taken left = by (can_ask s.state r) refl (fault_met form o s r) refl
    where
      by : (asked : Bool) → can_ask s.state r ≡ asked → (fault : Option BookFault) → fault_met form o s r ≡ fault →
          P (left_by (cond asked (judged fault) was_skipped) r s)
      by true asked None none = taken asked none
      by true asked (Some why) met = left
      by false never fault met = left
