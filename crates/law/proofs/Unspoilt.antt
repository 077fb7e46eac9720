-- No request is refused for a stored figure outside its limit: no table of faults has that one. Assumes nothing.
use Rattle.std.specs.{List.list_all, Option.option_map}
use Rattle.std.proofs.Common.{◌≡◌, ℕ, Bool, true, false, cond, not, ◌||◌, eqb, ltb, List, [], ◌∷◌, Some, None, Option, refl}
use Rattle.std.proofs.lemmas.Bool.{and_from}
use Rattle.packets.specs.declared.faults.ByteFault.{TheVariants.Malformed}
use Rattle.forms.specs.{declared.Contract.Contract, Meaning.Meaning}
use Rattle.settlement.specs.{declared.faults.BookFault.BookFault, declared.faults.BookFault.TheVariants.OutsideBook, declared.faults.BookFault.TheVariants.NoCarrier, declared.faults.BookFault.TheVariants.FreeHour, declared.faults.BookFault.TheVariants.MissingHour, declared.faults.BookFault.TheVariants.NoPowerCarrier, declared.faults.BookFault.TheVariants.ContractNumber, declared.faults.BookFault.TheVariants.ContractTerms, declared.faults.BookFault.TheVariants.CoveredHour, declared.faults.LineFault.LineFault, declared.faults.LineFault.TheVariants.Packet, ContractFaults.taken_fault, ContractFaults.vacant_fault, ContractFaults.covered_fault, ContractFaults.covered_in, ContractFaults.place_at, ContractFaults.contract_faults, ContractFaults.contract_fault, Faults.number_of, Faults.met_if, Faults.first_met, Faults.of_posting, PostingFaults.hour_fault, PostingFaults.posting_faults}
use Rattle.law.specs.{Law.unspoilt, Requests.Opening, Requests.count_in, Requests.hours_in, Requests.Request, Requests.posting, Requests.unread, Requests.withdrawal, Requests.entering, Requests.cancelling, Requests.closing, Requests.statement, Standing.Standing, Standing.stands, Standing.setting_in, Faults.closing_faults, Faults.fault_met, Turns.was_skipped, Requests.can_ask, Turns.judged, Turns.next, Replies.done, Replies.told_as, Replies.replies_from}

-- a row of a table: no fault, or one of another number
abbrev fine : Option BookFault → Bool
fine None = true
fine (Some fault) = not (eqb (number_of fault) 2)

record Fine (row : Option BookFault) : Type 0 where
  is : fine row ≡ true

-- a fault that is met where a test holds
met : (test : Bool) (fault : BookFault) → Fine (Some fault) → Fine (met_if test fault)
met true fault other = other
met false fault other = record { is = refl }

-- a fault that is told of a place
told_of : {X : Type 0} (f : X → BookFault) (place : Option X) → ((x : X) → Fine (Some (f x))) → Fine (option_map f place)
told_of f None each = record { is = refl }
told_of f (Some x) each = each x

-- a fault of a posting's own figures
own : (fault : Option LineFault) → Fine (of_posting fault)
own (Some (Packet (Malformed place))) = record { is = refl }
own _ = record { is = refl }

-- a covered hour that stands
covered : (standing : ℕ → Bool) (c : Option Contract) → Fine (covered_in standing c)
covered standing None = record { is = refl }
covered standing (Some c) = told_of (λ hour. CoveredHour hour) _ (λ hour. record { is = refl })

-- the first of rows that are fine
abbrev AllFine : List (Option BookFault) → Type 0
AllFine [] = Unit {0}
AllFine (row ∷ rows) = Fine row × AllFine rows

first_of : (rows : List (Option BookFault)) → AllFine rows → Fine (first_met rows)
first_of [] all = record { is = refl }
first_of (None ∷ rows) all = first_of rows all.1
first_of (Some fault ∷ rows) all = all.0

module _ (form : Meaning) (o : Opening) where
  -- no request meets a fault of a stored figure
  fault_fine : (s : Standing) (r : Request) → Fine (fault_met form o s r)
  fault_fine s (posting p) = first_of (posting_faults (setting_in form o s) p) (own _, (met _ NoCarrier (record { is = refl }), tt))
  fault_fine s (unread fault) = own (Some (Packet fault))
  fault_fine s (withdrawal hour) =
      first_of (of_posting (hour_fault (hours_in o) hour) ∷ met_if (not (stands s hour)) (FreeHour hour) ∷ []) (own _, (met _ (FreeHour hour) (record { is = refl }), tt))
  fault_fine s (entering number c) =
      let terms = λ (test : Bool). met test ContractTerms (record { is = refl }) in
      first_of (taken_fault s.places number ∷ contract_fault (setting_in form o s) c ∷ covered_fault (stands s) c ∷ [])
      (met _ ContractNumber (record { is = refl }), (first_of (contract_faults (setting_in form o s) c) (terms _, (terms _, (terms _, tt))), (covered (stands s) (Some c), tt)))
  fault_fine s (cancelling number) =
      let place = place_at s.places number in
      first_of (vacant_fault s.places number ∷ covered_in (stands s) place ∷ []) (met _ ContractNumber (record { is = refl }), (covered (stands s) place, tt))
  fault_fine s closing =
      first_of (closing_faults o s)
      (told_of (λ hour. MissingHour hour) _ (λ hour. record { is = refl }), (met _ NoPowerCarrier (record { is = refl }), tt))
  fault_fine s (statement agent) = met (eqb agent 0 || ltb (count_in o) agent) OutsideBook (record { is = refl })

  -- so no answer tells one
  done_fine : (s : Standing) (r : Request) → unspoilt (done form o s r) ≡ true
  done_fine s (statement agent) = refl
  done_fine s _ = refl

  told_fine : (s : Standing) (r : Request) (asked : Bool) (fault : Option BookFault) → fine fault ≡ true →
      unspoilt (told_as form o s r (cond asked (judged fault) was_skipped)) ≡ true
  told_fine s r false fault is = refl
  told_fine s r true None is = done_fine s r
  told_fine s r true (Some fault) is = is

  -- whatever is asked, and whatever stands
  pub unspoilt_told : (s : Standing) (requests : List Request) → list_all unspoilt (replies_from form o s requests) ≡ true
  unspoilt_told s [] = refl
  unspoilt_told s (r ∷ rs) = and_from _ _ (told_fine s r (can_ask s.state r) (fault_met form o s r) (fault_fine s r).is) (unspoilt_told (next form o s r) rs)
