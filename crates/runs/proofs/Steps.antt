-- Each request on a book that holds what stands: the answer is the one worked from what stands, and the book holds what stands then. Assumes nothing.
use Rattle.std.proofs.Common.{◌≡◌, if◌then◌else◌, ℕ, ◌+◌, ◌-◌, ◌<◌, ◌≤◌, Bool, true, false, not, ◌&&◌, ◌||◌, eqb, ltb, leb, List, [], ◌∷◌, length, is_some, is_none, Some, None, Ok, Err, sum, Option, Result, sym, refl, ap, ◌∙◌, subst, ⊎_elim, arith}
use Rattle.std.specs.Option.{option_map}
use Rattle.std.proofs.lemmas.{List.get_or_past, Bool.false≢true, Bool.cases_lt, Bool.le-leb, Bool.leb-false, Bool.ltb-true, Bool.eqb-false, Bool.ltb-false, Bool.or_parts, Bool.and_parts}
use Rattle.tally.specs.Failing.{first_failing}
use Rattle.tally.proofs.Failing.{all_each, first_failing_same}
use Rattle.packets.specs.declared.faults.ByteFault.{ByteFault}
use Rattle.forms.specs.{declared.Contract.Contract, Meaning.Meaning, Meaning.Keeps}
use Rattle.settlement.specs.{declared.faults.BookFault.BookFault, declared.faults.BookFault.TheVariants.OutsideBook, declared.faults.BookFault.TheVariants.FreeHour, declared.faults.BookFault.TheVariants.MissingHour, declared.faults.BookFault.TheVariants.NoPowerCarrier, declared.faults.BookFault.TheVariants.CoveredHour, declared.states.State.State, declared.states.State.TheVariants.Open, declared.states.State.TheVariants.Closed, ContractFaults.place_fits, ContractFaults.contract_fits, ContractFaults.contract_fault, ContractFaults.taken_fault, ContractFaults.vacant_fault, ContractFaults.covered_fault, ContractFaults.covered_in, ContractFaults.place_at, ContractFaults.number_known, Faults.met_if, Faults.first_met, Faults.of_posting, Faults.answer_of, Holdings.entry_of, Legs.hour_of, Posting.Posting, PostingFaults.hour_fault, PostingFaults.posting_faults, Power.power_due}
use Rattle.settlement.proofs.{Checked.hour_within, FaultTables.unmet, FaultTables.first_met_none, FaultTables.of_posting_none, Settles.fitting}
use Rattle.book.specs.{Closing.close_fault, Entering.enter_fault, Entering.cancel_fault, Memory.Memory, Memory.is_posted, Months.setting_with, Outcomes.outcome, Posting.post_fault, Posting.unread_fault, Statements.statement_in, Statements.statement_fault, Withdrawal.withdraw_fault}
use Rattle.law.specs.{Faults.fault_met, Replies.accepted, Replies.stated, Replies.refused, Replies.done, Replies.told_as, Replies.reply, Requests.Opening, Requests.count_in, Requests.hours_in, Requests.Request, Requests.posting, Requests.unread, Requests.withdrawal, Requests.entering, Requests.cancelling, Requests.closing, Requests.statement, Standing.Standing, Standing.stands, Standing.setting_in, Requests.can_ask, Turns.Manner, Turns.was_done, Turns.was_refused, Turns.was_skipped, Turns.manner, Turns.changed, Turns.left_by, Turns.next}
use Rattle.law.proofs.{Sound.Opened, Sound.Sound, Turns.manner_asked, Turns.manner_unasked}
use Rattle.runs.specs.{Reading.reply_of, Runs.kept_of, Runs.Turn, Runs.turn_of, Runs.done_as, Runs.stated_as, Runs.state_after, Runs.asked, Runs.skipped_by, Runs.heard}
use Rattle.runs.proofs.{Fits.past_memory, Fits.no_size_fault, Holds.figures_of_opening, Holds.Held, Holds.Holds, Holds.mark_for, Keeps.held_rewritten, Keeps.held_placed, Keeps.held_charged, Keeps.weights_read, Statements.statements_step}

-- a mark other than 0 tells that a posting stands
mark_stands : (p : Option Posting) → not (eqb (mark_for p) 0) ≡ is_some p
mark_stands None = refl
mark_stands (Some p) = refl

-- a mark of 0 that none does
mark_free : (p : Option Posting) → eqb (mark_for p) 0 ≡ not (is_some p)
mark_free None = refl
mark_free (Some p) = refl

-- rows after one that is met do not matter
rows_after : {F : Type 0} (row : Option F) (rows others : List (Option F)) → (row ≡ None → first_met rows ≡ first_met others) → first_met (row ∷ rows) ≡ first_met (row ∷ others)
rows_after None rows others same = same refl
rows_after (Some fault) rows others same = refl

-- one row alone
row_alone : {F : Type 0} (row : Option F) → first_met (row ∷ []) ≡ row
row_alone None = refl
row_alone (Some fault) = refl

-- where there is none, it is none
none_there : {X : Type 0} (x : Option X) → is_some x ≡ false → x ≡ None
none_there None none = refl
none_there (Some x) none = cc

-- a request was answered as worked from what stands, and the book holds what then stands
pub record Stepped (form : Meaning) (o : Opening) (s : Standing) (r : Request) (came : Turn) : Type 0 where
  pub told : reply_of came.answer ≡ reply form o s r
  pub holds : Holds form o (next form o s r) came.kept

module _ (form : Meaning) (keeps : Keeps form) (o : Opening) (opened : Opened o) (s : Standing) (sound : Sound form o s) (m : Memory) (held : Held form o s m) where
  -- ---- a request that can be asked, and one that cannot

  -- a request that is answered in this manner is told so, and leaves what that leaves
  stepped_as : (r : Request) (how : Manner) → manner form o s r ≡ how → (came : Turn) → reply_of came.answer ≡ told_as form o s r how →
      Holds form o (left_by how r s) came.kept → Stepped form o s r came
  stepped_as r how is came told holds = record {
    told = told ∙ ap (told_as form o s r) (sym is);
    holds = subst (λ m. Holds form o (left_by m r s) came.kept) (sym is) holds;
  }

  -- one that can be asked and meets this fault is refused for it, and done where there is none
  asked_as : (r : Request) → can_ask s.state r ≡ true → (fault : Option BookFault) → fault ≡ fault_met form o s r → (came : Option BookFault → Turn) →
      ((why : BookFault) → (reply_of (came (Some why)).answer ≡ refused why) × Holds form o s (came (Some why)).kept) →
      (fault_met form o s r ≡ None → (reply_of (came None).answer ≡ done form o s r) × Holds form o (changed r s) (came None).kept) → Stepped form o s r (came fault)
  asked_as r asks fault same came refusing accepting = by fault (sym same)
    where
      by : (met : Option BookFault) → fault_met form o s r ≡ met → Stepped form o s r (came met)
      by None is = stepped_as r was_done (manner_asked form o s r asks None is) (came None) (accepting is).0 (accepting is).1
      by (Some why) is = stepped_as r (was_refused why) (manner_asked form o s r asks (Some why) is) (came (Some why)) (refusing why).0 (refusing why).1

  -- so it is of a call that gives nothing back, or a month
  call_step : {X : Type 0} (r : Request) → can_ask s.state r ≡ true → done form o s r ≡ accepted → (fault : Option BookFault) → fault ≡ fault_met form o s r →
      (x : X) (m' : Memory) (left : Result X BookFault → State) → ((why : BookFault) → left (Err why) ≡ s.state) →
      (fault_met form o s r ≡ None → Holds form o (changed r s) (kept_of (left (Ok x)) m')) →
      Stepped form o s r (turn_of (done_as (outcome fault x m m').answer) (kept_of (left (outcome fault x m m').answer) (outcome fault x m m').memory))
  call_step r asks yields fault same x m' left refusing accepting =
      asked_as r asks fault same (λ met. turn_of (done_as (outcome met x m m').answer) (kept_of (left (outcome met x m m').answer) (outcome met x m m').memory))
      (λ why. (refl, record { state = refusing why; memory = held })) (λ none. (sym yields, accepting none))

  -- ---- what marks and places tell

  -- within the month a mark tells whether a posting stands
  posted_same : (hour : ℕ) → hour < hours_in o → is_posted m.marks hour ≡ stands s hour
  posted_same hour within = ap (λ mark. not (eqb mark 0)) (held.marks hour within) ∙ mark_stands (s.posted hour)

  -- so a contract that may stand covers the same standing hours
  covered_same : (c : Contract) → contract_fits (setting_in form o s) c ≡ true → covered_fault (is_posted m.marks) c ≡ covered_fault (stands s) c
  covered_same c fits =
      let within : c.last < hours_in o = ltb-true c.last (hours_in o) (and_parts (leb c.first c.last) (ltb c.last (hours_in o)) (fitting (setting_in form o s) c fits).hours).1 in
      ap (option_map (λ hour. CoveredHour hour))
      (first_failing_same (λ hour. not (is_posted m.marks hour)) (λ hour. not (stands s hour)) c.first (c.last + 1 - c.first)
      (λ k below. ap not (posted_same (c.first + k) (omega arith))))

  -- and so does what is in a place
  covered_place : (place : Option Contract) → place_fits (setting_in form o s) place ≡ true → covered_in (is_posted m.marks) place ≡ covered_in (stands s) place
  covered_place None fits = refl
  covered_place (Some c) fits = covered_same c fits

  -- what stands under a number may
  place_fits_lem : (number : ℕ) → place_fits (setting_in form o s) (place_at s.places number) ≡ true
  place_fits_lem number =
      ⊎_elim
      (λ (below : number - 1 < length s.places). all_each (place_fits (setting_in form o s)) s.places (number - 1) None sound.contracts below)
      (λ (past : length s.places ≤ number - 1). ap (place_fits (setting_in form o s)) (get_or_past s.places (number - 1) None past))
      (cases_lt (number - 1) (length s.places))

  -- ---- the fault that each call meets

  -- a posting's fault depends on the opening alone
  post_fault_lem : (p : Posting) → post_fault form (figures_of_opening o) p m ≡ fault_met form o s (posting p)
  post_fault_lem p =
      past_memory form keeps o opened s sound m held _
      ∙ (λ t. first_met (posting_faults (setting_with form (figures_of_opening o) (held.agents t) (held.contracts t)) p))

  -- memory is never met with the wrong size, so bytes that are no packet are told
  unread_fault_lem : (fault : ByteFault) → unread_fault (figures_of_opening o) fault m ≡ fault_met form o s (unread fault)
  unread_fault_lem fault = ap (λ size. first_met (size ∷ fault_met form o s (unread fault) ∷ [])) (no_size_fault form keeps o opened s sound m held)

  -- within the month the mark tells whether the hour is free
  withdraw_fault_lem : (hour : ℕ) → withdraw_fault form (figures_of_opening o) hour m ≡ fault_met form o s (withdrawal hour)
  withdraw_fault_lem hour =
      past_memory form keeps o opened s sound m held _
      ∙ ⊎_elim
      (λ (within : hour < hours_in o).
      ap (λ free. first_met (of_posting (hour_fault (hours_in o) hour) ∷ met_if free (FreeHour hour) ∷ [])) (ap (λ mark. eqb mark 0) (held.marks hour within) ∙ mark_free (s.posted hour)))
      (λ (outside : hours_in o ≤ hour). rw (le-leb (hours_in o) hour outside))
      (cases_lt hour (hours_in o))

  -- a contract that may not stand is refused before its hours are looked at
  enter_fault_lem : (number : ℕ) (c : Contract) → enter_fault form (figures_of_opening o) number c m ≡ fault_met form o s (entering number c)
  enter_fault_lem number c =
      past_memory form keeps o opened s sound m held _
      ∙ (λ t. first_met (taken_fault (held.contracts t) number ∷ contract_fault (setting_with form (figures_of_opening o) (held.agents t) (held.contracts t)) c ∷ covered_fault (is_posted m.marks) c ∷ []))
      ∙ rows_after (taken_fault s.places number) _ _ (λ free.
      rows_after (contract_fault (setting_in form o s) c) _ _ (λ fine.
      ap (λ row. first_met (row ∷ [])) (covered_same c (ap is_none fine))))

  -- a contract that stands ends within the month
  cancel_fault_lem : (number : ℕ) → cancel_fault form (figures_of_opening o) number m ≡ fault_met form o s (cancelling number)
  cancel_fault_lem number =
      past_memory form keeps o opened s sound m held _
      ∙ (λ t. first_met (vacant_fault (held.contracts t) number ∷ covered_in (is_posted m.marks) (place_at (held.contracts t) number) ∷ []))
      ∙ ap (λ row. first_met (vacant_fault s.places number ∷ row ∷ [])) (covered_place (place_at s.places number) (place_fits_lem number))

  -- marks tell the missing hours, and accounts what was withdrawn
  close_fault_lem : close_fault form (figures_of_opening o) m ≡ fault_met form o s closing
  close_fault_lem =
      let missing : first_failing (is_posted m.marks) 0 (hours_in o) ≡ first_failing (stands s) 0 (hours_in o) =
      first_failing_same (is_posted m.marks) (stands s) 0 (hours_in o) (λ hour below. posted_same (0 + hour) (omega arith)) in
      let weights = weights_read form keeps o opened s sound m held in
      past_memory form keeps o opened s sound m held _
      ∙ (λ t. first_met (option_map (λ hour. MissingHour hour) (missing t) ∷ met_if (ltb 0 (power_due (held.agents t)) && eqb (sum (weights t)) 0) NoPowerCarrier ∷ []))

  -- a statement of an agent that is not in the book
  statement_fault_lem : (agent : ℕ) → statement_fault form (figures_of_opening o) agent m ≡ fault_met form o s (statement agent)
  statement_fault_lem agent = past_memory form keeps o opened s sound m held _ ∙ row_alone (met_if (eqb agent 0 || ltb (count_in o) agent) OutsideBook)

  -- an agent that is met with no fault is in the book
  statement_agent : (agent : ℕ) → fault_met form o s (statement agent) ≡ None → agent - 1 < count_in o
  statement_agent agent none =
      let inside = or_parts (eqb agent 0) (ltb (count_in o) agent) (unmet _ _ (sym none)) in
      let some : agent ≡ 0 → ⊥ = eqb-false agent 0 inside.0 in
      let few : agent ≤ count_in o = ltb-false (count_in o) agent inside.1 in
      omega arith

  -- ---- each request

  asked_step : (state : State) → s.state ≡ state → (r : Request) → can_ask s.state r ≡ true → Stepped form o s r (asked form (figures_of_opening o) r (kept_of state m))
  asked_step state at (statement agent) asks =
      asked_as (statement agent) asks _ (statement_fault_lem agent) (λ met. turn_of (stated_as (answer_of (statement_in (hours_in o) (agent - 1) m) met)) (kept_of state m))
      (λ why. (refl, record { state = sym at; memory = held }))
      (λ none. (ap stated (statements_step form keeps o opened s sound m held (agent - 1) (statement_agent agent none)), record { state = sym at; memory = held }))
  -- nothing else can be asked of a closed month
  asked_step Closed at r asks = absurd (false≢true (sym (ap (λ st. can_ask st r) at) ∙ asks))
  asked_step Open at (posting p) asks =
      call_step (posting p) asks refl _ (post_fault_lem p) tt _ (λ answer. Open) (λ why. sym at)
      (λ none. record {
        state = sym at;
        memory =
            held_rewritten form o s m held at p.hour (hour_within (setting_in form o s) p none) (Some p) 1 _ refl
            (λ i agent t. entry_of (hour_of (setting_with form (figures_of_opening o) (held.agents t) (held.contracts t)) p i));
      })
  asked_step Open at (unread fault) asks =
      call_step (unread fault) asks refl _ (unread_fault_lem fault) tt _ (λ answer. Open) (λ why. sym at) (λ none. record { state = sym at; memory = held })
  asked_step Open at (withdrawal hour) asks =
      call_step (withdrawal hour) asks refl _ (withdraw_fault_lem hour) tt _ (λ answer. Open) (λ why. sym at)
      (λ none.
      let within : hour < hours_in o = leb-false (hours_in o) hour (unmet _ _ (sym (of_posting_none _ (first_met_none (of_posting (hour_fault (hours_in o) hour) ∷ met_if (not (stands s hour)) (FreeHour hour) ∷ []) none).0))) in
      record { state = sym at; memory = held_rewritten form o s m held at hour within None 0 _ refl (λ i agent. refl) })
  -- a contract is entered where none stood
  asked_step Open at (entering number c) asks =
      call_step (entering number c) asks refl _ (enter_fault_lem number c) tt _ (λ answer. Open) (λ why. sym at)
      (λ none.
      let rows = first_met_none (taken_fault s.places number ∷ contract_fault (setting_in form o s) c ∷ covered_fault (stands s) c ∷ []) none in
      let vacant : place_at s.places number ≡ None = none_there _ (or_parts (not (number_known number)) (is_some (place_at s.places number)) (unmet _ _ (sym rows.0))).1 in
      record { state = sym at; memory = held_placed form o s sound number (Some c) (ap (covered_in (stands s)) vacant) rows.1.1.0 m held })
  -- and cancelled where it covers no standing hour
  asked_step Open at (cancelling number) asks =
      call_step (cancelling number) asks refl _ (cancel_fault_lem number) tt _ (λ answer. Open) (λ why. sym at)
      (λ none.
      let rows = first_met_none (vacant_fault s.places number ∷ covered_in (stands s) (place_at s.places number) ∷ []) none in
      record { state = sym at; memory = held_placed form o s sound number None rows.1.0 refl m held })
  asked_step Open at closing asks =
      call_step closing asks refl _ close_fault_lem (figures_of_opening o) _ (state_after Open) (λ why. sym at)
      (λ none. record { state = refl; memory = held_charged form keeps o opened s sound m held at })

  -- whether it can be asked or not
  pub heard_step : (state : State) → s.state ≡ state → (r : Request) → Stepped form o s r (heard form (figures_of_opening o) r (kept_of state m))
  heard_step state at r = by (can_ask state r) (ap (λ st. can_ask st r) at)
    where
      by : (asks : Bool) → can_ask s.state r ≡ asks → Stepped form o s r (if asks then asked form (figures_of_opening o) r (kept_of state m) else skipped_by (kept_of state m))
      by true asks = asked_step state at r asks
      by false never = stepped_as r was_skipped (manner_unasked form o s r never) _ refl (record { state = sym at; memory = held })
