-- Only what stands, asked of a book at its opening: all of it is done, and the same stands. Assumes nothing.
use Rattle.std.specs.{List.list_all, Option.option_map}
use Rattle.std.proofs.Common.{◌≡◌, ℕ, zero, suc, ◌+◌, ◌-◌, ◌<◌, true, cond, not, ◌&&◌, ◌||◌, ltb, leb, List, [], ◌∷◌, ◌++◌, length, get_or, set, replicate, is_some, Some, None, Option, sym, refl, ap, ◌∙◌, subst, arith}
use Rattle.std.proofs.lemmas.{List.append_assoc, List.length_push, List.get_or_at, List.set_at, List.Sorted.IsPermutation-refl, Bool.Decides.nat_tests, Bool.le-leb, Bool.lt-ltb, Bool.and_parts, Bool.and_from, Bool.cond-true}
use Rattle.tally.specs.Failing.{first_failing}
use Rattle.tally.proofs.Failing.{first_failing_same, first_failing_none}
use Rattle.forms.specs.{declared.Contract.Contract, Meaning.Meaning, Limits.most_contracts}
use Rattle.settlement.specs.{declared.faults.BookFault.TheVariants.MissingHour, declared.faults.BookFault.TheVariants.NoPowerCarrier, declared.faults.BookFault.TheVariants.ContractNumber, declared.faults.BookFault.TheVariants.CoveredHour, declared.states.State.State, declared.states.State.TheVariants.Open, declared.states.State.TheVariants.Closed, Faults.met_if, Faults.first_met, Power.power_uncarried, Posting.Posting, ContractFaults.contract_fault, ContractFaults.contract_fits, ContractFaults.place_fits}
use Rattle.settlement.proofs.FaultTables.{none_is}
use Rattle.law.specs.{Requests.Opening, Requests.hours_in, Requests.Request, Requests.posting, Requests.entering, Requests.closing, Requests.statement, Standing.Standing, Standing.nothing_stands, Standing.standing_with, Standing.stands, Standing.setting_in, Faults.withdrawn_of, Faults.closing_fault, Faults.fault_met, Turns.was_done, Requests.can_ask, Turns.manner, Turns.changed, Turns.left_by, Turns.next, Turns.standing_after, Turns.after, Level.Level, Level.standing_contracts, Only.entries_of, Only.posting_at, Only.postings_of, Only.closing_of, Only.only_standing, Replies.done, Replies.told_as, Replies.reply, Replies.replies_from, Replies.is_done}
use Rattle.law.proofs.{Turns.manner_asked, Postings.withdrawn_same, Sound.Sound}

-- a closing meets the same fault where the same stands in the hours of the month
closing_same : (o : Opening) (s t : Standing) → ((hour : ℕ) → hour < hours_in o → s.posted hour ≡ t.posted hour) → closing_fault o s ≡ closing_fault o t
closing_same o s t same =
    let missing : first_failing (stands s) 0 (hours_in o) ≡ first_failing (stands t) 0 (hours_in o) =
    first_failing_same (stands s) (stands t) 0 (hours_in o) (λ hour within. ap is_some (same (0 + hour) (omega arith))) in
    let withdrawn : withdrawn_of o s ≡ withdrawn_of o t = λ x i. withdrawn_same o s t same i x in
    λ t. first_met (option_map (λ hour. MissingHour hour) (missing t) ∷ met_if (power_uncarried o.agents (withdrawn t)) NoPowerCarrier ∷ [])

-- an open month with these postings and contracts
abbrev open_with : (ℕ → Option Posting) → List (Option Contract) → Standing
open_with f places = record { posted = f; places = places; state = Open }

-- ---- requests that are all done

-- from a standing they are all done, and leave another
pub record Leads (form : Meaning) (o : Opening) (s : Standing) (requests : List Request) (left : Standing) : Type 0 where
  pub all : list_all is_done (replies_from form o s requests) ≡ true
  pub end : standing_after form o s requests ≡ left

-- open months with the same contracts are the same where they have the same posting at each hour
posted_alike : (f g : ℕ → Option Posting) (places : List (Option Contract)) → ((h : ℕ) → f h ≡ g h) → open_with f places ≡ open_with g places
posted_alike f g places same = λ t. open_with (λ h. same h t) places

module _ (form : Meaning) (o : Opening) where
  -- what is told of a request that is done says so
  done_is : (s : Standing) (r : Request) → is_done (done form o s r) ≡ true
  done_is s (statement agent) = refl
  done_is s _ = refl

  -- a request that can be asked and meets no fault, and then the others
  leads_more : (s : Standing) (r : Request) (rs : List Request) (left : Standing) → can_ask s.state r ≡ true → fault_met form o s r ≡ None →
      Leads form o (changed r s) rs left → Leads form o s (r ∷ rs) left
  leads_more s r rs left asked none leads =
      let how : manner form o s r ≡ was_done = manner_asked form o s r asked None none in
      let then : next form o s r ≡ changed r s = ap (λ m. left_by m r s) how in
      record {
        all = and_from _ _ (ap (λ m. is_done (told_as form o s r m)) how ∙ done_is s r) (ap (λ u. list_all is_done (replies_from form o u rs)) then ∙ leads.all);
        end = ap (λ u. standing_after form o u rs) then ∙ leads.end;
      }

  -- some requests, and then others
  leads_append : (s : Standing) (rs qs : List Request) (between left : Standing) → Leads form o s rs between → Leads form o between qs left → Leads form o s (rs ++ qs) left
  leads_append s [] qs between left one two = subst (λ u. Leads form o u qs left) (sym one.end) two
  leads_append s (r ∷ rs) qs between left one two =
      let parts = and_parts (is_done (reply form o s r)) (list_all is_done (replies_from form o (next form o s r) rs)) one.all in
      let rest = leads_append (next form o s r) rs qs between left (record { all = parts.1; end = one.end }) two in
      record { all = and_from _ _ parts.0 rest.all; end = rest.end }

  -- ---- the contracts

  -- an open month with contracts alone
  abbrev entered : List (Option Contract) → Standing
  entered places = open_with (λ hour. None) places

  -- a contract that may stand can be entered there under a number that is free
  entering_fine : (front rest : List (Option Contract)) (n : ℕ) (c : Contract) → length front ≡ n → n < most_contracts → contract_fits (setting_in form o nothing_stands) c ≡ true →
      fault_met form o (entered (front ++ (None ∷ rest))) (entering (n + 1) c) ≡ None
  entering_fine front rest n c long few fits =
      let known : (leb 1 (n + 1) && leb (n + 1) most_contracts) ≡ true = and_from _ _ (le-leb 1 (n + 1) (omega arith)) (le-leb (n + 1) most_contracts (omega arith)) in
      let free : get_or (front ++ (None ∷ rest)) (n + 1 - 1) None ≡ None = get_or_at front None rest None (n + 1 - 1) (omega arith) in
      let fine : contract_fault (setting_in form o nothing_stands) c ≡ None = none_is _ fits in
      λ t. first_met (met_if (not (known t) || is_some (free t)) ContractNumber ∷ fine t
      ∷ option_map (λ hour. CoveredHour hour) (first_failing_none c.first (c.last + 1 - c.first) t) ∷ [])

  -- one place more in front
  pushed : (front blank rest : List (Option Contract)) (place : Option Contract) (requests : List Request) →
      Leads form o (entered ((front ++ (place ∷ [])) ++ blank)) requests (entered ((front ++ (place ∷ [])) ++ rest)) →
      Leads form o (entered (front ++ (place ∷ blank))) requests (entered (front ++ (place ∷ rest)))
  pushed front blank rest place requests leads =
      subst (λ places. Leads form o (entered places) requests (entered (front ++ (place ∷ rest)))) (append_assoc front (place ∷ []) blank)
      (subst (λ places. Leads form o (entered ((front ++ (place ∷ [])) ++ blank)) requests (entered places)) (append_assoc front (place ∷ []) rest) leads)

  -- so the contracts of a list of places come to stand in it again, after those in front
  entries_lead : (front rest : List (Option Contract)) (n : ℕ) → length front ≡ n → n + length rest ≡ most_contracts → list_all (place_fits (setting_in form o nothing_stands)) rest ≡ true →
      Leads form o (entered (front ++ replicate (length rest) None)) (entries_of (n + 1) rest) (entered (front ++ rest))
  entries_lead front [] n long few fit = record { all = refl; end = refl }
  entries_lead front (None ∷ rest) n long few fit =
      pushed front (replicate (length rest) None) rest None (entries_of (n + 1 + 1) rest)
      (entries_lead (front ++ (None ∷ [])) rest (n + 1) (length_push front None ∙ ap (λ k. k + 1) long) (omega arith) fit)
  entries_lead front (Some c ∷ rest) n long few fit =
      let blank : List (Option Contract) = replicate (length rest) None in
      let parts = and_parts (contract_fits (setting_in form o nothing_stands) c) (list_all (place_fits (setting_in form o nothing_stands)) rest) fit in
      let there : front ++ (Some c ∷ blank) ≡ set (front ++ (None ∷ blank)) (n + 1 - 1) (Some c) = sym (set_at front None blank (Some c) (n + 1 - 1) (omega arith)) in
      leads_more (entered (front ++ (None ∷ blank))) (entering (n + 1) c) (entries_of (n + 1 + 1) rest) (entered (front ++ (Some c ∷ rest))) refl
      (entering_fine front blank n c long (omega arith) parts.0)
      (subst (λ places. Leads form o (entered places) (entries_of (n + 1 + 1) rest) (entered (front ++ (Some c ∷ rest)))) there
      (pushed front blank rest (Some c) (entries_of (n + 1 + 1) rest)
      (entries_lead (front ++ (Some c ∷ [])) rest (n + 1) (length_push front (Some c) ∙ ap (λ k. k + 1) long) (omega arith) parts.1)))

  -- ---- the postings

  module _ (s : Standing) (sound : Sound form o s) where
    -- an open month with the same contracts, and the same postings in so many hours
    abbrev up_to : ℕ → Standing
    up_to n = open_with (λ h. cond (ltb h n) (s.posted h) None) s.places

    -- one hour more
    with_more : (hour : ℕ) → standing_with hour (s.posted hour) (up_to hour) ≡ up_to (hour + 1)
    with_more hour = posted_alike _ _ s.places (λ h. grind (arith, nat_tests))

    -- the next hour is free
    with_none : (hour : ℕ) → up_to hour ≡ standing_with hour None (up_to hour)
    with_none hour = posted_alike _ _ s.places (λ h. grind (arith, nat_tests))

    -- what stands at an hour comes to stand there again
    posting_lead : (hour : ℕ) → hour < hours_in o → (q : Option Posting) → s.posted hour ≡ q → Leads form o (up_to hour) (posting_at q) (up_to (hour + 1))
    posting_lead hour within None is = record { all = refl; end = with_none hour ∙ ap (λ q. standing_with hour q (up_to hour)) (sym is) ∙ with_more hour }
    posting_lead hour within (Some p) is =
        let may = sound.postings hour p within is in
        leads_more (up_to hour) (posting p) [] (up_to (hour + 1)) refl may.faultless
        (record { all = refl; end = (λ t. standing_with (may.at t) (sym is t) (up_to hour)) ∙ with_more hour })

    -- and so in all hours
    postings_lead : (n hour : ℕ) → hour + n ≡ hours_in o → Leads form o (up_to hour) (postings_of s.posted hour n) (up_to (hours_in o))
    postings_lead zero hour all = record { all = refl; end = ap up_to (omega arith) }
    postings_lead (suc n) hour all =
        leads_append (up_to hour) (posting_at (s.posted hour)) (postings_of s.posted (hour + 1) n) (up_to (hour + 1)) (up_to (hours_in o))
        (posting_lead hour (omega arith) (s.posted hour) refl) (postings_lead n (hour + 1) (omega arith))

    -- ---- the closing, and all of it

    -- the hours of the month stand as they did
    hours_same : (hour : ℕ) → hour < hours_in o → s.posted hour ≡ (up_to (hours_in o)).posted hour
    hours_same hour within = sym (cond-true _ _ _ (lt-ltb hour (hours_in o) within))

    -- and the month is open or closed
    abbrev closed_as : State → Standing
    closed_as state = record { posted = (up_to (hours_in o)).posted; places = s.places; state = state }

    -- a month that was closed can be closed again
    closing_lead : (state : State) → s.state ≡ state → Leads form o (up_to (hours_in o)) (closing_of state) (closed_as state)
    closing_lead Open is = record { all = refl; end = refl }
    closing_lead Closed is =
        leads_more (up_to (hours_in o)) closing [] (closed_as Closed) refl (sym (closing_same o s (up_to (hours_in o)) hours_same) ∙ sound.closable is)
        (record { all = refl; end = refl })

    -- the contracts, the postings and the closing, one after the other
    pub again_leads : Leads form o nothing_stands (only_standing o s) (closed_as s.state)
    again_leads =
        let none : entered s.places ≡ up_to 0 = posted_alike _ _ s.places (λ h. grind (arith, nat_tests)) in
        let blank : entered (replicate (length s.places) None) ≡ nothing_stands = ap (λ n. entered (replicate n None)) sound.long in
        let contracts : Leads form o (entered (replicate (length s.places) None)) (entries_of 1 s.places) (entered s.places) =
        entries_lead [] s.places 0 refl (omega (arith, sound.long)) sound.contracts in
        leads_append nothing_stands (entries_of 1 s.places) _ (up_to 0) (closed_as s.state)
        (subst (λ t. Leads form o nothing_stands (entries_of 1 s.places) t) none (subst (λ t. Leads form o t (entries_of 1 s.places) (entered s.places)) blank contracts))
        (leads_append (up_to 0) (postings_of s.posted 0 (hours_in o)) (closing_of s.state) (up_to (hours_in o)) (closed_as s.state)
        (postings_lead (hours_in o) 0 (omega arith)) (closing_lead s.state refl))

    -- and the same stands
    pub again_level : Level o s (after form o (only_standing o s))
    again_level = subst (λ t. Level o s t) (sym again_leads.end) (record { hours = hours_same; contracts = IsPermutation-refl (standing_contracts s.places); state = refl })
