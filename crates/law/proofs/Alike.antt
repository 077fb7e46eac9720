-- Two forms of the same meaning give the same answers, whole, and leave the same standing. Assumes nothing.
use Rattle.std.specs.List.{list_all}
use Rattle.std.proofs.Common.{◌≡◌, ℕ, ◌-◌, min, Bool, true, false, cond, not, ◌&&◌, List, [], ◌∷◌, Option, sym, refl, ap, ◌∙◌}
use Rattle.std.proofs.lemmas.{Bool.and_parts, List.Sorted.IsPermutation-refl}
use Rattle.calendar.specs.Limits.{most_hours}
use Rattle.tally.proofs.{Numbers.map_counting_same, Numbers.int_lawful, Sums.total_over_same}
use Rattle.forms.specs.{declared.Contract.Contract, declared.Parties.Parties, Meaning.Meaning, Meaning.Keeps, Meaning.Alike, Terms.number_fits, Terms.numbers_apart, Terms.party_fits, Terms.parties_fit, Terms.figures_fit, Terms.hours_fit, Parties.party_numbers, Parties.members_of}
use Rattle.settlement.specs.{declared.faults.BookFault.BookFault, declared.faults.BookFault.TheVariants.ContractTerms, ContractFaults.parties_of, ContractFaults.in_book, ContractFaults.taken_fault, ContractFaults.covered_fault, ContractFaults.contract_fault, Faults.met_if, Faults.first_met}
use Rattle.law.specs.{Law.Book, Law.Ran, Requests.Opening, Requests.count_in, Requests.hours_in, Requests.Request, Requests.entering, Requests.statement, Standing.Standing, Standing.nothing_stands, Standing.stands, Standing.setting_in, Faults.fault_met, Turns.Manner, Turns.was_done, Turns.was_skipped, Requests.can_ask, Turns.judged, Turns.manner, Turns.left_by, Turns.next, Turns.standing_after, Turns.after, Level.Level, Worked.worked, Worked.agent_balance, Replies.stated, Replies.told_as, Replies.replies_from}
use Rattle.law.proofs.{Order.order, Sound.Opened, Sound.Sound, Soundness.sound_none, Soundness.sound_next, Soundness.sound_after}

module _ (form : Meaning) (keeps : Keeps form) (o : Opening) (opened : Opened o) (same : Meaning) (alike : Alike form same) where
  -- the same contracts may stand: the forms are asked where the parties are agents of the book, and take the same terms of those
  contract_alike : (s : Standing) (c : Contract) → contract_fault (setting_in same o s) c ≡ contract_fault (setting_in form o s) c
  contract_alike s c = by (list_all (in_book o.agents) (party_numbers c) && parties_fit c parties) refl
    where
      parties : Parties
      parties = parties_of o.agents c

      fault : (between taken : Bool) → Option BookFault
      fault between taken =
          first_met (met_if (not between) ContractTerms ∷ met_if (not (hours_fit (min (hours_in o) most_hours) c)) ContractTerms ∷ met_if (not (figures_fit c && taken)) ContractTerms ∷ [])

      by : (between : Bool) → (list_all (in_book o.agents) (party_numbers c) && parties_fit c parties) ≡ between →
          fault between (same.takes c parties) ≡ fault between (form.takes c parties)
      by false apart = refl
      by true between =
          let fit = (and_parts (list_all (in_book o.agents) (party_numbers c)) (parties_fit c parties) between).1 in
          let members = (and_parts (list_all number_fits (party_numbers c) && numbers_apart (party_numbers c)) _ fit).1 in
          ap (fault true) (sym (alike.takes c parties (and_parts (list_all party_fits (members_of parties)) _ members).0))

  -- so a request meets the same fault
  fault_alike : (s : Standing) (r : Request) → fault_met same o s r ≡ fault_met form o s r
  fault_alike s (entering number c) = ap (λ row. first_met (taken_fault s.places number ∷ row ∷ covered_fault (stands s) c ∷ [])) (contract_alike s c)
  fault_alike s _ = refl

  manner_alike : (s : Standing) (r : Request) → manner same o s r ≡ manner form o s r
  manner_alike s r = ap (λ fault. cond (can_ask s.state r) (judged fault) was_skipped) (fault_alike s r)

  -- and leaves the same
  next_alike : (s : Standing) (r : Request) → next same o s r ≡ next form o s r
  next_alike s r = ap (λ m. left_by m r s) (manner_alike s r)

  -- what stands is worked to the same statements
  worked_alike : (s : Standing) → Sound form o s → (i : ℕ) → worked same o s i ≡ worked form o s i
  worked_alike s sound i =
      let itself : Level o s s = record { hours = λ hour within. refl; contracts = IsPermutation-refl _; state = refl } in
      order form keeps o opened s sound same alike s itself i

  -- so the same is told
  told_alike : (s : Standing) → Sound form o s → (r : Request) (m : Manner) → told_as same o s r m ≡ told_as form o s r m
  told_alike s sound (statement agent) was_done = ap stated (worked_alike s sound (agent - 1))
  told_alike s sound _ was_done = refl
  told_alike s sound r _ = refl

  -- of every list of requests, from whatever stands
  pub replies_from_alike : (s : Standing) → Sound form o s → (requests : List Request) → replies_from same o s requests ≡ replies_from form o s requests
  replies_from_alike s sound [] = refl
  replies_from_alike s sound (r ∷ rs) =
      let rest = ap (λ t. replies_from same o t rs) (next_alike s r) ∙ replies_from_alike (next form o s r) (sound_next form o s sound r) rs in
      let told = ap (told_as same o s r) (manner_alike s r) ∙ told_alike s sound r (manner form o s r) in λ t. told t ∷ rest t

  pub standing_after_alike : (s : Standing) (requests : List Request) → standing_after same o s requests ≡ standing_after form o s requests
  standing_after_alike s [] = refl
  standing_after_alike s (r ∷ rs) = ap (λ t. standing_after same o t rs) (next_alike s r) ∙ standing_after_alike (next form o s r) rs

  module _ (requests : List Request) where
    -- the statement of each agent at the end
    statement_alike : (i : ℕ) → worked same o (after same o requests) i ≡ worked form o (after form o requests) i
    statement_alike i = ap (λ s. worked same o s i) (standing_after_alike nothing_stands requests) ∙ worked_alike (after form o requests) (sound_after form o requests) i

    -- so a book that was run by the one was run as the other says
    pub ran_alike : (book : Book) → Ran same o requests book → Ran form o requests book
    ran_alike book ran = record {
      answers = ran.answers ∙ replies_from_alike nothing_stands (sound_none form o) requests;
      stands = ran.stands ∙ map_counting_same (count_in o) (worked same o (after same o requests)) (worked form o (after form o requests)) (λ i agent. statement_alike i);
      together =
          ran.together
          ∙ total_over_same int_lawful 0 (count_in o) (agent_balance same o (after same o requests)) (agent_balance form o (after form o requests))
          (λ i low agent. ap (λ w. w.balance) (statement_alike i));
    }
