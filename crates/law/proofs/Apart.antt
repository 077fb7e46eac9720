-- A book that hears a list of requests, and one that hears it without those about contracts. Assumes nothing.
use Rattle.std.proofs.Common.{◌≡◌, true, false, cond, List, [], ◌∷◌, map, replicate, None, sym, refl, ap, ◌∙◌, ⊎_elim}
use Rattle.std.proofs.lemmas.Bool.{true≢false, false≢true, cases_Bool}
use Rattle.forms.specs.{Limits.most_contracts, Meaning.Meaning}
use Rattle.law.specs.{Requests.Opening, Requests.Request, Requests.entering, Requests.cancelling, Requests.statement, Requests.about_contracts, Requests.without_contracts, Requests.told_without, Standing.Standing, Faults.fault_met, Turns.Manner, Turns.was_done, Turns.was_skipped, Requests.can_ask, Turns.judged, Turns.manner, Turns.left_by, Turns.next, Turns.standing_after, Replies.told_as, Replies.reply, Replies.replies_from, Replies.manner_of}

-- what stands, its contracts apart
abbrev pub apart : Standing → Standing
apart s = record s { places = replicate most_contracts None }

module _ (form : Meaning) (o : Opening) where
  -- a request that is not about contracts meets the same fault without them
  fault_apart : (s : Standing) (r : Request) → about_contracts r ≡ false → fault_met form o s r ≡ fault_met form o (apart s) r
  fault_apart s (entering number c) other = absurd (true≢false other)
  fault_apart s (cancelling number) other = absurd (true≢false other)
  fault_apart s _ other = refl

  -- so it is answered in the same manner
  manner_same : (s : Standing) (r : Request) → about_contracts r ≡ false → manner form o s r ≡ manner form o (apart s) r
  manner_same s r other = ap (λ fault. cond (can_ask s.state r) (judged fault) was_skipped) (fault_apart s r other)

  -- what is told says in which manner
  told_manner : (s : Standing) (r : Request) (m : Manner) → manner_of (told_as form o s r m) ≡ m
  told_manner s (statement agent) was_done = refl
  told_manner s _ was_done = refl
  told_manner s r _ = refl

  -- so both are told the same manner
  manner_apart : (s : Standing) (r : Request) → about_contracts r ≡ false → manner_of (reply form o s r) ≡ manner_of (reply form o (apart s) r)
  manner_apart s r other = told_manner s r _ ∙ manner_same s r other ∙ sym (told_manner (apart s) r _)

  -- and changes the same
  left_apart : (s : Standing) (r : Request) (m : Manner) → about_contracts r ≡ false → left_by m r (apart s) ≡ apart (left_by m r s)
  left_apart s (entering number c) was_done other = absurd (true≢false other)
  left_apart s (cancelling number) was_done other = absurd (true≢false other)
  left_apart s _ was_done other = refl
  left_apart s r _ other = refl

  -- so what stands next is the same, contracts apart
  next_apart : (s : Standing) (r : Request) → about_contracts r ≡ false → next form o (apart s) r ≡ apart (next form o s r)
  next_apart s r other = ap (λ m. left_by m r (apart s)) (sym (manner_same s r other)) ∙ left_apart s r (manner form o s r) other

  -- a request about contracts changes nothing else
  left_about : (s : Standing) (r : Request) (m : Manner) → about_contracts r ≡ true → apart s ≡ apart (left_by m r s)
  left_about s (entering number c) was_done about = refl
  left_about s (cancelling number) was_done about = refl
  left_about s _ was_done about = absurd (false≢true about)
  left_about s r _ about = refl

  -- what stands without the requests about contracts is what stands with them, its contracts apart
  pub from_apart : (s : Standing) (requests : List Request) → standing_after form o (apart s) (without_contracts requests) ≡ apart (standing_after form o s requests)
  from_apart s [] = refl
  from_apart s (r ∷ rs) =
      let after = from_apart (next form o s r) rs in
      let left = λ (t : Standing). standing_after form o t (without_contracts rs) in
      ⊎_elim (λ (about : about_contracts r ≡ true). rw about (ap left (left_about s r (manner form o s r) about) ∙ after))
      (λ (other : about_contracts r ≡ false). rw other (ap left (next_apart s r other) ∙ after)) (cases_Bool (about_contracts r))

  -- requests that both books heard are answered in the same manner
  pub alike_from : (s : Standing) (requests : List Request) →
      map manner_of (told_without requests (replies_from form o s requests)) ≡ map manner_of (replies_from form o (apart s) (without_contracts requests))
  alike_from s [] = refl
  alike_from s (r ∷ rs) =
      let same = alike_from (next form o s r) rs in
      let rest = λ (t : Standing). map manner_of (replies_from form o t (without_contracts rs)) in
      ⊎_elim (λ (about : about_contracts r ≡ true). rw about (same ∙ ap rest (sym (left_about s r (manner form o s r) about))))
      (λ (other : about_contracts r ≡ false). rw other (λ t. manner_apart s r other t ∷ (same ∙ ap rest (sym (next_apart s r other))) t)) (cases_Bool (about_contracts r))
