-- An hour written anew, agent after agent: entries at every so many places, and the accounts beside them. Assumes nothing.
use Rattle.std.proofs.Common.{◌≡◌, ℕ, ◌+◌, ◌*◌, ◌/◌, ◌%◌, ◌<◌, ◌≤◌, false, cond, ◌&&◌, eqb, ltb, List, length, get_or, set, sym, ap, ◌∙◌, inl, inr, mul-le-mul_right, mul_comm, add-mul, add-one, arith}
use Rattle.std.proofs.lemmas.{Nat.div-add-mod', Nat.div-mul-add, Nat.mod-mul-add, Nat.div_below, Nat.mul-add-lt, List.FromFn.fill_by_all, List.get_or-set_same, List.get_or-set_other, Bool.cases_eq, Bool.eq-eqb, Bool.ne_eqb, Bool.lt-ltb, Bool.le-ltb, Bool.and_from, Bool.and_left, Bool.and_right, Bool.Decides.nat_tests}
use Rattle.tally.proofs.Numbers.{map_counting_same}
use Rattle.book.specs.Rewriting.{entry_place, account_with, entries_with, accounts_with}
use Rattle.settlement.specs.Holdings.{Holding, no_holding}

-- an agent's entry of an hour lies within the entries of all
pub place_within : (hours hour n i : ℕ) → hour < hours → i < n → entry_place hours i hour < n * hours
place_within hours hour n i within below = omega (arith, mul-add-lt i hours hour n below within, mul_comm hours n)

-- and so does its whole month
pub month_within : (hours n i : ℕ) → i < n → i * hours + hours ≤ n * hours
month_within hours n i below = omega (arith, mul-le-mul_right hours below, add-mul i 1 hours, ap (λ k. k * hours) (add-one i))

-- and each of its days
pub day_within : (hours days n i day : ℕ) → hours ≡ 24 * days → i < n → day < days → i * hours + 24 * day + 24 ≤ n * hours
day_within hours days n i day is below within = omega (arith, month_within hours n i below)

module _ (hours hour : ℕ) (within : hour < hours) (fresh before : List Holding) where
  -- the agents before i have their new entry
  abbrev pub Rewritten : ℕ → List Holding → Type 0
  Rewritten i entries =
      (k : ℕ) → k < length before →
      get_or entries k no_holding ≡ cond (eqb (k % hours) hour && ltb (k / hours) i) (get_or fresh (k / hours) no_holding) (get_or before k no_holding)

  pub rewritten_none : Rewritten 0 before
  rewritten_none k below =
      let none : false ≡ (eqb (k % hours) hour && ltb (k / hours) 0) = grind (arith, nat_tests) in
      ap (λ b. cond b (get_or fresh (k / hours) no_holding) (get_or before k no_holding)) none

  -- another place is told of as before
  elsewhere : (i k : ℕ) → (k ≡ entry_place hours i hour → ⊥) → (eqb (k % hours) hour && ltb (k / hours) i) ≡ (eqb (k % hours) hour && ltb (k / hours) (i + 1))
  elsewhere i k other = elim (cases_eq (k % hours) hour) [
    | inl same ↦
        let apart : k / hours ≡ i → ⊥ = λ here. other (sym (div-add-mod' k hours) ∙ ap (λ q. q * hours + k % hours) here ∙ ap (λ r. i * hours + r) same) in
        ap (λ b. eqb (k % hours) hour && b) (grind (arith, nat_tests))
    | inr off ↦ and_left _ _ (ne_eqb _ _ off) ∙ sym (and_left _ _ (ne_eqb _ _ off))
  ]

  pub rewritten_more : (i : ℕ) (entries : List Holding) → length entries ≡ length before → entry_place hours i hour < length before →
      Rewritten i entries → Rewritten (i + 1) (set entries (entry_place hours i hour) (get_or fresh i no_holding))
  rewritten_more i entries long at written k below = elim (cases_eq k (entry_place hours i hour)) [
    | inl here ↦
        let quotient : k / hours ≡ i = ap (λ n. n / hours) here ∙ div-mul-add i hours hour within in
        let remainder : k % hours ≡ hour = ap (λ n. n % hours) here ∙ mod-mul-add i hours hour within in
        ap (λ n. get_or (set entries (entry_place hours i hour) (get_or fresh i no_holding)) n no_holding) here
        ∙ get_or-set_same entries (entry_place hours i hour) (get_or fresh i no_holding) no_holding (omega arith)
        ∙ ap (λ n. get_or fresh n no_holding) (sym quotient)
        ∙ sym (ap (λ b. cond b (get_or fresh (k / hours) no_holding) (get_or before k no_holding)) (and_from _ _ (eq-eqb _ _ remainder) (lt-ltb _ _ (omega arith))))
    | inr other ↦
        get_or-set_other entries (entry_place hours i hour) k (get_or fresh i no_holding) no_holding other
        ∙ written k below
        ∙ ap (λ b. cond b (get_or fresh (k / hours) no_holding) (get_or before k no_holding)) (elsewhere i k other)
  ]

  -- an agent that is not yet at hand has its entry as it was
  pub rewritten_old : (i : ℕ) (entries : List Holding) → entry_place hours i hour < length before → Rewritten i entries →
      get_or entries (entry_place hours i hour) no_holding ≡ get_or before (entry_place hours i hour) no_holding
  rewritten_old i entries at written =
      let at_hand = ap (λ n. ltb n i) (div-mul-add i hours hour within) ∙ le-ltb i i (omega arith) in
      written (entry_place hours i hour) at
      ∙ ap (λ b. cond b (get_or fresh (entry_place hours i hour / hours) no_holding) (get_or before (entry_place hours i hour) no_holding)) (and_right _ _ at_hand)

  pub rewritten_all : (n : ℕ) (entries : List Holding) → length entries ≡ length before → length before ≡ n * hours → Rewritten n entries →
      entries ≡ entries_with hours hour (λ i. get_or fresh i no_holding) before
  rewritten_all n entries long size written =
      fill_by_all (λ k. cond (eqb (k % hours) hour) (get_or fresh (k / hours) no_holding) (get_or before k no_holding)) entries (length before) no_holding long
      (λ k below.
      let row : k / hours < n = div_below k hours n (omega arith) (omega arith) in
      written k below ∙ ap (λ b. cond b (get_or fresh (k / hours) no_holding) (get_or before k no_holding)) (grind (arith, nat_tests)))

  -- the accounts of the agents before i have lost the old entry and gained the new
  abbrev pub account_after : List Holding → ℕ → Holding
  account_after accounts k =
      account_with (get_or accounts k no_holding) (get_or before (entry_place hours k hour) no_holding) (get_or fresh k no_holding)

  abbrev pub Settled : List Holding → ℕ → List Holding → Type 0
  Settled old i accounts = (k : ℕ) → k < length old → get_or accounts k no_holding ≡ cond (ltb k i) (account_after old k) (get_or old k no_holding)

  pub settled_none : (old : List Holding) → Settled old 0 old
  settled_none old k below = ap (λ b. cond b (account_after old k) (get_or old k no_holding)) (sym (le-ltb k 0 (omega arith)))

  pub settled_more : (old : List Holding) (i : ℕ) (accounts : List Holding) → length accounts ≡ length old → i < length old → Settled old i accounts →
      Settled old (i + 1) (set accounts i (account_after old i))
  settled_more old i accounts long at settled k below = elim (cases_eq k i) [
    | inl here ↦
        ap (λ n. get_or (set accounts i (account_after old i)) n no_holding) here
        ∙ get_or-set_same accounts i (account_after old i) no_holding (omega arith)
        ∙ ap (account_after old) (sym here)
        ∙ sym (ap (λ b. cond b (account_after old k) (get_or old k no_holding)) (lt-ltb _ _ (omega arith)))
    | inr other ↦
        get_or-set_other accounts i k (account_after old i) no_holding other
        ∙ settled k below
        ∙ ap (λ b. cond b (account_after old k) (get_or old k no_holding)) (grind (arith, nat_tests))
  ]

  -- the account at hand is as it was
  pub settled_old : (old : List Holding) (i : ℕ) (accounts : List Holding) → i < length old → Settled old i accounts → get_or accounts i no_holding ≡ get_or old i no_holding
  settled_old old i accounts at settled = settled i at ∙ ap (λ b. cond b (account_after old i) (get_or old i no_holding)) (le-ltb i i (omega arith))

  pub settled_all : (old : List Holding) (n : ℕ) (accounts : List Holding) → length accounts ≡ length old → length old ≡ n → Settled old n accounts →
      accounts ≡ accounts_with hours hour (λ i. get_or fresh i no_holding) before old
  settled_all old n accounts long size settled =
      fill_by_all (account_after old) accounts (length old) no_holding long
      (λ k below. settled k below ∙ ap (λ b. cond b (account_after old k) (get_or old k no_holding)) (lt-ltb _ _ (omega arith)))

-- new entries that agree for every agent write the same
module _ (hours hour n : ℕ) (within : hour < hours) (new new' : ℕ → Holding) (same : (i : ℕ) → i < n → new i ≡ new' i) where
  pub entries_with_same : (before : List Holding) → length before ≡ n * hours → entries_with hours hour new before ≡ entries_with hours hour new' before
  entries_with_same before size =
      map_counting_same (length before) _ _
      (λ k below.
      let row : k / hours < n = div_below k hours n (omega arith) (omega arith) in
      ap (λ e. cond (eqb (k % hours) hour) e (get_or before k no_holding)) (same (k / hours) row))

  pub accounts_with_same : (before old : List Holding) → length old ≡ n → accounts_with hours hour new before old ≡ accounts_with hours hour new' before old
  accounts_with_same before old size =
      map_counting_same (length old) _ _
      (λ i below. ap (account_with (get_or old i no_holding) (get_or before (entry_place hours i hour) no_holding)) (same i (omega arith)))
