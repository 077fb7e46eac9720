-- The first place that fails a test, looked for place by place, and lists that pass one whole. Assumes nothing.
use Rattle.std.proofs.Common.{◌≡◌, ℕ, zero, suc, ◌+◌, ◌-◌, ◌<◌, ◌≤◌, Bool, true, false, not, cond, List, [], ◌∷◌, length, get_or, Some, None, Option, position, sym, refl, ap, ◌∙◌, inl, inr, arith}
use Rattle.std.specs.List.{list_all, position_from}
use Rattle.std.proofs.lemmas.{Bool.cases_eq, Iterator.Adapters.position_from-zero, List.Elements.All-get_or, List.Sums.AllPass-from_list_all}
use Rattle.tally.specs.Failing.{first_failing}

-- each item of a list that passes whole passes
pub all_each : {X : Type 0} (test : X → Bool) (xs : List X) (i : ℕ) (d : X) → list_all test xs ≡ true → i < length xs → test (get_or xs i d) ≡ true
all_each test xs i d all within = All-get_or (λ x. test x ≡ true) xs i d within (AllPass-from_list_all test xs all)

-- tests that agree at the places that are gone through
pub first_failing_same : (f g : ℕ → Bool) (start n : ℕ) → ((k : ℕ) → k < n → f (start + k) ≡ g (start + k)) → first_failing f start n ≡ first_failing g start n
first_failing_same f g start zero same = refl
first_failing_same f g start (suc n) same =
    let here : f start ≡ g start = sym (ap f (omega arith)) ∙ same 0 (omega arith) ∙ ap g (omega arith) in
    let later : (k : ℕ) → k < n → f (start + 1 + k) ≡ g (start + 1 + k) = λ k below. sym (ap f (omega arith)) ∙ same (suc k) (omega arith) ∙ ap g (omega arith) in
    λ t. cond (here t) (first_failing_same f g (start + 1) n later t) (Some start)

-- a test that nothing fails
pub first_failing_none : (start n : ℕ) → first_failing (λ k. true) start n ≡ None
first_failing_none start zero = refl
first_failing_none start (suc n) = first_failing_none (start + 1) n

-- the first place whose item fails, where each place has a test of its own
pub first_from : {X : Type 0} (fails : X → Bool) (test : ℕ → Bool) (start : ℕ) (xs : List X) (d : X) →
    ((i : ℕ) → i < length xs → fails (get_or xs i d) ≡ not (test (start + i))) → position_from fails start xs ≡ first_failing test start (length xs)
first_from fails test start [] d each = refl
first_from fails test start (x ∷ xs) d each =
    let here : fails x ≡ not (test start) = each 0 (omega arith) ∙ ap (λ i. not (test i)) (omega arith) in
    let rest : position_from fails (start + 1) xs ≡ first_failing test (start + 1) (length xs) =
    first_from fails test (start + 1) xs d (λ i within. each (suc i) (omega arith) ∙ ap (λ j. not (test j)) (omega arith)) in
    rw (here, rest) (not_cond (test start) (Some start) (first_failing test (start + 1) (length xs)))
  where
    not_cond : (test : Bool) (a b : Option ℕ) → cond (not test) a b ≡ cond test b a
    not_cond true a b = refl
    not_cond false a b = refl

-- what `position` answers is that place
pub first_is : {X : Type 0} (fails : X → Bool) (test : ℕ → Bool) (xs : List X) (d : X) →
    ((i : ℕ) → i < length xs → fails (get_or xs i d) ≡ not (test i)) → position fails xs ≡ first_failing test 0 (length xs)
first_is fails test xs d each =
    position_from-zero fails xs ∙ first_from fails test 0 xs d (λ i within. each i within ∙ ap (λ j. not (test j)) (omega arith))

-- a test that passed, and what is left
passed : {X : Type 0} (test : Bool) (rest : Option X) (x : X) → cond test rest (Some x) ≡ None → (test ≡ true) × (rest ≡ None)
passed true rest x none = (refl, none)
passed false rest x none = (cc, cc)

module _ (test : ℕ → Bool) where
  -- where no place fails, each passes
  pub each_passed : (start n : ℕ) → first_failing test start n ≡ None → (k : ℕ) → k < n → test (start + k) ≡ true
  each_passed start zero none k within = absurd (omega arith)
  each_passed start (suc n) none zero within = ap test (omega arith) ∙ (passed (test start) (first_failing test (start + 1) n) start none).0
  each_passed start (suc n) none (suc k) within =
      ap test (omega arith) ∙ each_passed (start + 1) n (passed (test start) (first_failing test (start + 1) n) start none).1 k (omega arith)

  -- and where each passes, no place fails
  pub none_failing : (start n : ℕ) → ((k : ℕ) → start ≤ k → k < start + n → test k ≡ true) → first_failing test start n ≡ None
  none_failing start zero passes = refl
  none_failing start (suc n) passes = rw (passes start (omega arith) (omega arith))
      (none_failing (start + 1) n (λ k low below. passes k (omega arith) (omega arith)))

  -- the place that fails while those before it pass
  pub failing_at : (start n place : ℕ) → start ≤ place → place < start + n → ((k : ℕ) → start ≤ k → k < place → test k ≡ true) → test place ≡ false →
      first_failing test start n ≡ Some place
  failing_at start zero place after within passes fails = absurd (omega arith)
  failing_at start (suc n) place after within passes fails = elim (cases_eq start place) [
    | inl here ↦ rw (here, fails)
    | inr later ↦ rw (passes start (omega arith) (omega arith))
        (failing_at (start + 1) n place (omega arith) (omega arith) (λ k low below. passes k (omega arith) below) fails)
  ]

  -- of the places up to n: the place i passes, so that the rest tells; it is the first that fails; or none is left
  pub first_more : (i n : ℕ) → i < n → test i ≡ true → first_failing test i (n - i) ≡ first_failing test (i + 1) (n - (i + 1))
  first_more i n within passes = let left : n - i ≡ suc (n - (i + 1)) = omega arith in rw (left, passes)

  pub first_here : (i n : ℕ) → i < n → test i ≡ false → first_failing test i (n - i) ≡ Some i
  first_here i n within fails = let left : n - i ≡ suc (n - (i + 1)) = omega arith in rw (left, fails)

  pub first_none : (i n : ℕ) → n ≤ i → first_failing test i (n - i) ≡ None
  first_none i n past = let left : n - i ≡ 0 = omega arith in ap (first_failing test i) left
