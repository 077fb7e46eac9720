-- Sums, once over the laws of a tally: over the items of a list, and over places from one on. Assumes nothing.
use Rattle.std.proofs.Common.{◌≡◌, ℕ, zero, suc, ◌+◌, ◌<◌, ◌≤◌, Bool, true, List, [], ◌∷◌, ◌++◌, map, length, get_or, set, take, sym, refl, ap, ◌∙◌, inl, inr, arith}
use Rattle.std.specs.List.{All, list_all, range_with_len}
use Rattle.std.proofs.lemmas.{Bool.cases_eq, List.take_more, List.Elements.All-head, List.Elements.All-tail, List.Elements.All-from_get_or, List.Elements.All-weaker, List.FromFn.length-range_with_len, List.FromFn.get_or-range_with_len, List.FromFn.map-range_with_len_more, List.Sums.AllPass-from_list_all}
use Rattle.tally.specs.{Lawful.Lawful, Total.total, Total.total_over}
use Rattle.tally.proofs.Totals.{right_identity, total_append}

-- what is so of each place is so of all of them
pub All-places : (P : ℕ → Type 0) (start n : ℕ) → ((k : ℕ) → start ≤ k → k < start + n → P k) → All P (range_with_len start n)
All-places P start n each = All-from_get_or P (range_with_len start n) 0 (λ i within.
    let below : i < n = omega (arith, within, length-range_with_len start n) in
    rw (get_or-range_with_len start n i 0 below) (each (start + i) (omega arith) (omega arith)))

-- what follows from a test is so of all items that pass it
pub All-passing : {X : Type 0} (test : X → Bool) (P : X → Type 0) (xs : List X) → list_all test xs ≡ true → ((x : X) → test x ≡ true → P x) → All P xs
All-passing test P xs passed then = All-weaker (λ x. test x ≡ true) P then xs (AllPass-from_list_all test xs passed)

module _ {T : Type 0} {nothing : T} {joined : T → T → T} (laws : Lawful nothing joined) where
  -- ---- over a list

  -- the same summands
  pub total_of_same : {X : Type 0} (f g : X → T) (xs : List X) → All (λ x. f x ≡ g x) xs → total nothing joined (map f xs) ≡ total nothing joined (map g xs)
  total_of_same f g [] same = refl
  total_of_same f g (x ∷ xs) same =
      cc (All-head (λ x. f x ≡ g x) x xs same, total_of_same f g xs (All-tail (λ x. f x ≡ g x) x xs same))

  -- nothing at all
  pub total_of_none : {X : Type 0} (f : X → T) (xs : List X) → All (λ x. f x ≡ nothing) xs → total nothing joined (map f xs) ≡ nothing
  total_of_none f [] none = refl
  total_of_none f (x ∷ xs) none =
      cc (All-head (λ x. f x ≡ nothing) x xs none, total_of_none f xs (All-tail (λ x. f x ≡ nothing) x xs none), laws.identity nothing)

  exchanged : (a b c : T) → joined a (joined b c) ≡ joined b (joined a c)
  exchanged a b c = sym (laws.associative a b c) ∙ ap (λ t. joined t c) (laws.commutative a b) ∙ laws.associative b a c

  -- two pairs, joined crosswise
  crossed : (a b c d : T) → joined (joined a b) (joined c d) ≡ joined (joined a c) (joined b d)
  crossed a b c d =
      laws.associative a b (joined c d) ∙ ap (joined a) (exchanged b c d) ∙ sym (laws.associative a c (joined b d))

  -- joined summands
  pub total_of_joined : {X : Type 0} (f g : X → T) (xs : List X) →
      total nothing joined (map (λ x. joined (f x) (g x)) xs) ≡ joined (total nothing joined (map f xs)) (total nothing joined (map g xs))
  total_of_joined f g [] = sym (laws.identity nothing)
  total_of_joined f g (x ∷ xs) = ap (joined (joined (f x) (g x))) (total_of_joined f g xs) ∙ crossed (f x) (g x) _ _

  -- totals of totals
  pub total_of_swapped : {X Y : Type 0} (f : X → Y → T) (xs : List X) (ys : List Y) →
      total nothing joined (map (λ x. total nothing joined (map (λ y. f x y) ys)) xs) ≡ total nothing joined (map (λ y. total nothing joined (map (λ x. f x y) xs)) ys)
  total_of_swapped f [] ys = sym (total_of_none (λ y. nothing) ys (λ k d within. refl))
  total_of_swapped f (x ∷ xs) ys =
      ap (joined (total nothing joined (map (f x) ys))) (total_of_swapped f xs ys)
      ∙ sym (total_of_joined (f x) (λ y. total nothing joined (map (λ x. f x y) xs)) ys)

  -- one list after another, and one item more
  pub total_of_append : {X : Type 0} (f : X → T) (xs ys : List X) →
      total nothing joined (map f (xs ++ ys)) ≡ joined (total nothing joined (map f xs)) (total nothing joined (map f ys))
  total_of_append f [] ys = sym (laws.identity _)
  total_of_append f (x ∷ xs) ys = ap (joined (f x)) (total_of_append f xs ys) ∙ sym (laws.associative _ _ _)

  pub total_of_more : {X : Type 0} (f : X → T) (xs : List X) (i : ℕ) (d : X) → i < length xs →
      total nothing joined (map f (take (i + 1) xs)) ≡ joined (total nothing joined (map f (take i xs))) (f (get_or xs i d))
  total_of_more f xs i d within = rw (take_more xs i d within)
      (total_of_append f (take i xs) (get_or xs i d ∷ []) ∙ ap (joined _) (right_identity laws (f (get_or xs i d))))

  -- one item changed for another
  pub total_of_set : {X : Type 0} (f : X → T) (xs : List X) (i : ℕ) (x d : X) → i < length xs →
      joined (f (get_or xs i d)) (total nothing joined (map f (set xs i x))) ≡ joined (f x) (total nothing joined (map f xs))
  total_of_set f [] i x d within = absurd (omega arith)
  total_of_set f (y ∷ ys) zero x d within = exchanged (f y) (f x) _
  total_of_set f (y ∷ ys) (suc i) x d within =
      exchanged (f (get_or ys i d)) (f y) _ ∙ ap (joined (f y)) (total_of_set f ys i x d (omega arith))
      ∙ exchanged (f y) (f x) _

  -- ---- over the n places from `start` on

  pub total_over_same : (start n : ℕ) (f g : ℕ → T) → ((k : ℕ) → start ≤ k → k < start + n → f k ≡ g k) → total_over nothing joined start n f ≡ total_over nothing joined start n g
  total_over_same start n f g same = total_of_same f g (range_with_len start n) (All-places (λ k. f k ≡ g k) start n same)

  pub total_over_none : (start n : ℕ) (f : ℕ → T) → ((k : ℕ) → start ≤ k → k < start + n → f k ≡ nothing) → total_over nothing joined start n f ≡ nothing
  total_over_none start n f none = total_of_none f (range_with_len start n) (All-places (λ k. f k ≡ nothing) start n none)

  pub total_over_joined : (start n : ℕ) (f g : ℕ → T) →
      total_over nothing joined start n (λ k. joined (f k) (g k)) ≡ joined (total_over nothing joined start n f) (total_over nothing joined start n g)
  total_over_joined start n f g = total_of_joined f g (range_with_len start n)

  pub total_over_swapped : (start n from m : ℕ) (f : ℕ → ℕ → T) →
      total_over nothing joined start n (λ i. total_over nothing joined from m (λ j. f i j)) ≡ total_over nothing joined from m (λ j. total_over nothing joined start n (λ i. f i j))
  total_over_swapped start n from m f = total_of_swapped f (range_with_len start n) (range_with_len from m)

  -- one place more at the end
  pub total_over_more : (start n : ℕ) (f : ℕ → T) → total_over nothing joined start (n + 1) f ≡ joined (total_over nothing joined start n f) (f (start + n))
  total_over_more start n f = rw (map-range_with_len_more f start n (start + n) refl)
      (total_append laws (map f (range_with_len start n)) (f (start + n) ∷ [])
      ∙ ap (joined _) (right_identity laws (f (start + n))))

  -- some places, and then those that follow
  pub total_over_append : (start n m : ℕ) (f : ℕ → T) →
      total_over nothing joined start (n + m) f ≡ joined (total_over nothing joined start n f) (total_over nothing joined (start + n) m f)
  total_over_append start zero m f =
      let places : start + 0 ≡ start = omega arith in
      let counted : 0 + m ≡ m = omega arith in
      rw (places, counted) (sym (laws.identity _))
  total_over_append start (suc n) m f =
      let places : start + suc n ≡ start + 1 + n = omega arith in
      let counted : suc n + m ≡ suc (n + m) = omega arith in
      rw (places, counted) (ap (joined (f start)) (total_over_append (start + 1) n m f) ∙ sym (laws.associative _ _ _))

  -- one summand changed
  pub total_over_changed : (start n : ℕ) (f g : ℕ → T) (k : ℕ) → start ≤ k → k < start + n → ((h : ℕ) → start ≤ h → h < start + n → (h ≡ k → ⊥) → g h ≡ f h) →
      joined (total_over nothing joined start n g) (f k) ≡ joined (total_over nothing joined start n f) (g k)
  total_over_changed start zero f g k after within others = absurd (omega arith)
  total_over_changed start (suc n) f g k after within others = elim (cases_eq k start) [
    | inl here ↦
        let rest = total_over_same (start + 1) n g f (λ h low below. others h (omega arith) (omega arith) (λ e. omega arith)) in
        (λ t. joined (joined (g (sym here t)) (rest t)) (f k))
        ∙ laws.commutative _ (f k) ∙ exchanged (f k) (g k) _ ∙ laws.commutative (g k) _
        ∙ (λ t. joined (joined (f (here t)) (total_over nothing joined (start + 1) n f)) (g k))
    | inr later ↦
        laws.associative _ _ _
        ∙ (λ t. joined (others start (omega arith) (omega arith) (λ e. later (sym e)) t) (total_over_changed (start + 1) n f g k (omega arith) (omega arith) (λ h low below. others h (omega arith) (omega arith)) t))
        ∙ sym (laws.associative _ _ _)
  ]

-- a function that keeps none and joins goes through a total
module _ {T U : Type 0} (nothing : T) (joined : T → T → T) (none : U) (together : U → U → U)
    (through : T → U) (keeps : through nothing ≡ none) (joins : (x y : T) → through (joined x y) ≡ together (through x) (through y)) where
  pub total_of_map : {X : Type 0} (f : X → T) (xs : List X) → through (total nothing joined (map f xs)) ≡ total none together (map (λ x. through (f x)) xs)
  total_of_map f [] = keeps
  total_of_map f (x ∷ xs) = joins (f x) (total nothing joined (map f xs)) ∙ ap (together (through (f x))) (total_of_map f xs)

  pub total_over_map : (start n : ℕ) (f : ℕ → T) → through (total_over nothing joined start n f) ≡ total_over none together start n (λ k. through (f k))
  total_over_map start n f = total_of_map f (range_with_len start n)
