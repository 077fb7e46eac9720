-- Sums of numbers: whole ones and those with a sign, over places from one on, over those from 0 on, and over the items of a list. Assumes nothing.
use Rattle.std.proofs.Common.{◌≡◌, ℕ, zero, suc, ◌+◌, ◌*◌, ◌^◌, ◌<◌, ◌≤◌, cond, eqb, List, [], ◌∷◌, ◌++◌, map, length, get_or, set, take, ℤ, pos, ◌+ℤ◌, ◌-ℤ◌, neg_ℤ, nat_abs, sum_by, sum, sym, refl, ap, ◌∙◌, ⊎_elim, suc-mul, arith, w64, SFits}
use lib.IntN.{+ℤ_idl, +ℤ_comm, +ℤ_assoc}
use Rattle.std.specs.List.{All, range_with_len, swap, zip, Sorted.IsPermutation}
use Rattle.std.proofs.lemmas.{Bool.cases_eq, Bool.cond-true, Bool.cond-false, Bool.eq-eqb, Bool.ne_eqb, Int.ints, List.length-map, List.length-set, List.get_or-map, List.get_or-set_same, List.get_or-set_other, List.Elements.All-head, List.Elements.All-tail, List.FromFn.fill_by_all, List.FromFn.length-range_with_len, List.FromFn.length-map-range_with_len, List.FromFn.get_or-map-range_with_len, List.Sorted.IsPermutation-keeps, List.Sums.sum-map, Slice.Zip.length-zip, Slice.Zip.get_or-zip}
use Rattle.tally.specs.{Lawful.Lawful, Sums.nat_sum_over, Sums.int_sum_over, Sums.sum_to, Sums.sum_to_ℤ, Sums.int_sum_by, Total.total}
use Rattle.tally.proofs.{Totals.total_fold, Sums.All-places, Sums.total_of_same, Sums.total_of_none, Sums.total_of_joined, Sums.total_of_swapped, Sums.total_of_append, Sums.total_of_more, Sums.total_of_set, Sums.total_over_same, Sums.total_over_none, Sums.total_over_joined, Sums.total_over_swapped, Sums.total_over_more, Sums.total_over_changed, Sums.total_over_map}

pub nat_lawful : Lawful 0 ◌+◌
nat_lawful = record { identity = λ x. omega arith; commutative = λ x y. omega arith; associative = λ x y z. omega arith }

pub int_lawful : Lawful (pos 0) ◌+ℤ◌
int_lawful = record { identity = +ℤ_idl; commutative = +ℤ_comm; associative = +ℤ_assoc }

-- ---- bounds

-- the size of a sum, whatever its sign
pub int_sum_by_abs : {X : Type 0} (f : X → ℤ) (most : ℕ) (xs : List X) → All (λ x. nat_abs (f x) ≤ most) xs → nat_abs (int_sum_by f xs) ≤ length xs * most
int_sum_by_abs f most [] each = omega arith
int_sum_by_abs f most (x ∷ xs) each =
    omega (arith, ints, suc-mul (length xs) most, All-head (λ x. nat_abs (f x) ≤ most) x xs each, int_sum_by_abs f most xs (All-tail (λ x. nat_abs (f x) ≤ most) x xs each))

pub int_sum_over_abs : (start n : ℕ) (f : ℕ → ℤ) (most : ℕ) → ((k : ℕ) → start ≤ k → k < start + n → nat_abs (f k) ≤ most) → nat_abs (int_sum_over start n f) ≤ n * most
int_sum_over_abs start n f most each = rw (length-range_with_len start n) at
    (int_sum_by_abs f most (range_with_len start n) (All-places (λ k. nat_abs (f k) ≤ most) start n each))

pub int_sum_over_pos : (start n : ℕ) (f : ℕ → ℕ) → pos (nat_sum_over start n f) ≡ int_sum_over start n (λ k. pos (f k))
int_sum_over_pos = total_over_map 0 ◌+◌ (pos 0) ◌+ℤ◌ pos refl (λ x y. omega (arith, ints))

pub nat_sum_over_le : (start n : ℕ) (f : ℕ → ℕ) (most : ℕ) → ((k : ℕ) → start ≤ k → k < start + n → f k ≤ most) → nat_sum_over start n f ≤ n * most
nat_sum_over_le start n f most each =
    omega (arith, ints, int_sum_over_pos start n f, int_sum_over_abs start n (λ k. pos (f k)) most each)

-- no larger item by item, no larger together
pub nat_sum_over_mono : (start n : ℕ) (f g : ℕ → ℕ) → ((k : ℕ) → start ≤ k → k < start + n → f k ≤ g k) → nat_sum_over start n f ≤ nat_sum_over start n g
nat_sum_over_mono start zero f g each = omega arith
nat_sum_over_mono start (suc n) f g each =
    omega (arith, each start (omega arith) (omega arith), nat_sum_over_mono (start + 1) n f g (λ k low below. each k (omega arith) (omega arith)))

-- a number below 2 ^ 63 in size fits 64 bits
pub fits_abs : (z : ℤ) → nat_abs z < 2 ^ 63 → SFits w64 z
fits_abs z small = omega (arith, ints)

-- ---- opposites and differences

pub int_sum_over_neg : (start n : ℕ) (f : ℕ → ℤ) → int_sum_over start n (λ k. neg_ℤ (f k)) ≡ neg_ℤ (int_sum_over start n f)
int_sum_over_neg start n f = sym (total_over_map (pos 0) ◌+ℤ◌ (pos 0) ◌+ℤ◌ neg_ℤ refl (λ x y. omega (arith, ints)) start n f)

-- a sum of differences
pub int_sum_over_less : (start n : ℕ) (f g : ℕ → ℕ) → int_sum_over start n (λ k. pos (f k) -ℤ pos (g k)) ≡ pos (nat_sum_over start n f) -ℤ pos (nat_sum_over start n g)
int_sum_over_less start n f g =
    omega (arith, ints, total_over_joined int_lawful start n (λ k. pos (f k)) (λ k. neg_ℤ (pos (g k))), int_sum_over_pos start n f, int_sum_over_neg start n (λ k. pos (g k)), int_sum_over_pos start n g)

-- ---- from place 0 on

-- what is so of the first n places is so of the n places from 0 on
first_places : (P : ℕ → Type 0) (n : ℕ) → ((k : ℕ) → k < n → P k) → (k : ℕ) → 0 ≤ k → k < 0 + n → P k
first_places P n each k low below = each k (omega arith)

pub sum_to_same : (n : ℕ) (f g : ℕ → ℕ) → ((k : ℕ) → k < n → f k ≡ g k) → sum_to n f ≡ sum_to n g
sum_to_same n f g same = total_over_same nat_lawful 0 n f g (first_places (λ k. f k ≡ g k) n same)

pub sum_to_ℤ_same : (n : ℕ) (f g : ℕ → ℤ) → ((k : ℕ) → k < n → f k ≡ g k) → sum_to_ℤ n f ≡ sum_to_ℤ n g
sum_to_ℤ_same n f g same = total_over_same int_lawful 0 n f g (first_places (λ k. f k ≡ g k) n same)

pub sum_to_more : (n : ℕ) (f : ℕ → ℕ) → sum_to (n + 1) f ≡ sum_to n f + f n
sum_to_more n f = total_over_more nat_lawful 0 n f ∙ ap (λ k. sum_to n f + f k) (omega arith)

pub sum_to_ℤ_more : (n : ℕ) (f : ℕ → ℤ) → sum_to_ℤ (n + 1) f ≡ sum_to_ℤ n f +ℤ f n
sum_to_ℤ_more n f = total_over_more int_lawful 0 n f ∙ ap (λ k. sum_to_ℤ n f +ℤ f k) (omega arith)

pub sum_to_zero : (n : ℕ) (f : ℕ → ℕ) → ((k : ℕ) → k < n → f k ≡ 0) → sum_to n f ≡ 0
sum_to_zero n f zeros = total_over_none nat_lawful 0 n f (first_places (λ k. f k ≡ 0) n zeros)

pub sum_to_ℤ_zero : (n : ℕ) (f : ℕ → ℤ) → ((k : ℕ) → k < n → f k ≡ pos 0) → sum_to_ℤ n f ≡ pos 0
sum_to_ℤ_zero n f zeros = total_over_none int_lawful 0 n f (first_places (λ k. f k ≡ pos 0) n zeros)

pub sum_to_const_zero : (n : ℕ) → sum_to n (λ k. 0) ≡ 0
sum_to_const_zero n = sum_to_zero n (λ k. 0) (λ k below. refl)

pub sum_to_ℤ_const_zero : (n : ℕ) → sum_to_ℤ n (λ k. pos 0) ≡ pos 0
sum_to_ℤ_const_zero n = sum_to_ℤ_zero n (λ k. pos 0) (λ k below. refl)

pub sum_to_le : (n : ℕ) (f : ℕ → ℕ) (most : ℕ) → ((k : ℕ) → k < n → f k ≤ most) → sum_to n f ≤ n * most
sum_to_le n f most each = nat_sum_over_le 0 n f most (first_places (λ k. f k ≤ most) n each)

pub sum_to_ℤ_abs : (n : ℕ) (f : ℕ → ℤ) (most : ℕ) → ((k : ℕ) → k < n → nat_abs (f k) ≤ most) → nat_abs (sum_to_ℤ n f) ≤ n * most
sum_to_ℤ_abs n f most each = int_sum_over_abs 0 n f most (first_places (λ k. nat_abs (f k) ≤ most) n each)

pub sum_to_mono : (n : ℕ) (f g : ℕ → ℕ) → ((k : ℕ) → k < n → f k ≤ g k) → sum_to n f ≤ sum_to n g
sum_to_mono n f g each = nat_sum_over_mono 0 n f g (first_places (λ k. f k ≤ g k) n each)

pub sum_to_add : (n : ℕ) (f g : ℕ → ℕ) → sum_to n (λ k. f k + g k) ≡ sum_to n f + sum_to n g
sum_to_add n f g = total_over_joined nat_lawful 0 n f g

pub sum_to_ℤ_add : (n : ℕ) (f g : ℕ → ℤ) → sum_to_ℤ n (λ k. f k +ℤ g k) ≡ sum_to_ℤ n f +ℤ sum_to_ℤ n g
sum_to_ℤ_add n f g = total_over_joined int_lawful 0 n f g

pub sum_to_ℤ_less : (n : ℕ) (f g : ℕ → ℕ) → sum_to_ℤ n (λ k. pos (f k) -ℤ pos (g k)) ≡ pos (sum_to n f) -ℤ pos (sum_to n g)
sum_to_ℤ_less n f g = int_sum_over_less 0 n f g

pub sum_to_swap : (n m : ℕ) (f : ℕ → ℕ → ℕ) → sum_to n (λ i. sum_to m (λ j. f i j)) ≡ sum_to m (λ j. sum_to n (λ i. f i j))
sum_to_swap n m f = total_over_swapped nat_lawful 0 n 0 m f

-- one summand changed
pub sum_to_change : (n : ℕ) (f g : ℕ → ℕ) (k : ℕ) → k < n → ((h : ℕ) → h < n → (h ≡ k → ⊥) → g h ≡ f h) → sum_to n g + f k ≡ sum_to n f + g k
sum_to_change n f g k within others =
    total_over_changed nat_lawful 0 n f g k (omega arith) (omega arith) (λ h low below. others h (omega arith))

pub sum_to_ℤ_change : (n : ℕ) (f g : ℕ → ℤ) (k : ℕ) → k < n → ((h : ℕ) → h < n → (h ≡ k → ⊥) → g h ≡ f h) → sum_to_ℤ n g ≡ sum_to_ℤ n f -ℤ f k +ℤ g k
sum_to_ℤ_change n f g k within others =
    omega (arith, ints, total_over_changed int_lawful 0 n f g k (omega arith) (omega arith) (λ h low below. others h (omega arith)))

-- no larger item by item, and none of one item: together with that item no larger either
pub sum_to_spare : (n : ℕ) (f g : ℕ → ℕ) (k : ℕ) → k < n → ((j : ℕ) → j < n → f j ≤ g j) → f k ≡ 0 → g k + sum_to n f ≤ sum_to n g
sum_to_spare n f g k within each none =
    let moved : ℕ → ℕ = λ j. cond (eqb j k) (g k) (f j) in
    omega (
      arith,
      sum_to_change n f moved k within (λ h below other. cond-false (eqb h k) (g k) (f h) (ne_eqb h k other)),
      cond-true (eqb k k) (g k) (f k) (eq-eqb k k refl),
      sum_to_mono n moved g (λ j below. ⊎_elim
          (λ (is : j ≡ k). omega (arith, cond-true (eqb j k) (g k) (f j) (eq-eqb j k is), ap g is))
          (λ (other : j ≡ k → ⊥). omega (arith, cond-false (eqb j k) (g k) (f j) (ne_eqb j k other), each j below))
          (cases_eq j k)),
    )

pub sum_to_item_le : (n : ℕ) (f : ℕ → ℕ) (k : ℕ) → k < n → f k ≤ sum_to n f
sum_to_item_le n f k within = omega (arith, sum_to_spare n (λ j. 0) f k within (λ j below. omega arith) refl)

-- ---- over a list

pub sum_is_total : (xs : List ℕ) → sum xs ≡ total 0 ◌+◌ xs
sum_is_total xs = total_fold nat_lawful xs

pub sum_counting : (f : ℕ → ℕ) (n : ℕ) → sum (map f (range_with_len 0 n)) ≡ sum_to n f
sum_counting f n = sum_is_total (map f (range_with_len 0 n))

-- a list made from another, place by place
pub map_places : {X Y : Type 0} (g : X → Y) (xs : List X) (d : X) → map g xs ≡ map (λ k. g (get_or xs k d)) (range_with_len 0 (length xs))
map_places g xs d =
    fill_by_all (λ k. g (get_or xs k d)) (map g xs) (length xs) (g d) (length-map xs g) (λ k below. get_or-map g xs k d (g d) below)

pub sum_by_list : {X : Type 0} (g : X → ℕ) (xs : List X) (d : X) → sum_by g xs ≡ sum_to (length xs) (λ k. g (get_or xs k d))
sum_by_list g xs d = sym (sum-map g xs) ∙ ap sum (map_places g xs d) ∙ sum_counting (λ k. g (get_or xs k d)) (length xs)

-- of two lists of one length, item by item
pub sum_by_zip : {X Y : Type 0} (g : X × Y → ℕ) (xs : List X) (ys : List Y) (d : X) (e : Y) → length ys ≡ length xs →
    sum_by g (zip xs ys) ≡ sum_to (length xs) (λ k. g (get_or xs k d, get_or ys k e))
sum_by_zip g xs ys d e long =
    sum_by_list g (zip xs ys) (d, e)
    ∙ ap (λ n. sum_to n (λ k. g (get_or (zip xs ys) k (d, e)))) (length-zip xs ys ∙ omega arith)
    ∙ sum_to_same (length xs) _ _ (λ k below. ap g (get_or-zip xs ys k (d, e) below (omega arith)))

-- two lists made from functions that agree
pub map_counting_same : {X : Type 0} (n : ℕ) (f g : ℕ → X) → ((k : ℕ) → k < n → f k ≡ g k) → map f (range_with_len 0 n) ≡ map g (range_with_len 0 n)
map_counting_same n f g same =
    fill_by_all g (map f (range_with_len 0 n)) n (f 0) (length-map-range_with_len f 0 n) (λ k below. get_or-map-range_with_len f 0 n k k (f 0) below (omega arith) ∙ same k below)

module _ {X : Type 0} (f : X → ℤ) where
  pub int_sum_by_same : (g : X → ℤ) (xs : List X) → All (λ x. f x ≡ g x) xs → int_sum_by f xs ≡ int_sum_by g xs
  int_sum_by_same g xs same = total_of_same int_lawful f g xs same

  pub int_sum_by_zero : (xs : List X) → All (λ x. f x ≡ pos 0) xs → int_sum_by f xs ≡ pos 0
  int_sum_by_zero xs zeros = total_of_none int_lawful f xs zeros

  pub int_sum_by_more : (xs : List X) (i : ℕ) (d : X) → i < length xs → int_sum_by f (take (i + 1) xs) ≡ int_sum_by f (take i xs) +ℤ f (get_or xs i d)
  int_sum_by_more xs i d within = total_of_more int_lawful f xs i d within

  -- one item changed for another
  pub int_sum_by_set : (xs : List X) (i : ℕ) (x d : X) → i < length xs → f (get_or xs i d) +ℤ int_sum_by f (set xs i x) ≡ f x +ℤ int_sum_by f xs
  int_sum_by_set xs i x d within = total_of_set int_lawful f xs i x d within

  -- two items exchanged
  swapped : (xs : List X) (i j : ℕ) → i < length xs → j < length xs → int_sum_by f (swap xs i j) ≡ int_sum_by f xs
  swapped [] i j p q = refl
  swapped (d ∷ ys) i j p q =
      let l : List X = d ∷ ys in
      let w : List X = set l i (get_or l j d) in
      let long = length-set l i (get_or l j d) in
      let there : get_or w j d ≡ get_or l j d =
      ⊎_elim (λ (e : j ≡ i). ap (λ n. get_or w n d) e ∙ get_or-set_same l i (get_or l j d) d p) (λ (n : j ≡ i → ⊥). get_or-set_other l i j (get_or l j d) d n) (cases_eq j i) in
      omega (arith, ints, ap f there, int_sum_by_set l i (get_or l j d) d p, int_sum_by_set w j (get_or l i d) d (omega arith))

  -- in any order
  pub int_sum_by-IsPermutation : (xs ys : List X) → IsPermutation xs ys → int_sum_by f ys ≡ int_sum_by f xs
  int_sum_by-IsPermutation xs ys =
      IsPermutation-keeps xs (λ l. int_sum_by f l ≡ int_sum_by f xs) refl (λ l i j p q same. swapped l i j p q ∙ same) ys

-- the sums over a list, all together, are the sum of its items' sums
pub int_sum_over_by : {X : Type 0} (start n : ℕ) (xs : List X) (f : ℕ → X → ℤ) → int_sum_over start n (λ i. int_sum_by (f i) xs) ≡ int_sum_by (λ x. int_sum_over start n (λ i. f i x)) xs
int_sum_over_by start n xs f = total_of_swapped int_lawful f (range_with_len start n) xs
