-- Sharing: the parts of the first weights together are points × (the sum of these weights) / total, rounded down. That they add
-- up, and that no part is a whole point off, follows. Assumes nothing.
use Rattle.std.proofs.Common.{◌≡◌, ℕ, zero, suc, ◌+◌, ◌*◌, ◌/◌, ◌%◌, ◌<◌, ◌≤◌, ◌⊎◌, List, map, length, get_or, take, sum, sym, ap, ◌∙◌, subst, inl, inr, add-zero, mod-lt, mul_comm, add-mul, eq-zero-or-pos, mul-le-mul_left, mul-zero, div-add-mod', zero-mul, mul-add, mul_right_comm, mul-div_cancel, add-one, arith}
use native.Mathlib.Nat.{zero-div, div-zero, zero-mod, mul-add-div_right, div-le_of_le-mul}
use Rattle.std.specs.List.{All, range_with_len}
use Rattle.std.proofs.lemmas.{Nat.le-div, List.FromFn.length-map-range_with_len, List.FromFn.get_or-map-range_with_len, List.FromFn.sum_by-map-range_with_len_more, List.get_or_past, List.take_all, List.Elements.All-from_get_or, List.Sums.sum_by_more, List.Sums.sum_by-take-le, Bool.cases_lt}
use Rattle.valuation.specs.Sharing.{part_at, part_of, parts_of, Fair}

-- ---- one part

-- nothing is shared where there is no weight
pub part_at_no_total : (points before weight : ℕ) → part_at points 0 before weight ≡ 0
part_at_no_total points before weight = simp (div-zero, zero-mul) (omega arith)

-- a weight of 0 has no part
pub part_at_no_weight : (points total before : ℕ) → part_at points total before 0 ≡ 0
part_at_no_weight points total before = simp (mul-zero, add-zero) (omega arith)

-- sharing 0 gives zeros
pub part_at_no_points : (total before weight : ℕ) → part_at 0 total before weight ≡ 0
part_at_no_points total before weight = simp (zero-div, zero-mod, zero-mul) (omega arith)

-- a running share never falls
pub share_grows : (total : ℕ) → 0 < total → (x before weight : ℕ) → x * before / total ≤ x * (before + weight) / total
share_grows total some x before weight =
    le-div (x * before / total) (x * (before + weight)) total some (omega (arith, div-add-mod' (x * before) total, mul-add x before weight))

module _ (points total : ℕ) (some : 0 < total) where
  -- the quotient and the remainder together
  joined : (running : ℕ) → points * running / total ≡ points / total * running + points % total * running / total
  joined running =
      ap (λ x. x * running / total) (sym (div-add-mod' points total))
      ∙ ap (λ x. x / total) (add-mul (points / total * total) (points % total) running ∙ ap (λ x. x + points % total * running) (mul_right_comm (points / total) total running))
      ∙ mul-add-div_right some (points / total * running) (points % total * running)

  -- a part is what the running share grows by
  pub part_at_step : (before weight : ℕ) → part_at points total before weight + points * before / total ≡ points * (before + weight) / total
  part_at_step before weight =
      omega (arith, joined before, joined (before + weight), mul-add (points / total) before weight, share_grows total some (points % total) before weight)

  -- what is added up on the way to a part stays within the points
  pub part_at_within : (before weight : ℕ) → before + weight ≤ total → points / total * weight + points % total * (before + weight) / total ≤ points
  part_at_within before weight within =
      let rest : points % total * (before + weight) / total ≤ points % total =
      div-le_of_le-mul total (omega (arith, mul-le-mul_left (points % total) within, mul_comm (points % total) total)) in
      let quotient : points / total * weight ≤ points / total * total = mul-le-mul_left (points / total) (omega arith) in
      omega (arith, div-add-mod' points total)

  -- a part is less than a point from its exact proportion
  pub part_at_fair : (before weight : ℕ) →
      (part_at points total before weight * total < points * weight + total) × (points * weight < part_at points total before weight * total + total)
  part_at_fair before weight =
      let step : part_at points total before weight * total + points * before / total * total ≡ points * (before + weight) / total * total =
      sym (add-mul (part_at points total before weight) (points * before / total) total) ∙ ap (λ x. x * total) (part_at_step before weight) in
      let upper = div-add-mod' (points * (before + weight)) total in
      let lower = div-add-mod' (points * before) total in
      let upper_rest = mod-lt (points * (before + weight)) some in
      let lower_rest = mod-lt (points * before) some in
      let spread = mul-add points before weight in
      (omega arith, omega arith)

-- a part is at most what is shared, also where there is no weight
pub part_at_le : (points total before weight : ℕ) → before + weight ≤ total → part_at points total before weight ≤ points
part_at_le points total before weight within = either (eq-zero-or-pos total)
  where
    either : (total ≡ 0) ⊎ (0 < total) → part_at points total before weight ≤ points
    either (inl none) = rw none (rw part_at_no_total (omega arith))
    either (inr some) = omega (arith, part_at_within points total some before weight within)

-- ---- the parts of a list of weights

-- the running sum, one weight on, and within the total
pub running_more : (weights : List ℕ) (i : ℕ) → i < length weights → sum (take (i + 1) weights) ≡ sum (take i weights) + get_or weights i 0
running_more weights i within = sum_by_more (λ x. x) weights i 0 within

pub running_le : (weights : List ℕ) (i : ℕ) → i < length weights → sum (take i weights) + get_or weights i 0 ≤ sum weights
running_le weights i within = omega (arith, running_more weights i within, sum_by-take-le (λ x. x) weights (i + 1))

-- a part is at most what is shared
pub part_of_le : (points : ℕ) (weights : List ℕ) (i : ℕ) → i < length weights → part_of points weights i ≤ points
part_of_le points weights i within = part_at_le points (sum weights) (sum (take i weights)) (get_or weights i 0) (running_le weights i within)

-- where the weight is 0, and where nothing is shared, the part is 0
pub part_of_no_weight : (points : ℕ) (weights : List ℕ) (i : ℕ) → get_or weights i 0 ≡ 0 → part_of points weights i ≡ 0
part_of_no_weight points weights i none = rw none (part_at_no_weight points (sum weights) (sum (take i weights)))

pub part_of_no_points : (weights : List ℕ) (i : ℕ) → part_of 0 weights i ≡ 0
part_of_no_points weights i = part_at_no_points (sum weights) (sum (take i weights)) (get_or weights i 0)

-- the list of the parts, by its length and its places
pub length-parts_of : (points : ℕ) (weights : List ℕ) → length (parts_of points weights) ≡ length weights
length-parts_of points weights = length-map-range_with_len (part_of points weights) 0 (length weights)

pub slice_index_or-parts_of : (points : ℕ) (weights : List ℕ) (i : ℕ) → get_or (parts_of points weights) i 0 ≡ part_of points weights i
slice_index_or-parts_of points weights i = either (cases_lt i (length weights))
  where
    either : (i < length weights) ⊎ (length weights ≤ i) → get_or (parts_of points weights) i 0 ≡ part_of points weights i
    either (inl within) = get_or-map-range_with_len (part_of points weights) 0 (length weights) i i 0 within (omega arith)
    either (inr past) =
        get_or_past (parts_of points weights) i 0 (omega (arith, length-parts_of points weights))
        ∙ sym (part_of_no_weight points weights i (get_or_past weights i 0 past))

-- each part is at most what is shared
pub parts_of_within : (points : ℕ) (weights : List ℕ) → All (λ part. part ≤ points) (parts_of points weights)
parts_of_within points weights =
    All-from_get_or (λ part. part ≤ points) (parts_of points weights) 0 (λ i within.
    omega (arith, slice_index_or-parts_of points weights i, part_of_le points weights i (omega (arith, within, length-parts_of points weights))))

-- where no weight is above 0, each is 0
pub parts_of_none : (points : ℕ) (weights : List ℕ) → sum weights ≡ 0 → All (λ part. part ≡ 0) (parts_of points weights)
parts_of_none points weights none =
    All-from_get_or (λ part. part ≡ 0) (parts_of points weights) 0 (λ i within.
    slice_index_or-parts_of points weights i
    ∙ ap (λ total. part_at points total (sum (take i weights)) (get_or weights i 0)) none
    ∙ part_at_no_total points (sum (take i weights)) (get_or weights i 0))

module _ (points : ℕ) (weights : List ℕ) (some : 0 < sum weights) where
  -- the first k parts together
  abbrev pub First : ℕ → Type 0
  First k = sum (map (part_of points weights) (range_with_len 0 k)) ≡ points * sum (take k weights) / sum weights

  first_more : (k : ℕ) → k < length weights → First k → First (k + 1)
  first_more k within first =
      let pushed : sum (map (part_of points weights) (range_with_len 0 (k + 1))) ≡ sum (map (part_of points weights) (range_with_len 0 k)) + part_of points weights k =
      sum_by-map-range_with_len_more (λ x. x) (part_of points weights) 0 k k (omega arith) in
      omega (arith, pushed, part_at_step points (sum weights) some (sum (take k weights)) (get_or weights k 0))
      ∙ ap (λ x. points * x / sum weights) (sym (running_more weights k within))

  pub sum_first_parts : (k : ℕ) → k ≤ length weights → First k
  sum_first_parts zero within = sym (ap (λ x. x / sum weights) (mul-zero points) ∙ zero-div (sum weights))
  sum_first_parts (suc k) within = subst First (add-one k) (first_more k within (sum_first_parts k (omega arith)))

  -- all parts together are the points
  pub sum-parts_of : sum (parts_of points weights) ≡ points
  sum-parts_of =
      sum_first_parts (length weights) (omega arith)
      ∙ ap (λ ws. points * sum ws / sum weights) (take_all (length weights) weights (omega arith))
      ∙ mul-div_cancel points some

-- no part is a whole point off
pub parts_of_fair : (points : ℕ) (weights : List ℕ) → Fair points weights (parts_of points weights)
parts_of_fair points weights some i within =
    rw (slice_index_or-parts_of points weights i) (part_at_fair points (sum weights) some (sum (take i weights)) (get_or weights i 0))
