-- What the laws of a tally give of totals. Assumes nothing.
use Rattle.std.proofs.Common.{◌≡◌, ℕ, zero, suc, ◌+◌, ◌*◌, ◌<◌, ◌≤◌, List, [], ◌∷◌, ◌++◌, map, length, get_or, set, take, drop, fold, sym, ap, ◌∙◌, arith, drop-drop, le_of_suc-le-suc, not-suc-le-zero}
use Rattle.tally.specs.{Lawful.Lawful, Total.total, Total.day_in, Total.day_totals}
use Rattle.std.specs.List.{range_with_len}
use Rattle.std.proofs.lemmas.List.{take-append-drop, drop_all}

module _ {T : Type 0} {nothing : T} {joined : T → T → T} (laws : Lawful nothing joined) where
  pub right_identity : (x : T) → joined x nothing ≡ x
  right_identity x = laws.commutative x nothing ∙ laws.identity x

  -- the total of two lists, one after the other
  pub total_append : (xs ys : List T) → total nothing joined (xs ++ ys) ≡ joined (total nothing joined xs) (total nothing joined ys)
  total_append [] ys = sym (laws.identity (total nothing joined ys))
  total_append (x ∷ xs) ys = ap (joined x) (total_append xs ys) ∙ sym (laws.associative x (total nothing joined xs) (total nothing joined ys))

  -- a part more, of what is left
  pub total_next : (sum : T) (part rest : List T) → joined (joined sum (total nothing joined part)) (total nothing joined rest) ≡ joined sum (total nothing joined (part ++ rest))
  total_next sum part rest = laws.associative sum (total nothing joined part) (total nothing joined rest) ∙ ap (joined sum) (sym (total_append part rest))

  -- items joined from the left, begun with a value
  total_from : (x : T) (xs : List T) → fold joined x xs ≡ joined x (total nothing joined xs)
  total_from x [] = sym (right_identity x)
  total_from x (y ∷ xs) = total_from (joined x y) xs ∙ laws.associative x y (total nothing joined xs)

  -- items joined from the left, begun with none, are their total
  pub total_fold : (xs : List T) → fold joined nothing xs ≡ total nothing joined xs
  total_fold xs = total_from nothing xs ∙ laws.identity (total nothing joined xs)

  -- to take a value out of a total that has it leaves the rest
  taken_out : (x out rest : T) → joined x out ≡ nothing → joined (joined x rest) out ≡ rest
  taken_out x out rest cancels =
      ap (λ t. joined t out) (laws.commutative x rest) ∙ laws.associative rest x out ∙ ap (joined rest) cancels ∙ right_identity rest

  -- the total after the item at one place changed
  pub total_set : (xs : List T) (i : ℕ) (old out new : T) → joined old out ≡ nothing → i < length xs → get_or xs i old ≡ old → joined (joined (total nothing joined xs) out) new ≡ total nothing joined (set xs i new)
  total_set [] i old out new cancels within read = absurd (not-suc-le-zero within)
  total_set (x ∷ xs) zero old out new cancels within read =
      let rest = total nothing joined xs in
      ap (λ t. joined t new) (ap (λ y. joined (joined y rest) out) read ∙ taken_out old out rest cancels) ∙ laws.commutative rest new
  total_set (x ∷ xs) (suc i) old out new cancels within read =
      ap (λ t. joined t new) (laws.associative x _ out) ∙ laws.associative x _ new
      ∙ ap (joined x) (total_set xs i old out new cancels (le_of_suc-le-suc within) read)

  -- of the days from one on, each joined: all that is left from its first hour on
  days_from : (n day : ℕ) (month : List T) → length month ≤ 24 * (day + n) →
      total nothing joined (map (λ k. total nothing joined (day_in k month)) (range_with_len day n)) ≡ total nothing joined (drop (24 * day) month)
  days_from zero day month few = ap (total nothing joined) (sym (drop_all (24 * day) month (omega (arith, few))))
  days_from (suc n) day month few =
      let left = drop (24 * day) month in
      ap (joined (total nothing joined (take 24 left))) (days_from n (day + 1) month (omega (arith, few)) ∙ ap (total nothing joined) (sym (drop-drop 24 (24 * day) month ∙ ap (λ k. drop k month) (omega arith))))
      ∙ sym (total_append (take 24 left) (drop 24 left))
      ∙ ap (total nothing joined) (take-append-drop 24 left)

  -- the joined days are the joined month
  pub total_days : (days : ℕ) (month : List T) → length month ≤ 24 * days → total nothing joined month ≡ total nothing joined (day_totals nothing joined days month)
  total_days days month few = sym (days_from days 0 month (omega (arith, few)))
