-- Rows of numbers, a number at a time, and what stands in an output after them. Assumes nothing.
use Rattle.std.proofs.Common.{◌≡◌, ℕ, zero, suc, ◌+◌, ◌-◌, ◌<◌, ◌≤◌, Bool, true, false, cond, List, [], ◌∷◌, ◌++◌, length, take, drop, get_or, set, Option, Some, None, Result, Ok, Err, refl, sym, ap, ◌∙◌, arith}
use Rattle.std.specs.List.{flat_map}
use Rattle.std.proofs.lemmas.{Grind.flat_map-append, List.take_more_set, List.take_more, List.append-nil, List.append_assoc, List.at_drop_more, List.drop_all, List.drop-drop, List.drop_at, List.take_at, List.length-append, List.take_all, Bool.Decides.nat_tests}
use borrow.Rule.Slice.PartMut.{put_mid}
use Rattle.packets.specs.{declared.faults.ByteFault.ByteFault, declared.faults.ByteFault.TheVariants.Malformed, declared.numbers.Number.Number, declared.rows.Limits.Limits, Numbers.number_in, Numbers.spelled, Numbers.at_most, Numbers.overwritten, Formats.Format, Formats.Over, Formats.and_then, Formats.within, Formats.limited, Formats.figure_at, Formats.before, Formats.whole, Formats.sized, Formats.row, Formats.closed, Formats.no_limits}
use Rattle.packets.proofs.{Spelling.at_most_some, Spelling.at_most_within, Formats.before_before, Formats.figure_is}

-- a number within both limits
pub figure_some : (limits : Limits) (bytes : List ℕ) (at : ℕ) (n : Number) → at_most limits.most (number_in (drop at bytes)) ≡ Some n → limits.least ≤ n.value → figure_at limits bytes at ≡ Ok n
figure_some limits bytes at n h low =
    let high : n.value ≤ limits.most = at_most_within limits.most (number_in (drop at bytes)) n h in
    figure_is limits bytes at n (at_most_some limits.most (number_in (drop at bytes)) n h) (grind (arith, nat_tests))

-- a number below the least
pub figure_low : (limits : Limits) (bytes : List ℕ) (at : ℕ) (n : Number) → at_most limits.most (number_in (drop at bytes)) ≡ Some n → n.value < limits.least → figure_at limits bytes at ≡ Err (Malformed at)
unfolding figure_at
figure_low limits bytes at n h low = ap (limited limits at) (at_most_some limits.most (number_in (drop at bytes)) n h) ∙ grind (arith, nat_tests)

-- no number up to the most
pub figure_none : (limits : Limits) (bytes : List ℕ) (at : ℕ) → at_most limits.most (number_in (drop at bytes)) ≡ None → figure_at limits bytes at ≡ Err (Malformed at)
unfolding figure_at
figure_none limits bytes at h = above (number_in (drop at bytes)) h
  where
    above : (r : Option Number) → at_most limits.most r ≡ None → limited limits at r ≡ Err (Malformed at)
    above None e = refl
    above (Some n) e = grind (arith, nat_tests)

-- what is left of a row and what follows it, where its first figures have been read
abbrev pub left : (limits : List Limits) (next : List ℕ → Format) (figures bytes : List ℕ) (at : ℕ) → Result (List ℕ) ByteFault
left limits next figures bytes at = and_then (whole (row limits (λ more. next (figures ++ more))) bytes at) (before figures)

-- what is left after one figure more
left_more : (limits : List Limits) (next : List ℕ → Format) (figures bytes : List ℕ) (at v : ℕ) →
    and_then (and_then (whole (row limits (λ more. next (figures ++ v ∷ more))) bytes at) (before (v ∷ []))) (before figures) ≡ left limits next (figures ++ v ∷ []) bytes at
left_more limits next figures bytes at v =
    before_before (whole (row limits (λ more. next (figures ++ v ∷ more))) bytes at) figures (v ∷ [])
    ∙ (λ k. and_then (whole (row limits (λ more. next (sym (append_assoc figures (v ∷ []) more) k))) bytes at) (before (figures ++ v ∷ [])))

-- a number more is read
pub row_more : (limits : List Limits) (next : List ℕ → Format) (i : ℕ) (figures bytes : List ℕ) (at : ℕ) (n : Number) → i < length limits → i < length figures → figure_at (get_or limits i no_limits) bytes at ≡ Ok n →
    left (drop i limits) next (take i figures) bytes at ≡ left (drop (i + 1) limits) next (take (i + 1) (set figures i n.value)) bytes (at + n.size)
unfolding whole row
row_more limits next i figures bytes at n lt lf read =
    let rest = drop (i + 1) limits in
    let done = take i figures in
    at_drop_more (λ ls. left ls next done bytes at) limits i no_limits lt
    ∙ ap (λ r. and_then (and_then r (λ x. and_then (whole (row rest (λ more. next (done ++ x.value ∷ more))) bytes (at + x.size)) (before (x.value ∷ [])))) (before done)) read
    ∙ left_more rest next done bytes (at + n.size) n.value
    ∙ ap (λ vs. left rest next vs bytes (at + n.size)) (sym (take_more_set figures i n.value lf))

-- the next number is not there
pub row_fault : (limits : List Limits) (next : List ℕ → Format) (i : ℕ) (figures bytes : List ℕ) (at : ℕ) (fault : ByteFault) → i < length limits → figure_at (get_or limits i no_limits) bytes at ≡ Err fault →
    left (drop i limits) next figures bytes at ≡ Err fault
unfolding whole row
row_fault limits next i figures bytes at fault lt read =
    at_drop_more (λ ls. left ls next figures bytes at) limits i no_limits lt
    ∙ ap (λ r. and_then (and_then r (λ x. and_then (whole (row (drop (i + 1) limits) (λ more. next (figures ++ x.value ∷ more))) bytes (at + x.size)) (before (x.value ∷ [])))) (before figures)) read

-- a row was read to its end
pub row_done : (limits : List Limits) (next : List ℕ → Format) (i : ℕ) (figures bytes : List ℕ) (at : ℕ) → length limits ≤ i → left (drop i limits) next figures bytes at ≡ and_then (whole (next figures) bytes at) (before figures)
unfolding row
row_done limits next i figures bytes at past =
    ap (λ ls. left ls next figures bytes at) (drop_all i limits past) ∙ ap (λ vs. and_then (whole (next vs) bytes at) (before figures)) (append-nil figures)

-- the next number, and what is left of a row
pub sized_next : (limits : List Limits) (i : ℕ) (figures : List ℕ) (at : ℕ) (fits : Bool) → i < length limits → i < length figures → within (get_or limits i no_limits) (get_or figures i 0) ≡ fits →
    sized (row (drop i limits) closed) (drop i figures) at ≡ cond fits (sized (row (drop (i + 1) limits) closed) (drop (i + 1) figures) (at + length (spelled (get_or figures i 0)))) (Err (Malformed at))
unfolding sized row
sized_next limits i figures at fits lt lf is =
    at_drop_more (λ ls. sized (row ls closed) (drop i figures) at) limits i no_limits lt
    ∙ at_drop_more (λ vs. sized (row (get_or limits i no_limits ∷ drop (i + 1) limits) closed) vs at) figures i 0 lf
    ∙ ap (λ t. cond t (sized (row (drop (i + 1) limits) closed) (drop (i + 1) figures) (at + length (spelled (get_or figures i 0)))) (Err (Malformed at))) is

-- a row was checked to its end
pub sized_all : (limits : List Limits) (i : ℕ) (figures : List ℕ) (at : ℕ) → length limits ≤ i → length figures ≤ i → sized (row (drop i limits) closed) (drop i figures) at ≡ Ok at
unfolding sized row
sized_all limits i figures at past pf = ap (λ ls. sized (row ls closed) (drop i figures) at) (drop_all i limits past) ∙ ap (λ vs. sized Over vs at) (drop_all i figures pf)

-- to check a row and what follows it is to check the row, and then what follows
pub sized_row : (limits : List Limits) (next : List ℕ → Format) (figures more : List ℕ) (at : ℕ) → length figures ≡ length limits →
    sized (row limits next) (figures ++ more) at ≡ and_then (sized (row limits closed) figures at) (λ end. sized (next figures) more end)
unfolding sized row
sized_row [] next [] more at h = refl
sized_row [] next (v ∷ figures) more at h = absurd (omega (arith, h))
sized_row (l ∷ limits) next [] more at h = absurd (omega (arith, h))
sized_row (l ∷ limits) next (v ∷ figures) more at h =
    ap (λ r. cond (within l v) r (Err (Malformed at))) (sized_row limits (λ vs. next (v ∷ vs)) figures more (at + length (spelled v)) (omega (arith, h)))
    ∙ chosen (within l v) (sized (row limits closed) figures (at + length (spelled v)))
  where
    chosen : (t : Bool) (r : Result ℕ ByteFault) → cond t (and_then r (λ end. sized (next (v ∷ figures)) more end)) (Err (Malformed at)) ≡ and_then (cond t r (Err (Malformed at))) (λ end. sized (next (v ∷ figures)) more end)
    chosen true r = refl
    chosen false r = refl

-- the pieces of one place more
pub pieces_next : {T : Type 0} (piece : T → List ℕ) (xs : List T) (i : ℕ) (d : T) → i < length xs → flat_map piece (take (i + 1) xs) ≡ flat_map piece (take i xs) ++ piece (get_or xs i d)
pieces_next piece xs i d lt =
    ap (flat_map piece) (take_more xs i d lt) ∙ flat_map-append piece (take i xs) (get_or xs i d ∷ [])
    ∙ ap (λ ys. flat_map piece (take i xs) ++ ys) (append-nil (piece (get_or xs i d)))

-- bytes over an output from a place on, after others
pub over_next : (xs ys output old new : List ℕ) (at : ℕ) → old ≡ overwritten xs output → at ≡ length xs → new ≡ overwritten ys (take (length old - at) (drop at old)) →
    put_mid at (length old - at) old new ≡ overwritten (xs ++ ys) output
over_next xs ys output old new at was is now =
    let rest = drop (length xs) output in
    let o = xs ++ rest in
    let F = λ (p q : List ℕ) (k : ℕ). p ++ ((ys ++ drop (length ys) (take k q)) ++ drop k q) in
    let long : length o - at ≡ length rest = omega (arith, length-append xs rest) in
    ap (put_mid at (length old - at) old) now ∙ ap (λ o. put_mid at (length o - at) o (overwritten ys (take (length o - at) (drop at o)))) was
    ∙ ap (λ p. F p (drop at o) (length o - at)) (take_at xs rest at (sym is))
    ∙ ap (λ q. F xs q (length o - at)) (drop_at xs rest at (sym is))
    ∙ ap (F xs rest) long
    ∙ ap (λ q. xs ++ ((ys ++ drop (length ys) q) ++ drop (length rest) rest)) (take_all (length rest) rest (omega arith))
    ∙ ap (λ z. xs ++ ((ys ++ drop (length ys) rest) ++ z)) (drop_all (length rest) rest (omega arith))
    ∙ ap (λ z. xs ++ z) (append-nil (ys ++ drop (length ys) rest))
    ∙ ap (λ z. xs ++ (ys ++ z)) (drop-drop (length ys) (length xs) output)
    ∙ sym (append_assoc xs ys (drop (length xs + length ys) output))
    ∙ ap (λ n. (xs ++ ys) ++ drop n output) (sym (length-append xs ys))

-- figures at so many places, from one on
abbrev pub placed : ℕ → ℕ → List ℕ → List ℕ
placed zero k vs = []
placed (suc n) k vs = get_or vs k 0 ∷ placed n (suc k) vs

placed_under : (n k v : ℕ) (vs : List ℕ) → placed n (suc k) (v ∷ vs) ≡ placed n k vs
placed_under zero k v vs = refl
placed_under (suc n) k v vs = ap (λ xs. get_or vs k 0 ∷ xs) (placed_under n (suc k) v vs)

-- a list is what stands at its places
pub listed : (n : ℕ) (vs : List ℕ) → length vs ≡ n → vs ≡ placed n 0 vs
listed zero [] h = refl
listed zero (v ∷ vs) h = absurd (omega (arith, h))
listed (suc n) [] h = absurd (omega (arith, h))
listed (suc n) (v ∷ vs) h = ap (λ xs. v ∷ xs) (listed n vs (omega (arith, h)) ∙ sym (placed_under n 0 v vs))
