-- Reading and writing by one format undo each other, once for every format. Assumes nothing.
use Rattle.std.proofs.Common.{◌≡◌, ℕ, ◌+◌, ◌<◌, ◌≤◌, Bool, true, false, cond, leb, List, [], ◌∷◌, ◌++◌, length, take, drop, get_or, Option, Some, None, Result, Ok, Err, Fits, w8, refl, sym, ap, ◌∙◌, arith}
use Rattle.std.proofs.Math.Facts.{Fits-of_lt}
use Rattle.std.proofs.lemmas.{List.append-nil, List.append_assoc, List.take_at, List.drop-drop, List.drop_at, List.drop_all, List.length-append, List.length-drop, List.get_or-drop, Bool.Decides.nat_tests}
use Rattle.packets.specs.{declared.faults.ByteFault.ByteFault, declared.faults.ByteFault.TheVariants.Malformed, declared.faults.PacketFault.TheVariants.WrongSize, declared.numbers.Number.Number, declared.rows.Limits.Limits, Faults.of_bytes, Numbers.number_in, Numbers.spelled, Numbers.overwritten, Formats.Format, Formats.Over, Formats.Field, Formats.and_then, Formats.within, Formats.limited, Formats.figure_at, Formats.before, Formats.whole, Formats.sized, Formats.spelled_all, Formats.written, Formats.left_with, Formats.output_with, Formats.Spells}
use Rattle.packets.proofs.Spelling.{reads_spelled, spelling, size_le}

-- what an answer that is no fault came from
and_then_ok : {A B F : Type 0} (r : Result A F) (next : A → Result B F) (y : B) → and_then r next ≡ Ok y → (x : A) × ((r ≡ Ok x) × (next x ≡ Ok y))
and_then_ok (Ok x) next y h = (x, (refl, h))
and_then_ok (Err fault) next y h = absurd (cc)

-- a choice that is no fault
pub cond_ok : {A F : Type 0} (t : Bool) (r : Result A F) (fault : F) (x : A) → cond t r (Err fault) ≡ Ok x → (t ≡ true) × (r ≡ Ok x)
cond_ok true r fault x h = (refl, h)
cond_ok false r fault x h = absurd (cc)

-- figures before others that come before the rest
pub before_before : (r : Result (List ℕ) ByteFault) (xs ys : List ℕ) → and_then (and_then r (before ys)) (before xs) ≡ and_then r (before (xs ++ ys))
before_before (Ok vs) xs ys = ap Ok (sym (append_assoc xs ys vs))
before_before (Err fault) xs ys = refl

-- no figures before the rest
pub before_none : (r : Result (List ℕ) ByteFault) → r ≡ and_then r (before [])
before_none (Ok vs) = refl
before_none (Err fault) = refl

limited_ok : (limits : Limits) (at : ℕ) (r : Option Number) (n : Number) → limited limits at r ≡ Ok n → (r ≡ Some n) × (within limits n.value ≡ true)
limited_ok limits at None n h = absurd (cc)
limited_ok limits at (Some x) n h =
    let k = cond_ok (within limits x.value) (Ok x) (Malformed at) n h in
    let e : x ≡ n = let is = k.1 in cc in
    (ap Some e, ap (λ y. within limits y.value) (sym e) ∙ k.0)

-- a figure that was read is the number there, within its limits
pub figure_ok : (limits : Limits) (bytes : List ℕ) (at : ℕ) (n : Number) → figure_at limits bytes at ≡ Ok n → (number_in (drop at bytes) ≡ Some n) × (within limits n.value ≡ true)
unfolding figure_at
figure_ok limits bytes at n h = limited_ok limits at (number_in (drop at bytes)) n h

-- the number there, within its limits, is read
pub figure_is : (limits : Limits) (bytes : List ℕ) (at : ℕ) (n : Number) → number_in (drop at bytes) ≡ Some n → within limits n.value ≡ true → figure_at limits bytes at ≡ Ok n
unfolding figure_at
figure_is limits bytes at n is fits = ap (limited limits at) is ∙ ap (λ t. cond t (Ok n) (Err (Malformed at))) fits

-- what is left after the bytes that spell a number
left_after : (v at : ℕ) (bytes rest : List ℕ) → drop at bytes ≡ spelled v ++ rest → drop (at + length (spelled v)) bytes ≡ rest
left_after v at bytes rest h = sym (drop-drop (length (spelled v)) at bytes) ∙ ap (drop (length (spelled v))) h ∙ drop_at (spelled v) rest (length (spelled v)) refl

-- figures that may be written read back
reads_back : (f : Format) (figures bytes : List ℕ) (at end : ℕ) → sized f figures at ≡ Ok end → drop at bytes ≡ spelled_all figures → whole f bytes at ≡ Ok figures
unfolding sized whole
reads_back Over [] bytes at end h is =
    let short : length bytes ≤ at = omega (arith, sym (length-drop at bytes) ∙ ap length is) in
    grind (arith, nat_tests)
reads_back Over (v ∷ figures) bytes at end h is = absurd (cc)
reads_back (Field limits next) [] bytes at end h is = absurd (cc)
reads_back (Field limits next) (v ∷ figures) bytes at end h is =
    let n : Number = record { value = v; size = length (spelled v) } in
    let k = cond_ok (within limits v) (sized (next v) figures (at + length (spelled v))) (Malformed at) end h in
    let first = figure_is limits bytes at n (ap number_in is ∙ reads_spelled v (spelled_all figures)) k.0 in
    ap (λ r. and_then r (λ x. and_then (whole (next x.value) bytes (at + x.size)) (before (x.value ∷ [])))) first
    ∙ ap (λ r. and_then r (before (v ∷ []))) (reads_back (next v) figures bytes (at + length (spelled v)) end k.1 (left_after v at bytes (spelled_all figures) is))

-- bytes that read are the bytes of their figures, which may be written
only_spelling : (f : Format) (bytes : List ℕ) (at : ℕ) (figures : List ℕ) → ((k : ℕ) → Fits w8 (get_or bytes k 0)) → at ≤ length bytes → whole f bytes at ≡ Ok figures → (drop at bytes ≡ spelled_all figures) × (sized f figures at ≡ Ok (length bytes))
unfolding sized whole
only_spelling Over bytes at figures typed among h =
    let k = cond_ok (leb (length bytes) at) (Ok []) (Malformed at) figures h in
    let none : [] ≡ figures = let e = k.1 in cc in
    let past : leb (length bytes) at ≡ true = k.0 in
    let end : at ≡ length bytes = grind (arith, nat_tests) in
    (drop_all at bytes (omega arith) ∙ ap spelled_all none, ap (λ vs. sized Over vs at) (sym none) ∙ ap Ok end)
only_spelling (Field limits next) bytes at figures typed among h =
    let first = and_then_ok (figure_at limits bytes at) (λ n. and_then (whole (next n.value) bytes (at + n.size)) (before (n.value ∷ []))) figures h in
    let n : Number = first.0 in
    let others = and_then_ok (whole (next n.value) bytes (at + n.size)) (before (n.value ∷ [])) figures first.1.1 in
    let is = figure_ok limits bytes at n first.1.0 in
    let spelt = spelling (drop at bytes) n (λ k. rw get_or-drop (typed (at + k))) is.0 in
    let long : at + n.size ≤ length bytes = omega (arith, size_le (drop at bytes) n is.0, length-drop at bytes) in
    let deeper = only_spelling (next n.value) bytes (at + n.size) others.0 typed long others.1.0 in
    let all : n.value ∷ others.0 ≡ figures = let e = others.1.1 in cc in (
      spelt.0 ∙ ap (λ xs. spelled n.value ++ xs) (drop-drop n.size at bytes ∙ deeper.0) ∙ ap spelled_all all,
      ap (λ vs. sized (Field limits next) vs at) (sym all)
          ∙ ap (λ t. cond t (sized (next n.value) others.0 (at + length (spelled n.value))) (Err (Malformed at))) is.1
          ∙ ap (λ k. sized (next n.value) others.0 (at + k)) (sym spelt.1)
          ∙ deeper.1,
    )

fits : (size length : ℕ) → size ≤ length → cond (leb size length) (Ok size) (Err WrongSize) ≡ Ok size
fits size length room = grind (arith, nat_tests)

-- figures within the format are written where there is room
written_ok : (f : Format) (figures output : List ℕ) (end : ℕ) → sized f figures 0 ≡ Ok end → end ≤ length output → written f figures output ≡ Ok end
written_ok f figures output end h room =
    ap (λ r. and_then (of_bytes r) (λ size. cond (leb size (length output)) (Ok size) (Err WrongSize))) h ∙ fits end (length output) room

pub output_ok : (f : Format) (figures output : List ℕ) (end : ℕ) → sized f figures 0 ≡ Ok end → end ≤ length output → output_with f figures output ≡ overwritten (spelled_all figures) output
output_ok f figures output end h room = ap (λ r. left_with r (spelled_all figures) output) (written_ok f figures output end h room)

-- bytes that read are the only ones that are written for their figures
pub spells : (f : Format) (figures bytes : List ℕ) → ((k : ℕ) → Fits w8 (get_or bytes k 0)) → whole f bytes 0 ≡ Ok figures → Spells f figures bytes
spells f figures bytes typed h =
    let k = only_spelling f bytes 0 figures typed (omega arith) h in
    record {
      size = λ output room. written_ok f figures output (length bytes) k.1 room;
      output = λ output room. output_ok f figures output (length bytes) k.1 room ∙ ap (λ xs. overwritten xs output) (sym k.0);
      alone = λ other bytes-too same. (only_spelling f other 0 figures (λ k. Fits-of_lt (bytes-too k)) (omega arith) same).0 ∙ sym k.0;
    }

-- where figures that may be written end
pub sized_end : (f : Format) (figures : List ℕ) (at end : ℕ) → sized f figures at ≡ Ok end → end ≡ at + length (spelled_all figures)
unfolding sized
sized_end Over [] at end h = let e : at ≡ end = cc in omega arith
sized_end Over (v ∷ figures) at end h = absurd (cc)
sized_end (Field limits next) [] at end h = absurd (cc)
sized_end (Field limits next) (v ∷ figures) at end h =
    let k = cond_ok (within limits v) (sized (next v) figures (at + length (spelled v))) (Malformed at) end h in
    omega (arith, sized_end (next v) figures (at + length (spelled v)) end k.1, length-append (spelled v) (spelled_all figures))

-- figures that were written within the format read back from the bytes over an output
pub whole_written : (f : Format) (figures output : List ℕ) (end : ℕ) → sized f figures 0 ≡ Ok end → whole f (take end (overwritten (spelled_all figures) output)) 0 ≡ Ok figures
whole_written f figures output end h =
    let bytes = spelled_all figures in
    ap (λ xs. whole f xs 0) (take_at bytes (drop (length bytes) output) end (omega (arith, sized_end f figures 0 end h))) ∙ reads_back f figures bytes 0 end h refl

over_some : (bytes : List ℕ) (at : ℕ) → at < length bytes → whole Over bytes at ≡ Err (Malformed at)
unfolding whole
over_some bytes at h = grind (arith, nat_tests)

over_none : (bytes : List ℕ) (at : ℕ) → length bytes ≤ at → whole Over bytes at ≡ Ok []
unfolding whole
over_none bytes at h = grind (arith, nat_tests)

-- two parts were read, and bytes are left over
pub left_over : (bytes xs ys : List ℕ) (at : ℕ) → at < length bytes → and_then (and_then (whole Over bytes at) (before ys)) (before xs) ≡ Err (Malformed at)
left_over bytes xs ys at h = ap (λ w. and_then (and_then w (before ys)) (before xs)) (over_some bytes at h)

-- or none are
pub none_left : (bytes xs ys : List ℕ) (at : ℕ) → length bytes ≤ at → and_then (and_then (whole Over bytes at) (before ys)) (before xs) ≡ Ok (xs ++ ys)
none_left bytes xs ys at h = ap (λ w. and_then (and_then w (before ys)) (before xs)) (over_none bytes at h) ∙ ap (λ vs. Ok (xs ++ vs)) (append-nil ys)
