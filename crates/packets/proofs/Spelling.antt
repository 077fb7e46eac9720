-- A number has one spelling, and reading it gives the number. Assumes nothing.
use Rattle.std.proofs.Common.{◌≡◌, ℕ, zero, suc, ◌+◌, ◌-◌, ◌*◌, ◌/◌, ◌%◌, ◌^◌, ◌<◌, ◌≤◌, true, false, cond, ltb, List, [], ◌∷◌, ◌++◌, length, set, take, drop, get_or, Option, Some, None, refl, sym, ap, ◌∙◌, ⊎_elim, Fits, w8, arith}
use Rattle.std.proofs.lemmas.{Nat.div_below, List.take_rest, List.drop_all, List.append-nil, Bool.Decides.nat_tests, Bool.cases_lt}
use borrow.Rule.Slice.PartMut.{put_mid}
use Rattle.packets.specs.{declared.numbers.Number.Number, Numbers.spelled_in, Numbers.spelled, Numbers.continued, Numbers.number_in, Numbers.at_most, Numbers.overwritten}

-- a limit on the groups that no number reaches is none
limit_same : (f g v : ℕ) → v ≤ f → v ≤ g → spelled_in f v ≡ spelled_in g v
unfolding spelled_in
limit_same zero zero v hf hg = refl
limit_same zero (suc g) v hf hg = grind (arith, nat_tests)
limit_same (suc f) zero v hf hg = grind (arith, nat_tests)
limit_same (suc f) (suc g) v hf hg = elim (ltb v 128) as (λ t. cond t (v ∷ []) ((v % 128 + 128) ∷ spelled_in f (v / 128)) ≡ cond t (v ∷ []) ((v % 128 + 128) ∷ spelled_in g (v / 128))) [
  | true ↦ refl
  | false ↦ ap (λ xs. (v % 128 + 128) ∷ xs) (limit_same f g (v / 128) (omega arith) (omega arith))
]

-- one group
pub spelled_low : (v : ℕ) → v < 128 → spelled v ≡ v ∷ []
unfolding spelled spelled_in
spelled_low zero h = refl
spelled_low (suc v) h = grind (arith, nat_tests)

-- a group under others
pub spelled_more : (v : ℕ) → 128 ≤ v → spelled v ≡ (v % 128 + 128) ∷ spelled (v / 128)
unfolding spelled spelled_in
spelled_more zero h = absurd (omega arith)
spelled_more (suc v) h =
    let e : ltb (suc v) 128 ≡ false = grind (arith, nat_tests) in
    ap (λ t. cond t (suc v ∷ []) ((suc v % 128 + 128) ∷ spelled_in v (suc v / 128))) e
    ∙ ap (λ xs. (suc v % 128 + 128) ∷ xs) (limit_same v (suc v / 128) (suc v / 128) (omega arith) (omega arith))

-- a byte that is a number
pub read_low : (b : ℕ) (bytes : List ℕ) → b < 128 → number_in (b ∷ bytes) ≡ Some (record { value = b; size = 1 })
unfolding number_in
read_low b bytes h = grind (arith, nat_tests)

-- a byte that says that more follows
pub read_more : (b : ℕ) (bytes : List ℕ) → 128 ≤ b → number_in (b ∷ bytes) ≡ continued b (number_in bytes)
unfolding number_in
read_more b bytes h = grind (arith, nat_tests)

-- no bytes
pub read_none : number_in [] ≡ None
unfolding number_in
read_none = refl

pub read_empty : (bytes : List ℕ) → length bytes < 1 → number_in bytes ≡ None
read_empty [] h = read_none
read_empty (b ∷ bytes) h = absurd (omega arith)

-- what follows counts something
pub continued_some : (b : ℕ) (high : Number) → 0 < high.value → continued b (Some high) ≡ Some (record { value = b - 128 + 128 * high.value; size = high.size + 1 })
unfolding continued
continued_some b high h = grind (arith, nat_tests)

-- what follows counts nothing
pub continued_zero : (b : ℕ) (high : Number) → high.value ≡ 0 → continued b (Some high) ≡ None
unfolding continued
continued_zero b high h = grind (arith, nat_tests)

-- nothing follows
pub continued_none : (b : ℕ) → continued b None ≡ None
unfolding continued
continued_none b = refl

-- a number of two groups is not below 128
pub capped : (most b : ℕ) (n : Option Number) → most < 128 → at_most most (continued b n) ≡ None
unfolding continued
capped most b None h = refl
capped most b (Some n) h = grind (arith, nat_tests)

-- what is too large under a group is too large with it
pub capped_under : (most b : ℕ) (n : Option Number) → 128 ≤ b → at_most (most / 128) n ≡ None → at_most most (continued b n) ≡ None
unfolding continued
capped_under most b None hb h = refl
capped_under most b (Some n) hb h = grind (arith, nat_tests)

-- a number within a limit is the number that was read
pub at_most_some : (most : ℕ) (n : Option Number) (x : Number) → at_most most n ≡ Some x → n ≡ Some x
at_most_some most None x h = cc
at_most_some most (Some n) x h = grind (arith, nat_tests)

-- and it is within that limit
pub at_most_within : (most : ℕ) (n : Option Number) (x : Number) → at_most most n ≡ Some x → x.value ≤ most
at_most_within most None x h = absurd (cc)
at_most_within most (Some n) x h = grind (arith, nat_tests)

-- what was read where more follows
continued_inv : (b : ℕ) (n : Option Number) (x : Number) → continued b n ≡ Some x → (high : Number) × ((n ≡ Some high) × (0 < high.value) × (x.value ≡ b - 128 + 128 * high.value) × (x.size ≡ high.size + 1))
unfolding continued
continued_inv b None x h = absurd (cc)
continued_inv b (Some high) x h = (high, (refl, grind (arith, nat_tests), grind (arith, nat_tests), grind (arith, nat_tests)))

low_is : (b : ℕ) (x : Number) → Some (record { value = b; size = 1 }) ≡ Some x → (x.value ≡ b) × (x.size ≡ 1)
low_is b x h = (cc, cc)

-- a number's bytes are among those read
pub size_le : (bytes : List ℕ) (x : Number) → number_in bytes ≡ Some x → x.size ≤ length bytes
size_le [] x h = absurd (let e = read_none in cc)
size_le (b ∷ bytes) x h =
    ⊎_elim
    (λ low. omega (arith, low_is b x (sym (read_low b bytes low) ∙ h)))
    (λ more. let k = continued_inv b (number_in bytes) x (sym (read_more b bytes more) ∙ h) in omega (arith, size_le bytes k.0 k.1.0))
    (cases_lt b 128)

-- bytes that read to a number are its spelling, and what follows it
pub spelling : (bytes : List ℕ) (x : Number) → ((k : ℕ) → Fits w8 (get_or bytes k 0)) → number_in bytes ≡ Some x → (bytes ≡ spelled x.value ++ drop x.size bytes) × (x.size ≡ length (spelled x.value))
spelling [] x typed h = absurd (let e = read_none in cc)
spelling (b ∷ bytes) x typed h =
    ⊎_elim
    (λ low.
    let is = low_is b x (sym (read_low b bytes low) ∙ h) in
    let once : spelled x.value ≡ b ∷ [] = ap spelled is.0 ∙ spelled_low b low in
    (ap (λ xs. xs ++ bytes) (sym once) ∙ ap (λ n. spelled x.value ++ drop n (b ∷ bytes)) (sym is.1), is.1 ∙ sym (ap length once)))
    (λ more.
    let k = continued_inv b (number_in bytes) x (sym (read_more b bytes more) ∙ h) in
    let deeper = spelling bytes k.0 (λ i. typed (suc i)) k.1.0 in
    let byte : b < 256 = omega (arith, (typed 0).fits) in
    let high : x.value / 128 ≡ k.0.value = omega (arith, k.1.2) in
    let lowest : x.value % 128 + 128 ≡ b = omega (arith, k.1.2) in
    let once : spelled x.value ≡ b ∷ spelled k.0.value = spelled_more x.value (omega (arith, k.1.2)) ∙ ap (λ v. v ∷ spelled (x.value / 128)) lowest ∙ ap (λ v. b ∷ spelled v) high in
    let size : x.size ≡ suc k.0.size = omega (arith, k.1.3) in (
      ap (λ xs. b ∷ xs) deeper.0 ∙ ap (λ xs. xs ++ drop k.0.size bytes) (sym once) ∙ ap (λ n. spelled x.value ++ drop n (b ∷ bytes)) (sym size),
      size ∙ ap suc deeper.1 ∙ sym (ap length once),
    ))
    (cases_lt b 128)

reads_low : (v : ℕ) (rest : List ℕ) → v < 128 → number_in (spelled v ++ rest) ≡ Some (record { value = v; size = length (spelled v) })
reads_low v rest low = rw (spelled_low v low) (read_low v rest low)

-- reading what was spelled gives the number, whatever follows
reads : (f v : ℕ) (rest : List ℕ) → v ≤ f → number_in (spelled v ++ rest) ≡ Some (record { value = v; size = length (spelled v) })
reads zero v rest h = reads_low v rest (omega arith)
reads (suc f) v rest h =
    ⊎_elim
    (λ low. reads_low v rest low)
    (λ more.
    let once = spelled_more v more in
    let deeper = reads f (v / 128) rest (omega arith) in
    let size : length (spelled (v / 128)) + 1 ≡ length (spelled v) = omega (arith, ap length once) in
    let whole : v % 128 + 128 - 128 + 128 * (v / 128) ≡ v = omega arith in
    ap (λ xs. number_in (xs ++ rest)) once
    ∙ read_more (v % 128 + 128) (spelled (v / 128) ++ rest) (omega arith)
    ∙ ap (continued (v % 128 + 128)) deeper
    ∙ continued_some (v % 128 + 128) (record { value = v / 128; size = length (spelled (v / 128)) }) (omega arith)
    ∙ ap (λ n. Some (record { value = n; size = length (spelled (v / 128)) + 1 })) whole
    ∙ ap (λ n. Some (record { value = v; size = n })) size)
    (cases_lt v 128)

pub reads_spelled : (v : ℕ) (rest : List ℕ) → number_in (spelled v ++ rest) ≡ Some (record { value = v; size = length (spelled v) })
reads_spelled v rest = reads v v rest (omega arith)

-- a number of so many groups
spelled_le : (n v : ℕ) → v < 128 ^ suc n → length (spelled v) ≤ suc n
spelled_le zero v h = let low : v < 128 = omega (arith, h) in omega (arith, ap length (spelled_low v low))
spelled_le (suc n) v h =
    ⊎_elim
    (λ low. omega (arith, ap length (spelled_low v low)))
    (λ more. omega (arith, ap length (spelled_more v more), spelled_le n (v / 128) (div_below v 128 (128 ^ suc n) (omega arith) (omega (arith, h)))))
    (cases_lt v 128)

-- a number of 64 bits has ten groups at most
pub spelled_ten : (v : ℕ) → v < 2 ^ 64 → length (spelled v) ≤ 10
spelled_ten v h = spelled_le 9 v (omega arith)

-- a number of 64 bits was read from ten groups at most
read_le : (n : ℕ) (bytes : List ℕ) (x : Number) → x.value < 128 ^ suc n → number_in bytes ≡ Some x → x.size ≤ suc n
read_le n [] x small h = absurd (let e = read_none in cc)
read_le zero (b ∷ bytes) x small h =
    ⊎_elim
    (λ low. omega (arith, low_is b x (sym (read_low b bytes low) ∙ h)))
    (λ more. let k = continued_inv b (number_in bytes) x (sym (read_more b bytes more) ∙ h) in absurd (omega (arith, small, k.1.1, k.1.2)))
    (cases_lt b 128)
read_le (suc n) (b ∷ bytes) x small h =
    ⊎_elim
    (λ low. omega (arith, low_is b x (sym (read_low b bytes low) ∙ h)))
    (λ more.
    let k = continued_inv b (number_in bytes) x (sym (read_more b bytes more) ∙ h) in
    omega (arith, k.1.3, read_le n bytes k.0 (omega (arith, small, k.1.2)) k.1.0))
    (cases_lt b 128)

pub read_ten : (bytes : List ℕ) (x : Number) → x.value < 2 ^ 64 → number_in bytes ≡ Some x → x.size ≤ 10
read_ten bytes x small h = read_le 9 bytes x (omega arith) h

-- the number that bytes begin with, by their first
pub first_low : (bytes : List ℕ) (b : ℕ) → 1 ≤ length bytes → b ≡ get_or bytes 0 0 → b < 128 → number_in bytes ≡ Some (record { value = b; size = 1 })
first_low [] b some is low = absurd (omega (arith, some))
first_low (a ∷ bytes) b some is low = ap (λ x. number_in (x ∷ bytes)) (sym is) ∙ read_low b bytes low

pub first_more : (bytes : List ℕ) (b : ℕ) → 1 ≤ length bytes → b ≡ get_or bytes 0 0 → 128 ≤ b → number_in bytes ≡ continued b (number_in (take (length bytes - 1) (drop 1 bytes)))
first_more [] b some is more = absurd (omega (arith, some))
first_more (a ∷ bytes) b some is more = ap (λ x. number_in (x ∷ bytes)) (sym is) ∙ read_more b bytes more ∙ ap (λ xs. continued b (number_in xs)) (sym (take_rest (a ∷ bytes) 1))

-- a number of one byte over an output
pub over_low : (v : ℕ) (output : List ℕ) → v < 128 → length (spelled v) ≤ length output → set output 0 v ≡ overwritten (spelled v) output
over_low v [] low room = absurd (omega (arith, ap length (spelled_low v low)))
over_low v (x ∷ output) low room = rw (spelled_low v low) refl

-- a byte, and the rest of the number over the rest of the output
pub over_more : (v : ℕ) (output new : List ℕ) → 128 ≤ v → length (spelled v) ≤ length output →
    (let first = set output 0 (v % 128 + 128) in
    new ≡ overwritten (spelled (v / 128)) (take (length first - 1) (drop 1 first)) → put_mid 1 (length first - 1) first new ≡ overwritten (spelled v) output)
over_more v [] new more room is = absurd (omega (arith, ap length (spelled_more v more)))
over_more v (x ∷ output) new more room is =
    let g = v % 128 + 128 in
    let once : suc (length output) - 1 ≡ length output = omega arith in
    rw (spelled_more v more) (
    ap (λ k. put_mid 1 k (g ∷ output) new) once
    ∙ ap (λ ys. g ∷ (new ++ ys)) (drop_all (length output) output (omega arith))
    ∙ ap (λ ys. g ∷ ys) (append-nil new ∙ is ∙ ap (overwritten (spelled (v / 128))) (take_rest (g ∷ output) 1)))
