-- What `parse` reads of a word with no sign is the number that the word writes.
use Rattle.std.proofs.Common.{◌≡◌, ℕ, ◌^◌, ◌<◌, Bool, true, false, cond, List, length, Some, None, Ok, Err, Decides, Result, refl, ap, arith, rules}
use Rattle.std.specs.Result.{OkIff, result_ok}
use Rattle.std.specs.Str.{all_ascii_digits}
use Rattle.std.proofs.lemmas.Str.Parse.{IsNumeralModel, numerals_by_fold}
use Rattle.std.proofs.lemmas.Bool.Decides.{nat_tests}
use Rattle.gibzurg.specs.Numbers.{read_on, number_of}

-- `read_on` is a reading of digits
pub reading : IsNumeralModel (λ ds. all_ascii_digits ds ≡ true) (read_on 0)
reading = numerals_by_fold _ (search rules) read_on (search rules)

kept : {E : Type 0} (r : Result ℕ E) (b : Bool) (P : Type 0) (v : ℕ) → OkIff r P v → Decides b P → result_ok r ≡ cond b (Some v) None
kept (Ok x) true P v h d = ap Some h.1
kept (Ok x) false P v h d = let z : false ≡ true = d.1 h.0 in cc
kept (Err e) true P v h d = absurd (h (d.0 refl))
kept (Err e) false P v h d = refl

pub read_number : {E : Type 0} (word : List ℕ) (r : Result ℕ E) → OkIff r ((all_ascii_digits word ≡ true) × (0 < length word) × (read_on 0 word < 2 ^ 32)) (read_on 0 word) → result_ok r ≡ number_of word
read_number word r h = kept r _ _ _ h (grind (arith, nat_tests), grind (arith, nat_tests))
