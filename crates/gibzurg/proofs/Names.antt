-- Where a word is found among names, its number is the first's and its place; where it is not, the number that it writes.
use Rattle.std.proofs.Common.{◌≡◌, ℕ, ◌+◌, Bool, true, false, cond, List, [], ◌∷◌, map, Option, Some, Bor, refl, arith}
use Rattle.std.specs.Str.{bytes_eq}
use Rattle.std.specs.Option.{MatchOption}
use Rattle.std.specs.List.{position, position_from}
use Rattle.std.proofs.lemmas.Iterator.Adapters.{position_from-zero}
use Rattle.gibzurg.specs.Choices.{place_among}
use Rattle.gibzurg.specs.Numbers.{number_of}

-- the texts behind names
abbrev pub texts : List (Bor (List ℕ)) → List (List ℕ)
texts names = map (λ name. name.now) names

-- whether a name is a word
abbrev pub names_it : List ℕ → Bor (List ℕ) → Bool
names_it word name = bytes_eq word name.now

-- what is read by a place: the number of the first name and the place together, or what else is written
abbrev pub ReadBy : Option ℕ → (first : ℕ) → (read written : Option ℕ) → Type 0
ReadBy place first read written = MatchOption place (read ≡ written) (λ k. read ≡ Some (first + k))

-- `position_from` counts names from i where `place_among` counts them from m, which is n more
step : (b : Bool) (n i m : ℕ) (found read written : Option ℕ) → m ≡ n + i → ReadBy found n read written → ReadBy (cond b (Some i) found) n (cond b (Some m) read) written
step true n i m found read written more h = cc
step false n i m found read written more h = h

read_from : (n i m : ℕ) (names : List (Bor (List ℕ))) (word : List ℕ) → m ≡ n + i → ReadBy (position_from (names_it word) i names) n (place_among m (texts names) word) (number_of word)
read_from n i m [] word more = refl
read_from n i m (name ∷ names) word more = step (names_it word name) n i m _ _ _ more (read_from n (i + 1) (m + 1) names word (omega arith))

pub read_by_place : (n : ℕ) (names : List (Bor (List ℕ))) (word : List ℕ) → ReadBy (position (names_it word) names) n (place_among n (texts names) word) (number_of word)
read_by_place n names word = rw (position_from-zero (names_it word) names) (read_from n 0 n names word (omega arith))
