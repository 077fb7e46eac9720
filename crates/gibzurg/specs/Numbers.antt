-- Numbers as a journal writes them.
use Rattle.std.specs.Prelude.{ℕ, ◌+◌, ◌-◌, ◌*◌, ◌^◌, if◌then◌else◌, ◌&&◌, Bool, List, [], ◌∷◌, length, Some, None, Option, nat_lt}
use Rattle.std.specs.Str.{all_ascii_digits}

-- the number that digits write, where those before them write n
abbrev pub read_on : ℕ → List ℕ → ℕ
read_on n [] = n
read_on n (c ∷ cs) = read_on (10 * n + (c - 48)) cs

-- whether a word writes a number: digits alone, at least one, below 2 ^ 32
abbrev pub is_number : List ℕ → Bool
is_number word =
    all_ascii_digits word && (nat_lt 0 (length word) && nat_lt (read_on 0 word) (2 ^ 32))

-- the number that a word writes
abbrev pub number_of : List ℕ → Option ℕ
number_of word = if is_number word then Some (read_on 0 word) else None
