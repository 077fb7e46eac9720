-- Numbers in groups of seven bits. Assumes nothing.
use Rattle.std.specs.Prelude.{ℕ, zero, suc, ◌+◌, ◌-◌, ◌*◌, ◌/◌, ◌%◌, if◌then◌else◌, List, [], ◌∷◌, ◌++◌, length, drop, Option, Some, None, ◌==◌, nat_lt, nat_le}
use Rattle.packets.specs.declared.numbers.Number.{Number}

-- The bytes of a number, the lowest seven bits first: each byte but the last has 128 more. No
-- number has more groups than it counts.
unfoldable pub spelled_in : ℕ → ℕ → List ℕ
spelled_in zero v = v ∷ []
spelled_in (suc groups) v =
    if nat_lt v 128 then v ∷ [] else (v % 128 + 128) ∷ spelled_in groups (v / 128)

-- the bytes that spell a number
unfoldable pub spelled : ℕ → List ℕ
spelled v = spelled_in v v

-- A byte that says that more follows, before the number that follows: that is not 0, or its group
-- was not needed.
unfoldable pub continued : ℕ → Option Number → Option Number
continued b None = None
continued b (Some high) =
    let whole : Number = record { value = b - 128 + 128 * high.value; size = high.size + 1 } in
    if high.value == 0 then None else Some whole

-- the number that bytes begin with
unfoldable pub number_in : List ℕ → Option Number
number_in [] = None
number_in (b ∷ bytes) =
    if nat_lt b 128 then Some (record { value = b; size = 1 }) else continued b (number_in bytes)

-- a number, unless it is above the limit
abbrev pub at_most : ℕ → Option Number → Option Number
at_most most None = None
at_most most (Some n) = if nat_le n.value most then Some n else None

-- what is written over the first places of an output
abbrev pub overwritten : {T : Type 0} → List T → List T → List T
overwritten bytes output = bytes ++ drop (length bytes) output
