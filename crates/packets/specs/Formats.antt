-- Formats as data, and what reading and writing by a format come to. Assumes nothing.
use Rattle.std.specs.Prelude.{ℕ, ◌≡◌, ◌≤◌, ◌<◌, ◌+◌, Bool, if◌then◌else◌, ◌&&◌, List, [], ◌∷◌, ◌++◌, length, drop, Option, Some, None, Result, Ok, Err, nat_le, slice_index, slice_index_or}
use Rattle.std.specs.List.{flat_map}
use Rattle.packets.specs.{declared.faults.ByteFault.ByteFault, declared.faults.ByteFault.TheVariants.Malformed, declared.faults.PacketFault.PacketFault, declared.faults.PacketFault.TheVariants.WrongSize, declared.numbers.Number.Number, declared.rows.Limits.Limits, Faults.of_bytes, Numbers.number_in, Numbers.spelled, Numbers.overwritten}

-- what may come next: nothing more, or a number within limits, which sets what may follow it
pub data Format : Type 0 where
  Over : Format
  Field : Limits → (next : ℕ → Format) → Format

-- what follows an answer that is no fault
abbrev pub and_then : {A B F : Type 0} → Result A F → (A → Result B F) → Result B F
and_then (Ok x) next = next x
and_then (Err fault) next = Err fault

-- whether a number is within its limits
abbrev pub within : Limits → ℕ → Bool
within limits v = nat_le limits.least v && nat_le v limits.most

-- a number, if there is one and it is within its limits; what is wrong starts at the place
abbrev pub limited : Limits → (at : ℕ) → Option Number → Result Number ByteFault
limited limits at None = Err (Malformed at)
limited limits at (Some n) = if within limits n.value then Ok n else Err (Malformed at)

-- the number that starts at a place of the bytes, within its limits
unfoldable pub figure_at : Limits → (bytes : List ℕ) → (at : ℕ) → Result Number ByteFault
figure_at limits bytes at = limited limits at (number_in (drop at bytes))

-- figures before others
abbrev pub before : List ℕ → List ℕ → Result (List ℕ) ByteFault
before figures more = Ok (figures ++ more)

-- the figures that bytes hold from a place to their end
unfoldable pub whole : Format → (bytes : List ℕ) → (at : ℕ) → Result (List ℕ) ByteFault
whole Over bytes at = if nat_le (length bytes) at then Ok [] else Err (Malformed at)
whole (Field limits next) bytes at =
    and_then (figure_at limits bytes at)
    (λ n. and_then (whole (next n.value) bytes (at + n.size)) (before (n.value ∷ [])))

-- where figures that are written from a place on would end
unfoldable pub sized : Format → (figures : List ℕ) → (at : ℕ) → Result ℕ ByteFault
sized Over [] at = Ok at
sized Over (v ∷ figures) at = Err (Malformed at)
sized (Field limits next) [] at = Err (Malformed at)
sized (Field limits next) (v ∷ figures) at =
    if within limits v then sized (next v) figures (at + length (spelled v)) else Err (Malformed at)

-- the bytes that spell figures
abbrev pub spelled_all : List ℕ → List ℕ
spelled_all figures = flat_map spelled figures

-- a row of numbers, and what follows them
unfoldable pub row : List Limits → (next : List ℕ → Format) → Format
row [] next = next []
row (l ∷ limits) next = Field l (λ v. row limits (λ figures. next (v ∷ figures)))

-- nothing follows
abbrev pub closed : List ℕ → Format
closed figures = Over

-- A row was read from a place on, or a fault was met there: whatever may follow the row, the
-- figures from there to the end of the bytes are its own and those that follow.
pub record RowRead (limits : List Limits) (bytes : List ℕ) (at : ℕ) (figures : List ℕ)
    (end : Result ℕ ByteFault) : Type 0 where
  pub goes_on : (next : List ℕ → Format) → whole (row limits next) bytes at
      ≡ and_then end (λ k. and_then (whole (next figures) bytes k) (before figures))

-- what stands past the last limits of a row: only 0 is within them
abbrev pub no_limits : Limits
no_limits = record { least = 0; most = 0 }

-- the most that the number at a place of a row may be
abbrev pub most_at : List Limits → ℕ → ℕ
most_at limits k = (slice_index_or limits k no_limits).most

-- each number of a row is at most what it may be
abbrev pub AtMost : List Limits → (figures : List ℕ) → Type 0
AtMost limits figures = (k : ℕ) → k < length limits → slice_index figures k ≤ most_at limits k

-- How many bytes figures are written in. An output that is too short is told after figures that the
-- format has no place for.
abbrev pub written : Format → (figures output : List ℕ) → Result ℕ PacketFault
written f figures output =
    and_then (of_bytes (sized f figures 0))
    (λ size. if nat_le size (length output) then Ok size else Err WrongSize)

-- what an answer leaves of an output: the bytes over its first ones, or what was there
abbrev pub left_with : Result ℕ PacketFault → (bytes output : List ℕ) → List ℕ
left_with (Ok size) bytes output = overwritten bytes output
left_with (Err fault) bytes output = output

-- the output once figures were written there
abbrev pub output_with : Format → (figures output : List ℕ) → List ℕ
output_with f figures output = left_with (written f figures output) (spelled_all figures) output

-- numbers that are bytes
abbrev pub AreBytes : List ℕ → Type 0
AreBytes bytes = (k : ℕ) → slice_index bytes k < 256

-- Whatever output has room for the bytes, writing the figures there gives them; and no other bytes
-- hold these figures.
pub record Spells (f : Format) (figures bytes : List ℕ) : Type 0 where
  pub size : (output : List ℕ) → length bytes ≤ length output →
      written f figures output ≡ Ok (length bytes)
  pub output : (output : List ℕ) → length bytes ≤ length output →
      output_with f figures output ≡ overwritten bytes output
  pub alone : (other : List ℕ) → AreBytes other → whole f other 0 ≡ Ok figures → other ≡ bytes
