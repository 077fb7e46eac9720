-- The first place that fails a test. Assumes nothing.
use Rattle.std.specs.Prelude.{ℕ, zero, suc, ◌+◌, Bool, if◌then◌else◌, Option, Some, None}

-- of the n places from `start` on, the first that fails the test
abbrev pub first_failing : (ℕ → Bool) → (start n : ℕ) → Option ℕ
first_failing test start zero = None
first_failing test start (suc n) =
    if test start then first_failing test (start + 1) n else Some start
