-- What is known of a rounded quotient: all that is used of it elsewhere. Assumes nothing.
use Rattle.std.proofs.Common.{◌≡◌, ℕ, ◌+◌, ◌/◌, ◌%◌, ◌<◌, ◌≤◌, mod-lt, div-add-mod', arith}
use Rattle.std.proofs.Math.Nat.{div-mul-le_self}
use Rattle.std.proofs.lemmas.Nat.{le-div}
use Rattle.valuation.specs.Rounding.{rounded, NearestUp}

-- of no more there is no more
pub rounded_le : (x most d : ℕ) → 0 < d → x ≤ most → rounded x d ≤ rounded most d
rounded_le x most d some within =
    le-div (rounded x d) (most + d / 2) d some (omega (arith, div-mul-le_self (x + d / 2) d))

-- it is the nearest whole number
pub rounded_nearest : (x d : ℕ) → 0 < d → d % 2 ≡ 0 → NearestUp x d (rounded x d)
rounded_nearest x d some even =
    let parts = div-add-mod' (x + d / 2) d in
    let rest = mod-lt (x + d / 2) some in
    record { reached = omega arith; below = omega arith }
