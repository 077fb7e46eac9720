-- The difference of two small numbers, as 64 bits keep it. Assumes nothing.
use Rattle.std.proofs.Common.{◌≡◌, ℕ, ◌≤◌, pos, ◌-ℤ◌, arith, w64, SFits, to_z, of_z}
use Rattle.std.proofs.lemmas.Int.{ints}
use Rattle.settlement.specs.Limits.{most_points}
use Rattle.tally.proofs.Numbers.{fits_abs}

-- as the code works it, it is that of the numbers
pub difference : (a b a' b' : ℕ) → a ≡ a' → b ≡ b' → a ≤ most_points → b ≤ most_points → to_z w64 (of_z w64 (to_z w64 a -ℤ to_z w64 b)) ≡ pos a' -ℤ pos b'
difference a b a' b' p q small small' =
    let fits : SFits w64 (pos a' -ℤ pos b') = fits_abs _ (omega (arith, ints)) in
    omega (arith, ints)
