-- Rounding to the nearest whole number, halves up. Assumes nothing.
use Rattle.std.specs.Prelude.{ℕ, ◌+◌, ◌*◌, ◌/◌, ◌<◌, ◌≤◌}

-- x / d to the nearest whole number, halves up, where d is even.
abbrev pub rounded : ℕ → ℕ → ℕ
rounded x d = (x + d / 2) / d

-- The whole number r is nearest to x / d, and of two that are equally near the upper one: x / d + 1/2 reaches r, and not r + 1.
pub record NearestUp (x d r : ℕ) : Type 0 where
  pub reached : 2 * (r * d) ≤ 2 * x + d
  pub below : 2 * x < 2 * (r * d) + d
