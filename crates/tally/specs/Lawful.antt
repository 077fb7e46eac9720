-- What every tally keeps. Assumes nothing.
use Rattle.std.specs.Prelude.{◌≡◌}

-- values join in any order and any grouping, and one value adds nothing
pub record Lawful {T : Type 0} (nothing : T) (joined : T → T → T) : Type 0 where
  pub identity : (x : T) → joined nothing x ≡ x
  pub commutative : (x y : T) → joined x y ≡ joined y x
  pub associative : (x y z : T) → joined (joined x y) z ≡ joined x (joined y z)
