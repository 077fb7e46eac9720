-- What joins of pairs come to. Assumes nothing.
use Rattle.std.proofs.Common.{◌≡◌}
use Rattle.tally.specs.declared.pair.Pair.{Pair}

-- two of equal parts are equal
pub pair_same : {A B : Type 0} (x y : Pair A B) → x.first ≡ y.first → x.second ≡ y.second → x ≡ y
pair_same x y p q i = record { first = p i; second = q i }
