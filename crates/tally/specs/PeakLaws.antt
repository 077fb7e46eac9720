-- What joins of peaks come to. Assumes nothing.
use Rattle.std.specs.Prelude.{◌≡◌}
use mathlib.Core.HLevel.{is_prop→PathP}
use Rattle.std.proofs.Math.Nat.{ℕ_set}
use Rattle.std.proofs.lemmas.Bool.Decides.{nat_tests}
use Rattle.std.proofs.Common.{arith}
use Rattle.tally.specs.{Lawful.Lawful, Peak.no_peak, Peak.peak_joined, declared.peak.Peak.Peak}

-- two of equal numbers are equal
pub peak_same : (x y : Peak) → x.kwh ≡ y.kwh → x.hour ≡ y.hour → x ≡ y
peak_same x y p q i = record {
  kwh = p i;
  hour = q i;
  idle = is_prop→PathP (λ k. p k ≡ 0 → q k ≡ 0) (λ k f g. λ j h. ℕ_set _ _ (f h) (g h) j) x.idle y.idle i;
}

pub peak_lawful : Lawful no_peak peak_joined
peak_lawful = record {
  identity = λ x. peak_same _ x (grind (arith, nat_tests)) (grind (arith, nat_tests));
  commutative = λ x y. peak_same _ _ (grind (arith, nat_tests)) (grind (arith, nat_tests));
  associative = λ x y z. grind (arith, nat_tests);
}
