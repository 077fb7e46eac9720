-- What joins of energy come to. Assumes nothing.
use Rattle.std.specs.Prelude.{◌≡◌, ℕ, ◌+◌, ◌-◌, ◌%◌, ◌^◌, ◌<◌}
use Rattle.std.proofs.Common.{sym, mod-eq_of_lt, arith}
use mathlib.Core.HLevel.{is_prop→PathP}
use Rattle.std.proofs.Math.{Bridge.le_prop, Nat.add-mod}
use Rattle.tally.specs.{Lawful.Lawful, Energy.energy_of, Energy.no_energy, Energy.energy_joined, Energy.energy_undone, declared.energy.Energy.Energy}

-- two of equal numbers are equal
pub energy_same : (x y : Energy) → x.injected ≡ y.injected → x.withdrawn ≡ y.withdrawn → x ≡ y
energy_same x y p q i = record {
  injected = p i;
  withdrawn = q i;
  injected_fits = is_prop→PathP (λ k. p k < 2 ^ 64) (λ k. le_prop) x.injected_fits y.injected_fits i;
  withdrawn_fits = is_prop→PathP (λ k. q k < 2 ^ 64) (λ k. le_prop) x.withdrawn_fits y.withdrawn_fits i;
}

-- energy is what its numbers are
pub energy_of_fits : (e : Energy) → energy_of e.injected e.withdrawn ≡ e
energy_of_fits e = energy_same _ e (mod-eq_of_lt e.injected_fits) (mod-eq_of_lt e.withdrawn_fits)

pub energy_of_joined : (a b a' b' : ℕ) → energy_joined (energy_of a b) (energy_of a' b') ≡ energy_of (a + a') (b + b')
energy_of_joined a b a' b' = energy_same _ _ (sym (add-mod a a' (2 ^ 64))) (sym (add-mod b b' (2 ^ 64)))

-- what one number takes back, and another puts in its place
replaced : (a x x' : ℕ) → (((a + x) % 2 ^ 64 + (2 ^ 64 - x % 2 ^ 64) % 2 ^ 64) % 2 ^ 64 + x' % 2 ^ 64) % 2 ^ 64 ≡ (a + x') % 2 ^ 64
replaced a x x' = omega arith

pub energy_of_replaced : (a b x y x' y' : ℕ) →
    energy_joined (energy_joined (energy_of (a + x) (b + y)) (energy_undone (energy_of x y))) (energy_of x' y') ≡ energy_of (a + x') (b + y')
energy_of_replaced a b x y x' y' = energy_same _ _ (replaced a x x') (replaced b y y')

pub energy_lawful : Lawful no_energy energy_joined
energy_lawful = record {
  identity = λ x. energy_same _ x (omega arith) (omega arith);
  commutative = λ x y. energy_same _ _ (omega arith) (omega arith);
  associative = λ x y z. energy_same _ _ (omega arith) (omega arith);
}

pub energy_cancels : (x : Energy) → energy_joined x (energy_undone x) ≡ no_energy
energy_cancels x = energy_same _ _ (omega arith) (omega arith)
