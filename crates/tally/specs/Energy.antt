-- Energy as whole numbers, of which each keeps 64 bits. Assumes nothing.
use Rattle.std.specs.Prelude.{ℕ, ◌+◌, ◌-◌, ◌%◌, ◌^◌}
use Rattle.std.proofs.Common.{mod-lt, lit<}
use Rattle.tally.specs.declared.energy.Energy.{Energy}

-- the energy that two whole numbers are, each modulo 2 ^ 64
abbrev pub energy_of : ℕ → ℕ → Energy
energy_of injected withdrawn = record {
  injected = injected % 2 ^ 64;
  withdrawn = withdrawn % 2 ^ 64;
  injected_fits = mod-lt injected (lit< tt);
  withdrawn_fits = mod-lt withdrawn (lit< tt);
}

-- no energy
abbrev pub no_energy : Energy
no_energy = energy_of 0 0

-- number by number, the two together
abbrev pub energy_joined : Energy → Energy → Energy
energy_joined x y = energy_of (x.injected + y.injected) (x.withdrawn + y.withdrawn)

-- number by number, what is missing to 2 ^ 64
abbrev pub energy_undone : Energy → Energy
energy_undone x = energy_of (2 ^ 64 - x.injected) (2 ^ 64 - x.withdrawn)
