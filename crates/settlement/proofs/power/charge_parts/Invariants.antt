use Rattle.std.proofs.Common.{◌≡◌, ℕ, ◌<◌, ◌≤◌, get_or}
use Rattle.settlement.specs.{Holdings.no_holding, Power.charged_at}
use Rattle.settlement.proofs.power.charge_parts.Given as goal

abbrev pub invariant-loop-i : goal.invariant-loop-i
invariant-loop-i l =
    ((k : ℕ) → k < l.i → get_or l.accounts k no_holding ≡ charged_at l.agents l.initial.accounts k)
    × ((k : ℕ) → l.i ≤ k → get_or l.accounts k no_holding ≡ get_or l.initial.accounts k no_holding)
