-- Power lines: what they come to together, and their size. Assumes nothing.
use Rattle.std.specs.List.{list_all}
use Rattle.std.proofs.Common.{◌≡◌, ℕ, ◌*◌, ◌<◌, ◌≤◌, true, false, ◌||◌, eqb, leb, is_some, List, length, pos, nat_abs, subst, arith}
use Rattle.std.proofs.lemmas.{Bool.and_parts, Bool.leb-true, List.FromFn.length-map-range_with_len, Int.ints}
use Rattle.tally.specs.Sums.{sum_to, sum_to_ℤ}
use Rattle.tally.proofs.{Failing.all_each, Numbers.sum_to_le, Numbers.sum_to_ℤ_less}
use Rattle.valuation.specs.Limits.{most_energy}
use Rattle.forms.specs.{Limits.most_agents, Roles.role_of, Roles.generates, Roles.has_role}
use Rattle.settlement.specs.{declared.agents.Agent.Agent, Agents.agent_fits, Agents.agent_at, Agents.no_agent, Limits.most_power, Limits.points_per_kw, Power.power_credit, Power.power_due, Power.power_weight, Power.power_weights, Power.power_uncarried, Power.power_part, Power.power_line}
use Rattle.settlement.proofs.{Powers.power_part_le, Even.parts_together}

-- what can be carried is carried, so that all power lines come to nothing
pub power_together : (agents : List Agent) (withdrawn : ℕ → ℕ) → power_uncarried agents withdrawn ≡ false → sum_to_ℤ (length agents) (power_line agents withdrawn) ≡ pos 0
power_together agents withdrawn carried =
    let parts : sum_to (length agents) (power_part agents withdrawn) ≡ power_due agents =
    subst (λ n. sum_to n (power_part agents withdrawn) ≡ power_due agents) (length-map-range_with_len (power_weight agents withdrawn) 0 (length agents))
    (parts_together (power_due agents) (power_weights agents withdrawn) carried) in
    omega (arith, ints, sum_to_ℤ_less (length agents) (power_credit agents) (power_part agents withdrawn))

-- the power of an agent that fits
power_within : (a : Agent) → agent_fits a ≡ true → a.power ≤ most_power
power_within a fits =
    let capacity = and_parts (is_some (role_of a.role)) _ fits in
    let power = and_parts (leb a.capacity most_energy) _ capacity.1 in
    leb-true a.power most_power (and_parts (leb a.power most_power) (has_role generates a.role || eqb a.power 0) power.1).0

module _ (agents : List Agent) (few : length agents ≤ most_agents) (fit : list_all agent_fits agents ≡ true) where
  -- what an agent is credited
  credit_le : (i : ℕ) → i < length agents → power_credit agents i ≤ points_per_kw * most_power
  credit_le i below = omega (arith, power_within (agent_at agents i) (all_each agent_fits agents i no_agent fit below))

  -- what all agents are credited
  pub due_le : power_due agents ≤ most_agents * (points_per_kw * most_power)
  due_le =
      let due : power_due agents ≤ length agents * (points_per_kw * most_power) = sum_to_le (length agents) (power_credit agents) (points_per_kw * most_power) credit_le in
      omega (arith, few)

  -- a power line
  pub power_line_le : (withdrawn : ℕ → ℕ) (i : ℕ) → i < length agents → nat_abs (power_line agents withdrawn i) ≤ most_agents * (points_per_kw * most_power)
  power_line_le withdrawn i below = omega (arith, ints, credit_le i below, due_le, power_part_le agents withdrawn i below)
