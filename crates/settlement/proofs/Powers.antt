-- The weights of a month's power, and what each account is charged. Assumes nothing.
use Rattle.std.proofs.Common.{◌≡◌, ℕ, ◌<◌, ◌≤◌, List, length, sum, ap, arith}
use Rattle.std.proofs.lemmas.List.FromFn.{length-map-range_with_len}
use Rattle.valuation.proofs.Sharing.{part_of_le}
use Rattle.settlement.{specs.declared.agents.Agent.Agent, specs.Agents.agent_at, specs.Holdings.Holding, specs.Holdings.no_holding, specs.Holdings.withdrawn_on, specs.Holdings.all_withdrawn, specs.Power.power_due, specs.Power.power_weight, specs.Power.power_weights, specs.Power.power_part, proofs.Sharing.counted_le}
use Rattle.forms.specs.Roles.{carries}
use Rattle.tally.{specs.Sums.sum_to, proofs.Numbers.sum_to_mono, proofs.Numbers.sum_by_list, proofs.Numbers.sum_counting}

module _ (agents : List Agent) (accounts : List Holding) (long : length accounts ≡ length agents) where
  -- all weights together are at most the withdrawn energy of all accounts
  pub power_weights_le : sum (power_weights agents (withdrawn_on accounts)) ≤ all_withdrawn accounts
  power_weights_le =
      let all = sum_by_list (λ (account : Holding). account.second.withdrawn) accounts no_holding in
      let each = sum_to_mono (length agents) (power_weight agents (withdrawn_on accounts)) (withdrawn_on accounts)
      (λ i within. counted_le carries (agent_at agents i).role (withdrawn_on accounts i)) in
      let weights = sum_counting (power_weight agents (withdrawn_on accounts)) (length agents) in
      omega (arith, ap (λ n. sum_to n (withdrawn_on accounts)) long)

-- a part is at most the power due
pub power_part_le : (agents : List Agent) (withdrawn : ℕ → ℕ) (i : ℕ) → i < length agents → power_part agents withdrawn i ≤ power_due agents
power_part_le agents withdrawn i within =
    part_of_le (power_due agents) (power_weights agents withdrawn) i (omega (arith, length-map-range_with_len (power_weight agents withdrawn) 0 (length agents)))
