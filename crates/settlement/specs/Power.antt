-- What power comes to at closing. Agents are counted from 0. Assumes nothing.
use Rattle.std.specs.Prelude.{ℕ, ◌*◌, Bool, ◌&&◌, List, map, length, ℤ, pos, ◌-ℤ◌, sum, ◌==◌, nat_lt, slice_index_or}
use Rattle.forms.specs.Roles.{carries}
use Rattle.valuation.specs.Sharing.{part_of}
use Rattle.settlement.specs.{declared.agents.Agent.Agent, Agents.agent_at, Agents.counted, Holdings.Holding, Holdings.no_holding, Holdings.holding_joined, Holdings.withdrawn_on, Holdings.power_points, Hour.weights_in, Limits.points_per_kw}
use Rattle.std.specs.List.{range_with_len}
use Rattle.tally.specs.Sums.{sum_to}

-- what an agent is credited for its remunerable power
abbrev pub power_credit : List Agent → ℕ → ℕ
power_credit agents i = points_per_kw * (agent_at agents i).power

-- what all agents together are credited, which is debited again
abbrev pub power_due : List Agent → ℕ
power_due agents = sum_to (length agents) (power_credit agents)

-- it is carried over the month's withdrawn energy, by agents in roles that carry
abbrev pub power_weight : List Agent → (withdrawn : ℕ → ℕ) → ℕ → ℕ
power_weight agents withdrawn i = counted carries (agent_at agents i).role (withdrawn i)

abbrev pub power_weights : List Agent → (withdrawn : ℕ → ℕ) → List ℕ
power_weights agents withdrawn = weights_in (length agents) (power_weight agents withdrawn)

-- 11: power is due, and no weight carries it
abbrev pub power_uncarried : List Agent → (withdrawn : ℕ → ℕ) → Bool
power_uncarried agents withdrawn = nat_lt 0 (power_due agents) && sum (power_weights agents withdrawn) == 0

-- the part of it that the agent at place i carries
abbrev pub power_part : List Agent → (withdrawn : ℕ → ℕ) → ℕ → ℕ
power_part agents withdrawn i = part_of (power_due agents) (power_weights agents withdrawn) i

-- the power line of the agent at place i: its own credit less the part that it carries
abbrev pub power_line : List Agent → (withdrawn : ℕ → ℕ) → ℕ → ℤ
power_line agents withdrawn i = pos (power_credit agents i) -ℤ pos (power_part agents withdrawn i)

-- the account of the agent at place i, with its power line
abbrev pub charged_at : List Agent → List Holding → ℕ → Holding
charged_at agents accounts i =
    let line : ℤ = power_line agents (withdrawn_on accounts) i in
    holding_joined (slice_index_or accounts i no_holding) (power_points line)

-- all accounts with theirs
abbrev pub accounts_charged : List Agent → List Holding → List Holding
accounts_charged agents accounts = map (charged_at agents accounts) (range_with_len 0 (length accounts))
