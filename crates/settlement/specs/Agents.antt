-- The agents of a book, counted from 0. Assumes nothing.
use Rattle.std.specs.Prelude.{ℕ, Bool, if◌then◌else◌, ◌&&◌, ◌||◌, List, is_some, Option, ◌==◌, nat_le, slice_index_or}
use Rattle.forms.specs.{declared.roles.Role.Role, Roles.role_of, Roles.generates, Roles.has_role}
use Rattle.valuation.specs.Limits.{most_energy}
use Rattle.settlement.specs.{declared.agents.Agent.Agent, Limits.most_power}

-- an agent's figures are within their limits: it has a role, a capacity and a remunerable power, which is 0 unless it generates
abbrev pub agent_fits : Agent → Bool
agent_fits a =
    is_some (role_of a.role)
    && (nat_le a.capacity most_energy && (nat_le a.power most_power
    && (has_role generates a.role || a.power == 0)))

-- what stands past the last agent: no role at all
abbrev pub no_agent : Agent
no_agent = record { role = 0; capacity = 0; power = 0 }

-- the agent at a place
abbrev pub agent_at : List Agent → ℕ → Agent
agent_at agents i = slice_index_or agents i no_agent

-- the role of the agent at a place
abbrev pub role_at : List Agent → ℕ → Option Role
role_at agents i = role_of (agent_at agents i).role

-- energy that counts if its agent has such a role, by number
abbrev pub counted : (such : Role → Bool) → (code energy : ℕ) → ℕ
counted such code energy = if has_role such code then energy else 0
