-- The limits of an hour and of a month. Assumes nothing.
use Rattle.std.specs.Prelude.{ℕ, ◌-◌, ◌*◌, ◌^◌}
use Rattle.calendar.specs.Limits.{most_hours}
use Rattle.forms.specs.Limits.{most_agents}
use Rattle.valuation.specs.Limits.{most_energy, most_cost_amount}

-- the most remunerable power of an agent, in kW
abbrev pub most_power : ℕ
most_power = 1000000

-- the points that are credited for a kW of remunerable power
abbrev pub points_per_kw : ℕ
points_per_kw = 57000

-- the most excess of an hour, all lines together
abbrev pub most_excess : ℕ
most_excess = most_agents * most_cost_amount

-- the most withdrawn energy of a month, all agents together
abbrev pub most_month_energy : ℕ
most_month_energy = most_hours * most_energy

-- the most points that are credited for power: to an agent, whatever its figures are, and to all agents
abbrev pub most_credit : ℕ
most_credit = points_per_kw * (2 ^ 32 - 1)

abbrev pub most_points : ℕ
most_points = most_agents * most_credit
