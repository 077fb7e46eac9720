-- What energy is worth, in points of 1/10,000 dollar. Assumes nothing.
use Rattle.std.specs.Prelude.{ℕ, ◌*◌}
use Rattle.valuation.specs.Rounding.{rounded}

-- kWh × hundred-thousandths × micro-dollars per kWh in a point, and kWh × micro-dollars per kWh
abbrev pub amount_units : ℕ
amount_units = 10000000

abbrev pub cost_units : ℕ
cost_units = 100

-- The amount of an energy at a node factor and a price, to the nearest point.
abbrev pub amount_of : (energy factor price : ℕ) → ℕ
amount_of energy factor price = rounded (energy * factor * price) amount_units

-- The cost amount of an energy at a cost, to the nearest point.
abbrev pub cost_amount_of : (energy cost : ℕ) → ℕ
cost_amount_of energy cost = rounded (energy * cost) cost_units
