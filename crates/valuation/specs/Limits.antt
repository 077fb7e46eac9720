-- The limits of what is valued. Assumes nothing.
use Rattle.std.specs.Prelude.{ℕ}
use Rattle.valuation.specs.Amounts.{amount_of, cost_amount_of}

-- The most energy of an hour, in kWh.
abbrev pub most_energy : ℕ
most_energy = 4000000

-- The highest price or cost, in micro-dollars per kWh.
abbrev pub most_price : ℕ
most_price = 2000000

-- The node factors, in hundred-thousandths, from the least to the most.
abbrev pub least_factor : ℕ
least_factor = 50000

abbrev pub most_factor : ℕ
most_factor = 150000

-- The largest amount, in points of 1/10,000 dollar: the most energy at the highest factor and price.
abbrev pub most_amount : ℕ
most_amount = amount_of most_energy most_factor most_price

-- The largest cost amount, in points: the most energy at the highest cost.
abbrev pub most_cost_amount : ℕ
most_cost_amount = cost_amount_of most_energy most_price
