-- The excess of generation that runs at a cost above the price. Assumes nothing.
use Rattle.std.specs.Prelude.{ℕ, ◌-◌, if◌then◌else◌, nat_lt}
use Rattle.valuation.specs.Amounts.{amount_of, cost_amount_of}

-- The excess, in points: 0 where the cost is below the price; else the cost amount of the gross energy less the amount of the
-- injected energy. The difference is at least 0, since natural subtraction stops there.
abbrev pub excess_of : (price gross injected factor cost : ℕ) → ℕ
excess_of price gross injected factor cost =
    if nat_lt cost price then 0 else cost_amount_of gross cost - amount_of injected factor price
