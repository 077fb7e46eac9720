-- Amounts, cost amounts and excesses are within their limits. Assumes nothing.
use Rattle.std.proofs.Common.{ℕ, ◌-◌, ◌*◌, ◌≤◌, Bool, true, false, cond, ltb, lit<, arith}
use Rattle.std.proofs.lemmas.Nat.{mul-le}
use Rattle.valuation.specs.{Amounts.amount_units, Amounts.cost_units, Amounts.amount_of, Amounts.cost_amount_of, Excess.excess_of, Limits.most_energy, Limits.most_price, Limits.most_factor, Limits.most_amount, Limits.most_cost_amount}
use Rattle.valuation.proofs.Rounding.{rounded_le}

-- the amount before rounding
pub product_le : (energy factor price : ℕ) → energy ≤ most_energy → factor ≤ most_factor → price ≤ most_price → energy * factor * price ≤ most_energy * most_factor * most_price
product_le energy factor price he hf hp =
    mul-le (energy * factor) price (most_energy * most_factor) most_price (mul-le energy factor most_energy most_factor he hf) hp

-- the cost amount before rounding
pub cost_product_le : (energy cost : ℕ) → energy ≤ most_energy → cost ≤ most_price → energy * cost ≤ most_energy * most_price
cost_product_le energy cost he hc = mul-le energy cost most_energy most_price he hc

-- an amount
pub amount_of_le : (energy factor price : ℕ) → energy ≤ most_energy → factor ≤ most_factor → price ≤ most_price → amount_of energy factor price ≤ most_amount
amount_of_le energy factor price he hf hp =
    rounded_le (energy * factor * price) (most_energy * most_factor * most_price) amount_units (lit< tt) (product_le energy factor price he hf hp)

-- a cost amount
pub cost_amount_of_le : (energy cost : ℕ) → energy ≤ most_energy → cost ≤ most_price → cost_amount_of energy cost ≤ most_cost_amount
cost_amount_of_le energy cost he hc =
    rounded_le (energy * cost) (most_energy * most_price) cost_units (lit< tt) (cost_product_le energy cost he hc)

-- an excess, which is at most the cost amount
pub excess_of_le : (price gross injected factor cost : ℕ) → gross ≤ most_energy → cost ≤ most_price → excess_of price gross injected factor cost ≤ most_cost_amount
excess_of_le price gross injected factor cost hg hc = stands (ltb cost price)
  where
    stands : (cheap : Bool) → cond cheap 0 (cost_amount_of gross cost - amount_of injected factor price) ≤ most_cost_amount
    stands true = omega arith
    stands false = omega (arith, cost_amount_of_le gross cost hg hc)
