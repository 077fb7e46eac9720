-- What energy delivered under a contract is worth to its parties. Assumes nothing.
use Rattle.std.specs.Prelude.{ℕ, pos, ◌-ℤ◌}
use Rattle.forms.specs.declared.{Contract.Contract, Delivery.Delivery, Delivery.TheVariants.MarketBar, Delivery.TheVariants.SellerNode, Delivery.TheVariants.BuyerNode, Facts.Facts, Legs.Legs}
use Rattle.valuation.specs.Amounts.{amount_of, cost_amount_of}

-- The factor of the market bar, in hundred-thousandths.
abbrev pub bar_factor : ℕ
bar_factor = 100000

-- The factor at a place of delivery.
abbrev pub factor_at : Delivery → Facts → ℕ
factor_at MarketBar facts = bar_factor
factor_at SellerNode facts = facts.seller_factor
factor_at BuyerNode facts = facts.buyer_factor

-- The amount of the energy at the place's factor and the hour's price.
abbrev pub value_of : Contract → Facts → ℕ → ℕ
value_of terms facts quantity = amount_of quantity (factor_at terms.delivery facts) facts.price

-- Its cost amount at the contract's price.
abbrev pub cost_of : Contract → ℕ → ℕ
cost_of terms quantity = cost_amount_of quantity terms.price

-- The seller gets the cost and gives the value; the buyer the other way round.
abbrev pub market_legs : Contract → Facts → ℕ → Legs
market_legs terms facts quantity = record {
  seller = pos (cost_of terms quantity) -ℤ pos (value_of terms facts quantity);
  buyer = pos (value_of terms facts quantity) -ℤ pos (cost_of terms quantity);
}
