-- The limits of a book's numbers and of legs. Assumes nothing.
use Rattle.std.specs.Prelude.{ℕ, ◌+◌}
use Rattle.valuation.specs.Limits.{most_amount, most_cost_amount}

-- The most agents of a book, and the most contracts.
abbrev pub most_agents : ℕ
most_agents = 64

abbrev pub most_contracts : ℕ
most_contracts = 64

-- The most points of a leg: the largest amount and the largest cost amount together.
abbrev pub most_leg : ℕ
most_leg = most_amount + most_cost_amount
