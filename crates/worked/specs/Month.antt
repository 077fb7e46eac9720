-- A month of which one hour is posted, small enough to be worked by hand. Assumes nothing.
use Rattle.std.specs.Prelude.{ℕ, List, [], ◌∷◌, ℤ}
use Rattle.forms.specs.{declared.Contract.Contract, declared.Delivery.TheVariants.MarketBar, Layers.product_meaning}
use Rattle.settlement.specs.{declared.agents.Agent.Agent, declared.lines.Line.Line, Posting.Posting}
use Rattle.law.specs.{Requests.Opening, Requests.Request, Requests.posting, Requests.entering, Standing.Standing, Turns.after, Worked.agent_balance, Worked.residue_after}

-- a generator with a capacity of 4,000 kWh in an hour
abbrev pub generator_agent : Agent
generator_agent = record { role = 1; capacity = 4000; power = 0 }

-- a distributor
abbrev pub distributor_agent : Agent
distributor_agent = record { role = 2; capacity = 0; power = 0 }

-- the two in a month of one day, a Monday
abbrev pub month_opening : Opening
month_opening = record {
  agents = generator_agent ∷ distributor_agent ∷ [];
  days = 1;
  calendar = record { weekday = 0 };
}

-- the generator sells the distributor a block of 100 kWh in every hour of the day, at the market bar and 50,000 micro-dollars per kWh
abbrev pub block_sold : Contract
block_sold = record {
  delivery = MarketBar;
  kind = 1;
  seller = 1;
  buyer = 2;
  first = 0;
  last = 23;
  price = 50000;
  peak = 100;
  medium = 100;
  base = 100;
  margin = 0;
}

-- the generator injects 1,000 kWh, at a node factor of 95,000
abbrev pub line_injected : Line
line_injected = record { class = 1; cause = 0; injected = 1000; withdrawn = 0; gross = 0; factor = 95000; cost = 0 }

-- the distributor withdraws 970 kWh, at a node factor of 102,000
abbrev pub line_withdrawn : Line
line_withdrawn = record { class = 1; cause = 0; injected = 0; withdrawn = 970; gross = 0; factor = 102000; cost = 0 }

-- both in the hour that begins at 8, at 60,000 micro-dollars per kWh
abbrev pub hour_posted : Posting
hour_posted = record { hour = 8; price = 60000; lines = line_injected ∷ line_withdrawn ∷ [] }

-- a host enters the contract under number 1, and posts that hour
abbrev pub month_requests : List Request
month_requests = entering 1 block_sold ∷ posting hour_posted ∷ []

-- what then stands in the month, which stays open
abbrev pub month_standing : Standing
month_standing = after product_meaning month_opening month_requests

-- an agent's balance, counted from 0
abbrev pub month_balance : ℕ → ℤ
month_balance = agent_balance product_meaning month_opening month_standing

-- the residue of the month
abbrev pub month_residue : ℤ
month_residue = residue_after month_opening month_standing
