-- What a posting's own lines give each agent at its hour. Agents and lines are counted from 0. Assumes nothing.
use Rattle.std.specs.Prelude.{ℕ, ◌+◌, Bool, true, false, if◌then◌else◌, ◌&&◌, List, map, length, ℤ, pos, ◌-ℤ◌, Some, None, Option, ◌==◌}
use Rattle.std.specs.List.{range_with_len}
use Rattle.valuation.specs.{Amounts.amount_of, Excess.excess_of, Sharing.part_of}
use Rattle.tally.specs.{Lines.Lines, Lines.no_lines, Sums.sum_to}
use Rattle.forms.specs.Roles.{carries}
use Rattle.settlement.specs.{declared.agents.Agent.Agent, declared.lines.Class.Class, declared.lines.Class.TheVariants.Normal, declared.lines.Class.TheVariants.Obligated, declared.lines.Class.TheVariants.Forced, declared.lines.Line.Line, Agents.agent_at, Agents.counted, Lines.class_of, Posting.Posting, Posting.line_at}

-- what the injected energy of a line is worth, at its node and the hour's price
abbrev pub injected_amount : (price : ℕ) → Line → ℕ
injected_amount price l = amount_of l.injected l.factor price

-- what the withdrawn energy of a line is worth
abbrev pub withdrawn_amount : (price : ℕ) → Line → ℕ
withdrawn_amount price l = amount_of l.withdrawn l.factor price

-- the market line: the amount of injected less that of withdrawn
abbrev pub market_line : (price : ℕ) → Line → ℤ
market_line price l = pos (injected_amount price l) -ℤ pos (withdrawn_amount price l)

-- the excess of a line that had to run: none in class 1
abbrev pub excess_in : (price : ℕ) → Line → Option Class → ℕ
excess_in price l None = 0
excess_in price l (Some Normal) = 0
excess_in price l (Some _) = excess_of price l.gross l.injected l.factor l.cost

abbrev pub excess_on : (price : ℕ) → Line → ℕ
excess_on price l = excess_in price l (class_of l.class)

-- whether a line is obligated
abbrev pub is_obligated : Option Class → Bool
is_obligated (Some Obligated) = true
is_obligated _ = false

-- whether a line is forced
abbrev pub is_forced : Option Class → Bool
is_forced (Some Forced) = true
is_forced _ = false

-- the excess of a line if it is obligated
abbrev pub obligated_on : (price : ℕ) → Line → ℕ
obligated_on price l = if is_obligated (class_of l.class) then excess_on price l else 0

-- the excess of a line if it is forced, and the agent at place i is its cause
abbrev pub caused_on : (price i : ℕ) → Line → ℕ
caused_on price i l = if is_forced (class_of l.class) && l.cause == i + 1 then excess_on price l else 0

-- the hour's obligated excess, all lines together
abbrev pub obligated_sum : Posting → ℕ
obligated_sum p = sum_to (length p.lines) (λ j. obligated_on p.price (line_at p.lines j))

-- the forced excess that the agent at place i caused
abbrev pub caused_sum : Posting → ℕ → ℕ
caused_sum p i = sum_to (length p.lines) (λ j. caused_on p.price i (line_at p.lines j))

-- what the pool pays is carried over withdrawn energy, by agents in roles that carry
abbrev pub weight_at : List Agent → List Line → ℕ → ℕ
weight_at agents lines i = counted carries (agent_at agents i).role (line_at lines i).withdrawn

-- the weights of so many agents, each at its place
abbrev pub weights_in : ℕ → (ℕ → ℕ) → List ℕ
weights_in count weight = map weight (range_with_len 0 count)

-- the weights of an hour, one for each line
abbrev pub weights_of : List Agent → List Line → List ℕ
weights_of agents lines = weights_in (length lines) (weight_at agents lines)

-- the part of the hour's obligated excess that the agent at place i carries
abbrev pub carried_by : List Agent → Posting → ℕ → ℕ
carried_by agents p i = part_of (obligated_sum p) (weights_of agents p.lines) i

-- the overcost line: the agent's own excess, less what it caused, less what it carries
abbrev pub overcost_line : List Agent → Posting → ℕ → ℤ
overcost_line agents p i =
    pos (excess_on p.price (line_at p.lines i)) -ℤ pos (caused_sum p i + carried_by agents p i)

-- an agent's figures of an hour, as whole numbers
pub record Figures : Type 0 where
  pub lines : Lines
  pub injected : ℕ
  pub withdrawn : ℕ

-- the figures of an hour at which nothing stands
abbrev pub no_figures : Figures
no_figures = record { lines = no_lines; injected = 0; withdrawn = 0 }

-- what a line gives its agent, with its legs of contracts and the excess that it caused and carries
abbrev pub figures_with : (price : ℕ) → Line → (contract : ℤ) → (caused carried : ℕ) → Figures
figures_with price l contract caused carried = record {
  lines = record no_lines {
    market = market_line price l;
    contract = contract;
    overcost = pos (excess_on price l) -ℤ pos (caused + carried);
  };
  injected = l.injected;
  withdrawn = l.withdrawn;
}

-- what a posting's own lines give the agent at place i, contracts aside
abbrev pub own_of : List Agent → Posting → ℕ → Figures
own_of agents p i = figures_with p.price (line_at p.lines i) (pos 0) (caused_sum p i) (carried_by agents p i)

-- the residue of an hour: what all withdrawn energy is worth less what all injected energy is
abbrev pub residue_of : Posting → ℤ
residue_of p =
    pos (sum_to (length p.lines) (λ i. withdrawn_amount p.price (line_at p.lines i)))
    -ℤ pos (sum_to (length p.lines) (λ i. injected_amount p.price (line_at p.lines i)))
