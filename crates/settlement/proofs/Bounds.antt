-- How large the excess of an hour is at most. Assumes nothing.
use Rattle.std.proofs.Common.{◌≡◌, ℕ, ◌+◌, ◌<◌, ◌≤◌, Bool, true, false, cond, ◌&&◌, eqb, List, length, get_or, Some, None, Option, ap, ◌∙◌, arith}
use Rattle.std.proofs.lemmas.{List.FromFn.length-map-range_with_len, List.get_or_default, Bool.Decides.nat_tests}
use Rattle.valuation.{specs.Limits.most_energy, specs.Limits.most_price, specs.Limits.least_factor, specs.Limits.most_factor, specs.Limits.most_cost_amount, proofs.Amounts.excess_of_le, proofs.Sharing.part_of_le}
use Rattle.settlement.specs.{declared.agents.Agent.Agent, declared.lines.Class.Class, declared.lines.Class.TheVariants.Normal, declared.lines.Line.Line, Hour.excess_in, Hour.excess_on, Hour.is_obligated, Hour.is_forced, Hour.obligated_on, Hour.obligated_sum, Hour.caused_on, Hour.caused_sum, Hour.weight_at, Hour.weights_of, Hour.carried_by, Limits.most_excess, Lines.class_of, Lines.line_within, Lines.no_line, Posting.Posting, Posting.line_at, PostingFaults.PostingFits}
use Rattle.tally.proofs.Numbers.{sum_to_le}

-- the figures of a line are within their limits
pub record Within (l : Line) : Type 0 where
  pub injected : l.injected ≤ most_energy
  pub withdrawn : l.withdrawn ≤ most_energy
  pub gross : l.gross ≤ most_energy
  pub least_factor : least_factor ≤ l.factor
  pub most_factor : l.factor ≤ most_factor
  pub cost : l.cost ≤ most_price

pub within_limits : (l : Line) → line_within l ≡ true → Within l
within_limits l held =
    record {
      injected = grind (arith, nat_tests);
      withdrawn = grind (arith, nat_tests);
      gross = grind (arith, nat_tests);
      least_factor = grind (arith, nat_tests);
      most_factor = grind (arith, nat_tests);
      cost = grind (arith, nat_tests);
    }

module _ (price : ℕ) (l : Line) (within : Within l) where
  excess_in_le : (class : Option Class) → excess_in price l class ≤ most_cost_amount
  excess_in_le None = omega arith
  excess_in_le (Some Normal) = omega arith
  excess_in_le (Some _) = excess_of_le price l.gross l.injected l.factor l.cost within.gross within.cost

  pub excess_le : excess_on price l ≤ most_cost_amount
  excess_le = excess_in_le (class_of l.class)

  -- what is only counted where a test holds is at most as much
  if_excess_le : (test : Bool) → cond test (excess_on price l) 0 ≤ most_cost_amount
  if_excess_le test = grind (arith, nat_tests, excess_le)

module _ (p : Posting) (fits : PostingFits p) where
  -- the line that an iterator hands out
  pub item_within : (j : ℕ) (l : Line) → j < length p.lines → l ≡ get_or p.lines j l → line_within l ≡ true
  item_within j l below is = ap line_within (is ∙ get_or_default p.lines j l no_line below) ∙ fits.each_within j below

  line_within_lem : (j : ℕ) → j < length p.lines → Within (line_at p.lines j)
  line_within_lem j below = within_limits (line_at p.lines j) (fits.each_within j below)

  pub obligated_le : obligated_sum p ≤ most_excess
  obligated_le =
      let each = sum_to_le (length p.lines) (λ j. obligated_on p.price (line_at p.lines j)) most_cost_amount
      (λ j below. if_excess_le p.price (line_at p.lines j) (line_within_lem j below) (is_obligated (class_of (line_at p.lines j).class))) in
      omega (arith, fits.few_lines)

  pub caused_le : (i : ℕ) → caused_sum p i ≤ most_excess
  caused_le i =
      let each = sum_to_le (length p.lines) (λ j. caused_on p.price i (line_at p.lines j)) most_cost_amount
      (λ j below. if_excess_le p.price (line_at p.lines j) (line_within_lem j below) (is_forced (class_of (line_at p.lines j).class) && eqb (line_at p.lines j).cause (i + 1))) in
      omega (arith, fits.few_lines)

  pub carried_le : (agents : List Agent) (i : ℕ) → i < length p.lines → carried_by agents p i ≤ most_excess
  carried_le agents i below =
      let long = length-map-range_with_len (weight_at agents p.lines) 0 (length p.lines) in
      omega (arith, obligated_le, part_of_le (obligated_sum p) (weights_of agents p.lines) i (omega arith))
