-- The faults of a posting's own figures, against the agents and the length of the month. Assumes nothing.
use Rattle.std.specs.Prelude.{◌≡◌, ℕ, ◌+◌, ◌<◌, ◌≤◌, Bool, true, not, ◌&&◌, ◌||◌, List, [], ◌∷◌, length, sum, Option, ◌==◌, nat_le, nat_lt}
use Rattle.std.specs.Option.{option_map}
use Rattle.tally.specs.{Failing.first_failing, Sums.sum_to}
use Rattle.forms.specs.Limits.{most_agents}
use Rattle.valuation.specs.Limits.{most_energy, most_price}
use Rattle.settlement.specs.{declared.agents.Agent.Agent, declared.faults.BookFault.BookFault, declared.faults.BookFault.TheVariants.NoCarrier, declared.faults.LineFault.LineFault, declared.faults.LineFault.TheVariants.HourOutside, declared.faults.LineFault.TheVariants.OutsideLimit, declared.faults.LineFault.TheVariants.BreaksRule, declared.faults.LineFault.TheVariants.TooMuchTogether, declared.lines.Line.Line, Agents.role_at, Faults.met_if, Faults.first_met, Faults.of_posting, Hour.obligated_sum, Hour.weights_of, Lines.line_within, Lines.line_kept, Posting.Posting, Posting.line_at, Setting.Setting, Setting.hours_in, Setting.count_in}

-- 4: the hour lies outside a month of so many hours
abbrev pub hour_fault : (hours hour : ℕ) → Option LineFault
hour_fault hours hour = met_if (nat_le hours hour) (HourOutside hour)

-- 5 at place 0: another number of lines than agents, or a price above its limit
abbrev pub head_fault : (count : ℕ) → Posting → Option LineFault
head_fault count p = met_if (not (length p.lines == count) || nat_lt most_price p.price) (OutsideLimit 0)

-- the line at a place has its figures within their limits
abbrev pub within_at : List Line → ℕ → Bool
within_at lines i = line_within (line_at lines i)

-- 5: the first line, from 1, with a figure outside its limit
abbrev pub limit_fault : List Line → Option LineFault
limit_fault lines = option_map (λ i. OutsideLimit (i + 1)) (first_failing (within_at lines) 0 (length lines))

-- the line at a place keeps the rule of its class
abbrev pub kept_at : List Agent → List Line → ℕ → Bool
kept_at agents lines i = line_kept (length agents) (role_at agents i) (line_at lines i)

-- 6: the first line, from 1, that breaks the rule of its class
abbrev pub rule_fault : List Agent → List Line → Option LineFault
rule_fault agents lines =
    option_map (λ i. BreaksRule (i + 1)) (first_failing (kept_at agents lines) 0 (length lines))

-- all injected and all withdrawn energy of the hour
abbrev pub injected_together : List Line → ℕ
injected_together lines = sum_to (length lines) (λ i. (line_at lines i).injected)

abbrev pub withdrawn_together : List Line → ℕ
withdrawn_together lines = sum_to (length lines) (λ i. (line_at lines i).withdrawn)

-- 7: all injected or all withdrawn energy is above the limit of an hour
abbrev pub together_fault : List Line → Option LineFault
together_fault lines =
    let is_more : ℕ → Bool = nat_lt most_energy in
    met_if (is_more (injected_together lines) || is_more (withdrawn_together lines)) TooMuchTogether

-- the faults of a posting's own figures, in the order of the numbers, and the first of them
abbrev pub line_faults : Setting → Posting → List (Option LineFault)
line_faults setting p =
    hour_fault (hours_in setting) p.hour ∷ head_fault (count_in setting) p ∷ limit_fault p.lines
    ∷ rule_fault setting.agents p.lines ∷ together_fault p.lines ∷ []

abbrev pub line_fault : Setting → Posting → Option LineFault
line_fault setting p = first_met (line_faults setting p)

-- 8: there is obligated excess, and no weight carries it
abbrev pub uncarried : List Agent → Posting → Bool
uncarried agents p = nat_lt 0 (obligated_sum p) && sum (weights_of agents p.lines) == 0

-- the faults of a posting: its own, and then that nothing carries its excess
abbrev pub posting_faults : Setting → Posting → List (Option BookFault)
posting_faults setting p =
    of_posting (line_fault setting p) ∷ met_if (uncarried setting.agents p) NoCarrier ∷ []

abbrev pub posting_fault : Setting → Posting → Option BookFault
posting_fault setting p = first_met (posting_faults setting p)

-- the figures of a posting that faults 5 to 7 let pass, as far as valuing asks: few lines, a price and lines within their limits, and
-- so all withdrawn energy together
pub record PostingFits (p : Posting) : Type 0 where
  pub few_lines : length p.lines ≤ most_agents
  pub price_within : p.price ≤ most_price
  pub each_within : (i : ℕ) → i < length p.lines → line_within (line_at p.lines i) ≡ true
  pub withdrawn_within : withdrawn_together p.lines ≤ most_energy
