-- What an hour gives all agents together: it comes out even. Assumes nothing.
use Rattle.std.proofs.Common.{◌≡◌, ℕ, ◌+◌, ◌<◌, ◌≤◌, Bool, true, false, cond, ◌&&◌, eqb, ltb, leb, List, length, pos, neg_ℤ, Some, sum, Option, sym, refl, ◌∙◌, subst, inl, inr, eq-zero-or-pos, arith}
use Rattle.std.{specs.List.list_all, proofs.lemmas.List.FromFn.length-map-range_with_len, proofs.lemmas.Int.ints, proofs.lemmas.Bool.false≢true, proofs.lemmas.Bool.and_parts, proofs.lemmas.Bool.leb-true, proofs.lemmas.Bool.Decides.nat_tests}
use Rattle.valuation.{specs.Sharing.part_of, proofs.Sharing.sum-parts_of, proofs.Sharing.part_of_no_points}
use Rattle.settlement.{specs.declared.agents.Agent.Agent, specs.declared.lines.Class.Class, specs.declared.lines.Class.TheVariants.Obligated, specs.declared.lines.Class.TheVariants.Forced, specs.declared.lines.Line.Line, specs.Agents.role_at, specs.Hour.injected_amount, specs.Hour.withdrawn_amount, specs.Hour.market_line, specs.Hour.excess_in, specs.Hour.excess_on, specs.Hour.is_obligated, specs.Hour.is_forced, specs.Hour.obligated_on, specs.Hour.obligated_sum, specs.Hour.caused_on, specs.Hour.caused_sum, specs.Hour.weight_at, specs.Hour.weights_of, specs.Hour.carried_by, specs.Hour.overcost_line, specs.Hour.residue_of, specs.Lines.class_of, specs.Lines.must_run, specs.Lines.class_kept, specs.Posting.Posting, specs.Posting.line_at, specs.PostingFaults.kept_at, specs.PostingFaults.uncarried, specs.ContractFaults.place_fits, specs.Legs.hour_of, specs.Setting.Setting, specs.Setting.count_in, proofs.Checked.Checked, proofs.ContractLines.once, proofs.ContractLines.contract_lines_together}
use Rattle.forms.specs.{declared.roles.Role.Role, Meaning.Keeps}
use Rattle.tally.{specs.declared.money.MoneyLine.TheVariants.Market, specs.declared.money.MoneyLine.TheVariants.Contract, specs.declared.money.MoneyLine.TheVariants.Overcost, specs.declared.money.MoneyLine.TheVariants.Power, specs.Lines.Lines, specs.Lines.no_lines, specs.Sums.sum_to, specs.Sums.sum_to_ℤ, specs.Sums.lines_over, proofs.Lines.line_on-over, proofs.Numbers.nat_lawful, proofs.Numbers.sum_to_same, proofs.Numbers.sum_to_const_zero, proofs.Numbers.sum_to_zero, proofs.Numbers.sum_to_add, proofs.Numbers.sum_to_swap, proofs.Numbers.sum_to_ℤ_const_zero, proofs.Numbers.sum_to_ℤ_less, proofs.Numbers.sum_counting}

-- ---- the excess of a line

-- the excess of a line if it is forced
abbrev forced_on : ℕ → Line → ℕ
forced_on price l = cond (is_forced (class_of l.class)) (excess_on price l) 0

-- every excess is obligated or forced
excess_split : (price : ℕ) (l : Line) (class : Option Class) →
    excess_in price l class ≡ cond (is_obligated class) (excess_in price l class) 0 + cond (is_forced class) (excess_in price l class) 0
excess_split price l (Some Obligated) = omega arith
excess_split price l _ = omega arith

-- the cause of a forced line is an agent of the book, and has a line
cause_in : (count n : ℕ) → n ≡ count → (role : Option Role) (l : Line) (class : Option Class) → class_kept count role l class ≡ true → is_forced class ≡ true → (1 ≤ l.cause) × (l.cause ≤ n)
cause_in count n long role l (Some Forced) kept forced =
    let tests = and_parts (leb 1 l.cause) (leb l.cause count) (and_parts (must_run role l) _ kept).1 in
    (leb-true 1 l.cause tests.0, omega (arith, leb-true l.cause count tests.1))
cause_in count n long role l _ kept forced = absurd (false≢true forced)

-- one agent, and no other, caused a forced line
caused_once : (n cause excess : ℕ) (forced : Bool) → (forced ≡ true → (1 ≤ cause) × (cause ≤ n)) →
    sum_to n (λ i. cond (forced && eqb cause (i + 1)) excess 0) ≡ cond forced excess 0
caused_once n cause excess false within = sum_to_const_zero n
caused_once n cause excess true within = once nat_lawful n cause excess (within refl).0 (within refl).1

-- the parts of what can be carried add up
pub parts_together : (points : ℕ) (weights : List ℕ) → (ltb 0 points && eqb (sum weights) 0) ≡ false → sum_to (length weights) (part_of points weights) ≡ points
parts_together points weights carried = elim (eq-zero-or-pos (sum weights)) [
  | inl none ↦
      let empty : points ≡ 0 = grind (arith, nat_tests) in
      sum_to_zero (length weights) (part_of points weights) (λ i below. rw empty (part_of_no_points weights i)) ∙ sym empty
  | inr some ↦ sym (sum_counting (part_of points weights) (length weights)) ∙ sum-parts_of points weights some
]

-- ---- an hour

module _ (agents : List Agent) (p : Posting) (long : length p.lines ≡ length agents) (kept : (j : ℕ) → j < length p.lines → kept_at agents p.lines j ≡ true) (carried : uncarried agents p ≡ false) where
  -- all that was caused is the forced excess
  caused_together : sum_to (length p.lines) (caused_sum p) ≡ sum_to (length p.lines) (λ j. forced_on p.price (line_at p.lines j))
  caused_together =
      sum_to_swap (length p.lines) (length p.lines) (λ i j. caused_on p.price i (line_at p.lines j))
      ∙ sum_to_same (length p.lines) _ _ (λ j below.
      caused_once (length p.lines) (line_at p.lines j).cause (excess_on p.price (line_at p.lines j)) (is_forced (class_of (line_at p.lines j).class))
      (cause_in (length agents) (length p.lines) long (role_at agents j) (line_at p.lines j) (class_of (line_at p.lines j).class) (kept j below)))

  -- all that is carried is the obligated excess
  carried_together : sum_to (length p.lines) (carried_by agents p) ≡ obligated_sum p
  carried_together = rw (length-map-range_with_len (weight_at agents p.lines) 0 (length p.lines)) at
      (parts_together (obligated_sum p) (weights_of agents p.lines) carried)

  -- all excess is caused or carried
  excess_together : sum_to (length p.lines) (λ i. excess_on p.price (line_at p.lines i)) ≡ sum_to (length p.lines) (λ i. caused_sum p i + carried_by agents p i)
  excess_together =
      let obligated = λ (j : ℕ). obligated_on p.price (line_at p.lines j) in
      let forced = λ (j : ℕ). forced_on p.price (line_at p.lines j) in
      let split = sum_to_same (length p.lines) (λ j. excess_on p.price (line_at p.lines j)) (λ j. obligated j + forced j)
      (λ j below. excess_split p.price (line_at p.lines j) (class_of (line_at p.lines j).class)) in
      omega (arith, caused_together, carried_together, sum_to_add (length p.lines) obligated forced, sum_to_add (length p.lines) (caused_sum p) (carried_by agents p))

  market_together : sum_to_ℤ (length p.lines) (λ i. market_line p.price (line_at p.lines i)) ≡ neg_ℤ (residue_of p)
  market_together =
      omega (arith, ints, sum_to_ℤ_less (length p.lines) (λ i. injected_amount p.price (line_at p.lines i)) (λ i. withdrawn_amount p.price (line_at p.lines i)))

  overcost_together : sum_to_ℤ (length p.lines) (overcost_line agents p) ≡ pos 0
  overcost_together =
      omega (arith, ints, excess_together, sum_to_ℤ_less (length p.lines) (λ i. excess_on p.price (line_at p.lines i)) (λ i. caused_sum p i + carried_by agents p i))

-- what comes of each agent's lines of an hour, all agents together: the market lines come to minus the residue, the others to nothing
pub record Even (setting : Setting) (p : Posting) : Type 0 where
  pub market : sum_to_ℤ (count_in setting) (λ i. (hour_of setting p i).lines.market) ≡ neg_ℤ (residue_of p)
  pub contract : sum_to_ℤ (count_in setting) (λ i. (hour_of setting p i).lines.contract) ≡ pos 0
  pub overcost : sum_to_ℤ (count_in setting) (λ i. (hour_of setting p i).lines.overcost) ≡ pos 0

-- an hour comes out even: a posting that no fault was met by, with contracts that may stand
pub even : (setting : Setting) (p : Posting) → Keeps setting.form → list_all (place_fits setting) setting.places ≡ true → Checked setting p → Even setting p
even setting p keeps fit checked = record {
  market = subst (λ n. sum_to_ℤ n (λ i. market_line p.price (line_at p.lines i)) ≡ neg_ℤ (residue_of p)) checked.long (market_together setting.agents p checked.long checked.kept checked.carried);
  contract = contract_lines_together setting keeps p checked.long checked.fits fit;
  overcost = subst (λ n. sum_to_ℤ n (overcost_line setting.agents p) ≡ pos 0) checked.long (overcost_together setting.agents p checked.long checked.kept checked.carried);
}

-- as lines
pub even_lines : (setting : Setting) (p : Posting) → Even setting p → lines_over 0 (count_in setting) (λ i. (hour_of setting p i).lines) ≡ record no_lines { market = neg_ℤ (residue_of p) }
even_lines setting p even i =
    let lines : ℕ → Lines = λ k. (hour_of setting p k).lines in
    record {
      market = (line_on-over Market 0 (count_in setting) lines ∙ even.market) i;
      contract = (line_on-over Contract 0 (count_in setting) lines ∙ even.contract) i;
      overcost = (line_on-over Overcost 0 (count_in setting) lines ∙ even.overcost) i;
      power = (line_on-over Power 0 (count_in setting) lines ∙ sum_to_ℤ_const_zero (count_in setting)) i;
    }
