-- All balances together are minus the residue of the standing hours. Assumes nothing.
use Rattle.std.proofs.Common.{◌≡◌, ℕ, ◌+◌, ◌<◌, ◌≤◌, ℤ, pos, ◌+ℤ◌, neg_ℤ, sym, refl, ap, ◌∙◌, arith}
use Rattle.std.proofs.lemmas.Int.{ints}
use Rattle.tally.specs.{declared.money.MoneyLine.MoneyLine, declared.money.MoneyLine.TheVariants.Market, declared.money.MoneyLine.TheVariants.Power, Lines.no_lines, Lines.lines_joined, Lines.alone, Lines.balance_of, Sums.int_sum_over, Sums.lines_over, Sums.sum_to_ℤ, LinesLaws.lines_lawful}
use Rattle.tally.proofs.{Sums.total_over_same, Sums.total_over_map, Sums.total_over_none, Sums.total_over_joined, Sums.total_over_swapped, Lines.balance_of-over, Lines.alone-none, Lines.alone-joined, Numbers.int_sum_over_neg, Numbers.int_lawful}
use Rattle.forms.specs.Meaning.{Meaning, Keeps}
use Rattle.settlement.specs.{declared.states.State.State, declared.states.State.TheVariants.Open, declared.states.State.TheVariants.Closed, Power.power_line}
use Rattle.settlement.proofs.{FaultTables.unmet, FaultTables.first_met_none, Even.even, Even.even_lines}
use Rattle.law.specs.{Requests.Opening, Requests.count_in, Requests.hours_in, Standing.Standing, Standing.setting_in, Faults.withdrawn_of, Faults.closing_faults, Worked.figures_from, Worked.figures_at, Worked.lines_between, Worked.power_in, Worked.power_of, Worked.agent_lines, Worked.balances_after, Worked.residue_from, Worked.residue_between, Worked.residue_after}
use Rattle.law.proofs.{Accepted.at_standing, Power.power_together, Sound.Opened, Sound.Sound}

-- ---- sums of lines

-- what stands on one line alone adds up on it alone
alone_over : (line : MoneyLine) (start n : ℕ) (f : ℕ → ℤ) → lines_over start n (λ k. alone line (f k)) ≡ alone line (int_sum_over start n f)
alone_over line start n f =
    sym (total_over_map (pos 0) ◌+ℤ◌ no_lines lines_joined (alone line) (alone-none line) (λ x y. sym (alone-joined line x y)) start n f)

-- ---- what stands

module _ (form : Meaning) (keeps : Keeps form) (o : Opening) (opened : Opened o) (s : Standing) (sound : Sound form o s) where
  -- a closed month could be closed, and so something carries the power that is due: all power lines come to nothing, also
  -- while the month is open, when each is 0
  powers_together : sum_to_ℤ (count_in o) (power_of o s) ≡ pos 0
  powers_together = by s.state refl
    where
      by : (state : State) → s.state ≡ state → sum_to_ℤ (count_in o) (λ i. power_in state (power_line o.agents (withdrawn_of o s) i)) ≡ pos 0
      by Open is = total_over_none int_lawful 0 (count_in o) (λ i. pos 0) (λ i low below. refl)
      by Closed is = power_together o.agents (withdrawn_of o s) (unmet _ _ (sym (first_met_none (closing_faults o s) (sound.closable is)).1.0))

  -- what an hour gives all agents together
  hour_together : (hour : ℕ) → hour < hours_in o → lines_over 0 (count_in o) (λ i. (figures_at form o s i hour).lines) ≡ alone Market (neg_ℤ (residue_from (s.posted hour)))
  hour_together =
      at_standing form o opened s sound (λ hour q. lines_over 0 (count_in o) (λ i. (figures_from (setting_in form o s) i q).lines) ≡ alone Market (neg_ℤ (residue_from q)))
      (λ hour. total_over_none lines_lawful 0 (count_in o) (λ i. no_lines) (λ i low below. refl))
      (λ p sane. even_lines (setting_in form o s) p (even (setting_in form o s) p keeps sound.contracts sane))

  -- what a range of hours does
  pub between_together : (start n : ℕ) → start + n ≤ hours_in o → lines_over 0 (count_in o) (lines_between form o s start n) ≡ alone Market (neg_ℤ (residue_between s start n))
  between_together start n within =
      total_over_swapped lines_lawful 0 (count_in o) start n (λ i hour. (figures_at form o s i hour).lines)
      ∙ total_over_same lines_lawful start n (λ hour. lines_over 0 (count_in o) (λ i. (figures_at form o s i hour).lines)) (λ hour. alone Market (neg_ℤ (residue_from (s.posted hour))))
      (λ hour low below. hour_together hour (omega arith))
      ∙ alone_over Market start n (λ hour. neg_ℤ (residue_from (s.posted hour)))
      ∙ ap (alone Market) (int_sum_over_neg start n (λ hour. residue_from (s.posted hour)))

  -- and the month, with power
  month_together : lines_over 0 (count_in o) (agent_lines form o s) ≡ lines_joined (alone Market (neg_ℤ (residue_after o s))) (alone Power (pos 0))
  month_together =
      total_over_joined lines_lawful 0 (count_in o) (lines_between form o s 0 (hours_in o)) (λ i. alone Power (power_of o s i))
      ∙ (λ t. lines_joined (between_together 0 (hours_in o) (omega arith) t) ((alone_over Power 0 (count_in o) (power_of o s) ∙ ap (alone Power) powers_together) t))

  -- all balances together
  pub balanced : balances_after form o s ≡ neg_ℤ (residue_after o s)
  balanced = sym (balance_of-over 0 (count_in o) (agent_lines form o s)) ∙ ap balance_of month_together ∙ omega (arith, ints)
