-- Nothing that is worked from what stands is too large for memory. Assumes nothing.
use Rattle.std.proofs.Common.{◌≡◌, ℕ, ◌<◌, ◌≤◌, nat_abs, Some, None, Option, refl, subst, arith, w64, SFits}
use Rattle.std.proofs.lemmas.Int.{ints}
use Rattle.tally.specs.{declared.money.MoneyLine.TheVariants.Market, declared.money.MoneyLine.TheVariants.Contract as Contracted, declared.money.MoneyLine.TheVariants.Overcost, declared.money.MoneyLine.TheVariants.Power, Lines.LinesFit, Lines.LinesWithin, Sums.sum_to}
use Rattle.tally.proofs.{Numbers.fits_abs, Numbers.nat_lawful, Numbers.nat_sum_over_le, Sums.total_over_none, Sums.total_over_swapped, Lines.lines_fit, Lines.balance_of_within}
use Rattle.valuation.specs.Limits.{most_energy}
use Rattle.forms.specs.Meaning.{Meaning, Keeps}
use Rattle.settlement.specs.{Posting.line_at, Posting.Posting, Limits.most_month_energy, Setting.Setting}
use Rattle.law.specs.{Requests.Opening, Requests.count_in, Requests.hours_in, Standing.Standing, Standing.setting_in, Faults.withdrawn_in, Faults.withdrawn_of, Limits.most_line_of_an_hour, Limits.most_line_of_a_month, Limits.most_balance, Worked.figures_from, Worked.figures_at, Worked.agent_lines, Worked.agent_balance, Worked.injected_in, Worked.injected_of}
use Rattle.law.proofs.{Accepted.line_within_at, Accepted.at_standing, LineBounds.market_at_abs, LineBounds.overcost_at_abs, LineBounds.contract_at_abs, LineBounds.power_at_none, LineBounds.market_abs, LineBounds.overcost_abs, LineBounds.contract_abs, LineBounds.power_abs, Sound.Opened, Sound.Sound}

-- ---- the energies of an hour

-- they are the posting's own, whatever contracts stand
pub figures_energies : (setting : Setting) (i : ℕ) (q : Option Posting) →
    ((figures_from setting i q).injected ≡ injected_in i q) × ((figures_from setting i q).withdrawn ≡ withdrawn_in i q)
figures_energies setting i None = (refl, refl)
figures_energies setting i (Some p) = (refl, refl)

-- ---- what stands

module _ (form : Meaning) (keeps : Keeps form) (o : Opening) (opened : Opened o) (s : Standing) (sound : Sound form o s) where
  -- what an agent injected and withdrew in an hour
  pub energies_le : (i hour : ℕ) → i < count_in o → hour < hours_in o → (injected_in i (s.posted hour) ≤ most_energy) × (withdrawn_in i (s.posted hour) ≤ most_energy)
  energies_le i hour below within =
      at_standing form o opened s sound (λ h q. (injected_in i q ≤ most_energy) × (withdrawn_in i q ≤ most_energy)) (λ h. (omega arith, omega arith))
      (λ p sane. let w = line_within_at (setting_in form o s) p sane i below in (w.injected, w.withdrawn)) hour within

  -- what all withdrew in an hour
  together_le : (hour : ℕ) → hour < hours_in o → sum_to (count_in o) (λ i. withdrawn_in i (s.posted hour)) ≤ most_energy
  together_le =
      at_standing form o opened s sound (λ h q. sum_to (count_in o) (λ i. withdrawn_in i q) ≤ most_energy)
      (λ h. omega (arith, total_over_none nat_lawful 0 (count_in o) (λ i. 0) (λ i low below. refl)))
      (λ p sane. subst (λ n. sum_to n (λ i. (line_at p.lines i).withdrawn) ≤ most_energy) sane.long sane.fits.withdrawn_within)

  -- ---- the energies of the month

  -- what an agent injected
  pub injected_of_le : (i : ℕ) → i < count_in o → injected_of o s i ≤ most_month_energy
  injected_of_le i below =
      let each = nat_sum_over_le 0 (hours_in o) (λ hour. injected_in i (s.posted hour)) most_energy (λ hour low within. (energies_le i hour below (omega arith)).0) in
      omega (arith, opened.few_days)

  -- what an agent withdrew
  pub withdrawn_of_le : (i : ℕ) → i < count_in o → withdrawn_of o s i ≤ most_month_energy
  withdrawn_of_le i below =
      let each = nat_sum_over_le 0 (hours_in o) (λ hour. withdrawn_in i (s.posted hour)) most_energy (λ hour low within. (energies_le i hour below (omega arith)).1) in
      omega (arith, opened.few_days)

  -- what all withdrew
  pub all_withdrawn_le : sum_to (count_in o) (withdrawn_of o s) ≤ most_month_energy
  all_withdrawn_le =
      let swapped = total_over_swapped nat_lawful 0 (count_in o) 0 (hours_in o) (λ i hour. withdrawn_in i (s.posted hour)) in
      let each = nat_sum_over_le 0 (hours_in o) (λ hour. sum_to (count_in o) (λ i. withdrawn_in i (s.posted hour))) most_energy (λ hour low within. together_le hour (omega arith)) in
      omega (arith, opened.few_days)

  -- ---- the lines

  -- each line of an hour
  pub hour_within : (i hour : ℕ) → i < count_in o → hour < hours_in o → LinesWithin most_line_of_an_hour (figures_at form o s i hour).lines
  hour_within i hour below within Market = omega (arith, market_at_abs form o opened s sound i hour below within)
  hour_within i hour below within Contracted = contract_at_abs form o opened s sound keeps i hour within
  hour_within i hour below within Overcost = omega (arith, overcost_at_abs form o opened s sound i hour below within)
  hour_within i hour below within Power = omega (arith, ints, power_at_none form o opened s sound i hour)

  -- so each line of a month
  pub lines_within : (i : ℕ) → i < count_in o → LinesWithin most_line_of_a_month (agent_lines form o s i)
  lines_within i below Market = omega (arith, market_abs form o opened s sound i below)
  lines_within i below Contracted = contract_abs form o opened s sound keeps i
  lines_within i below Overcost = omega (arith, overcost_abs form o opened s sound i below)
  lines_within i below Power = omega (arith, power_abs form o opened s sound i below)

  -- and the balance
  pub balance_abs : (i : ℕ) → i < count_in o → nat_abs (agent_balance form o s i) ≤ most_balance
  balance_abs i below = balance_of_within most_line_of_a_month (agent_lines form o s i) (lines_within i below)

  -- they fit 64 bits: each line
  pub agent_lines_fit : (i : ℕ) → i < count_in o → LinesFit (agent_lines form o s i)
  agent_lines_fit i below = lines_fit most_line_of_a_month (agent_lines form o s i) (lines_within i below) (omega arith)

  -- and the balance
  pub agent_balance_fits : (i : ℕ) → i < count_in o → SFits w64 (agent_balance form o s i)
  agent_balance_fits i below = fits_abs (agent_balance form o s i) (omega (arith, balance_abs i below))
