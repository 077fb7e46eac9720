-- What an account comes to when one hour is written anew, and when its power line is charged. Assumes nothing.
use Rattle.std.proofs.Common.{◌≡◌, ℕ, ◌+◌, ◌-◌, ◌%◌, ◌^◌, ◌<◌, eqb, ℤ, Option, sym, ap, ◌∙◌, arith}
use Rattle.std.proofs.lemmas.Bool.{cond-false, ne_eqb}
use Rattle.tally.specs.{declared.money.MoneyLine.TheVariants.Power, Energy.energy_of, Energy.no_energy, Energy.energy_joined, Energy.energy_undone, EnergyLaws.energy_same, EnergyLaws.energy_lawful, Lines.Lines, Lines.lines_joined, Lines.lines_undone, Lines.alone, LinesLaws.lines_lawful, LinesLaws.lines_cancel, Money.money_of, Money.money_joined, Money.money_undone, MoneyLaws.money_of_joined, MoneyLaws.money_of_undone, Sums.sum_to}
use Rattle.tally.proofs.{Lines.alone-none, Numbers.sum_to_change, PairLaws.pair_same, Sums.total_over_changed, Totals.right_identity}
use Rattle.forms.specs.Meaning.{Meaning}
use Rattle.settlement.specs.{declared.states.State.TheVariants.Open, Holdings.holding_joined, Holdings.entry_of, Holdings.power_points, Posting.Posting, Power.power_line}
use Rattle.book.specs.Rewriting.{account_with}
use Rattle.law.specs.{Faults.withdrawn_in, Faults.withdrawn_of, Requests.Opening, Requests.hours_in, Requests.closing, Standing.Standing, Standing.standing_with, Standing.setting_in, Turns.changed, Worked.figures_from, Worked.figures_at, Worked.lines_between, Worked.agent_lines, Worked.power_in, Worked.power_of, Worked.injected_in}
use Rattle.law.proofs.Bounds.{figures_energies}
use Rattle.runs.proofs.Holds.{account_of}

-- ---- lines

-- the last two of three, the other way round
swapped : (a b c : Lines) → lines_joined (lines_joined a b) c ≡ lines_joined (lines_joined a c) b
swapped a b c = lines_lawful.associative a b c ∙ ap (lines_joined a) (lines_lawful.commutative b c) ∙ sym (lines_lawful.associative a c b)

-- lines that lose some and gain others
lines_changed : (b b' x y : Lines) → lines_joined b' x ≡ lines_joined b y → lines_joined (lines_joined b (lines_undone x)) y ≡ b'
lines_changed b b' x y even =
    swapped b (lines_undone x) y
    ∙ ap (λ t. lines_joined t (lines_undone x)) (sym even)
    ∙ lines_lawful.associative b' x (lines_undone x)
    ∙ ap (lines_joined b') (lines_cancel x)
    ∙ right_identity lines_lawful b'

-- and so money
money_changed : (b b' x y : Lines) → lines_joined b' x ≡ lines_joined b y →
    money_joined (money_joined (money_of b) (money_undone (money_of x))) (money_of y) ≡ money_of b'
money_changed b b' x y even =
    ap (λ t. money_joined (money_joined (money_of b) t) (money_of y)) (money_of_undone x)
    ∙ ap (λ t. money_joined t (money_of y)) (money_of_joined b (lines_undone x))
    ∙ money_of_joined (lines_joined b (lines_undone x)) y
    ∙ ap money_of (lines_changed b b' x y even)

-- ---- energy

-- energy that loses some and gains other, number by number
one_changed : (a a' x x' : ℕ) → a' + x ≡ a + x' → ((a % 2 ^ 64 + (2 ^ 64 - x % 2 ^ 64) % 2 ^ 64) % 2 ^ 64 + x' % 2 ^ 64) % 2 ^ 64 ≡ a' % 2 ^ 64
one_changed a a' x x' even = omega arith

-- and both numbers
energy_changed : (a b a' b' x y x' y' : ℕ) → a' + x ≡ a + x' → b' + y ≡ b + y' →
    energy_joined (energy_joined (energy_of a b) (energy_undone (energy_of x y))) (energy_of x' y') ≡ energy_of a' b'
energy_changed a b a' b' x y x' y' p q = energy_same _ _ (one_changed a a' x x' p) (one_changed b b' y y' q)

-- ---- an hour written anew

-- from now on this stands at an hour of an open month
module _ (form : Meaning) (o : Opening) (s : Standing) (is : s.state ≡ Open) (hour : ℕ) (within : hour < hours_in o) (p : Option Posting) (i : ℕ) where
  -- what then stands
  abbrev s' : Standing
  s' = standing_with hour p s

  -- at other hours what stood there
  elsewhere : (h : ℕ) → (h ≡ hour → ⊥) → s'.posted h ≡ s.posted h
  elsewhere h apart = cond-false (eqb h hour) p (s.posted h) (ne_eqb h hour apart)

  -- the power line is 0 before and after
  power_same : alone Power (power_of o s i) ≡ alone Power (power_of o s' i)
  power_same =
      ap (λ state. alone Power (power_in state (power_line o.agents (withdrawn_of o s) i))) is
      ∙ sym (ap (λ state. alone Power (power_in state (power_line o.agents (withdrawn_of o s') i))) is)

  -- the lines of the month lose those of the hour that stood and gain those of what stands
  lines_even : lines_joined (agent_lines form o s' i) (figures_at form o s i hour).lines ≡ lines_joined (agent_lines form o s i) (figures_at form o s' i hour).lines
  lines_even =
      let power : Lines = alone Power (power_of o s' i) in
      let before : Lines = lines_between form o s 0 (hours_in o) i in
      let after : Lines = lines_between form o s' 0 (hours_in o) i in
      let old : Lines = (figures_at form o s i hour).lines in
      let new : Lines = (figures_at form o s' i hour).lines in
      let hours : lines_joined after old ≡ lines_joined before new =
      total_over_changed lines_lawful 0 (hours_in o) (λ h. (figures_at form o s i h).lines) (λ h. (figures_at form o s' i h).lines) hour (omega arith) (omega arith)
      (λ h low below apart. ap (λ q. (figures_from (setting_in form o s) i q).lines) (elsewhere h apart)) in
      swapped after power old
      ∙ ap (λ t. lines_joined t power) hours
      ∙ swapped before new power
      ∙ ap (λ t. lines_joined (lines_joined before t) new) (sym power_same)

  -- and so an energy of the month
  energy_even : (of : Option Posting → ℕ) → sum_to (hours_in o) (λ h. of (s'.posted h)) + of (s.posted hour) ≡ sum_to (hours_in o) (λ h. of (s.posted h)) + of (s'.posted hour)
  energy_even of = sum_to_change (hours_in o) (λ h. of (s.posted h)) (λ h. of (s'.posted h)) hour within (λ h below apart. ap of (elsewhere h apart))

  -- an account less the old entry and with the new one is that of what stands now
  pub account-changed : account_with (account_of form o s i) (entry_of (figures_at form o s i hour)) (entry_of (figures_at form o s' i hour)) ≡ account_of form o s' i
  account-changed =
      let old = figures_energies (setting_in form o s) i (s.posted hour) in
      let new = figures_energies (setting_in form o s') i (s'.posted hour) in
      pair_same _ _
      (money_changed (agent_lines form o s i) (agent_lines form o s' i) (figures_at form o s i hour).lines (figures_at form o s' i hour).lines lines_even)
      (energy_changed _ _ _ _ _ _ _ _ (omega (arith, energy_even (injected_in i))) (omega (arith, energy_even (withdrawn_in i))))

-- ---- the power line

-- an account of an open month with its power line is that of the month closed
pub account_charged : (form : Meaning) (o : Opening) (s : Standing) → s.state ≡ Open → (i : ℕ) →
    holding_joined (account_of form o s i) (power_points (power_line o.agents (withdrawn_of o s) i)) ≡ account_of form o (changed closing s) i
account_charged form o s is i =
    let line : ℤ = power_line o.agents (withdrawn_of o s) i in
    let hours : Lines = lines_between form o s 0 (hours_in o) i in
    pair_same _ _
    (money_of_joined (agent_lines form o s i) (alone Power line)
    ∙ ap (λ state. money_of (lines_joined (lines_joined hours (alone Power (power_in state line))) (alone Power line))) is
    ∙ ap (λ t. money_of (lines_joined t (alone Power line))) (ap (lines_joined hours) (alone-none Power) ∙ right_identity lines_lawful hours))
    (energy_lawful.commutative (account_of form o s i).second no_energy ∙ energy_lawful.identity (account_of form o s i).second)
