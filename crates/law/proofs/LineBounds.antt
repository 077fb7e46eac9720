-- How large each line is at most, of an hour and of a month, and so a balance, with contracts and without. Assumes nothing.
use Rattle.std.proofs.Common.{◌≡◌, ℕ, ◌+◌, ◌*◌, ◌<◌, ◌≤◌, true, length, ℤ, pos, nat_abs, Some, None, Option, refl, ap, ◌∙◌, subst, arith}
use Rattle.std.proofs.lemmas.{Int.ints, Nat.mul-le}
use Rattle.tally.specs.{declared.money.MoneyLine.MoneyLine, declared.money.MoneyLine.TheVariants.Market, declared.money.MoneyLine.TheVariants.Contract as Contracted, declared.money.MoneyLine.TheVariants.Overcost, declared.money.MoneyLine.TheVariants.Power, Lines.line_on}
use Rattle.tally.proofs.{Numbers.int_lawful, Numbers.int_sum_over_abs, Sums.total_over_none, Lines.line_on-over}
use Rattle.calendar.specs.Limits.{most_hours}
use Rattle.valuation.specs.Limits.{most_price, most_amount}
use Rattle.valuation.proofs.Amounts.{amount_of_le}
use Rattle.forms.specs.{Meaning.Meaning, Meaning.Keeps, Limits.most_leg, Limits.most_agents}
use Rattle.settlement.specs.{declared.lines.Line.Line, declared.states.State.State, declared.states.State.TheVariants.Open, declared.states.State.TheVariants.Closed, Hour.market_line, Hour.overcost_line, Legs.contract_line, Limits.most_excess, Limits.points_per_kw, Limits.most_power, Posting.line_at, Posting.Posting, Power.power_line, Setting.Setting}
use Rattle.settlement.proofs.{Bounds.Within, Bounds.excess_le, Bounds.caused_le, Bounds.carried_le, Checked.Checked, ContractLines.contract_line_abs}
use Rattle.law.specs.{Requests.Opening, Requests.count_in, Requests.hours_in, Standing.Standing, Standing.setting_in, Faults.withdrawn_of, Limits.most_line_of_an_hour, Limits.most_line_of_a_month, Parties.is_stranger, Worked.figures_from, Worked.figures_at, Worked.lines_between, Worked.power_in, Worked.power_of, Worked.agent_lines, Worked.agent_balance}
use Rattle.law.proofs.{Accepted.line_within_at, Accepted.at_standing, Power.power_line_le, Sound.Opened, Sound.Sound, Strangers.contract_line_none}

-- ---- limits, in points

-- the market line of a month: the largest amount in each hour
abbrev pub most_market : ℕ
most_market = most_hours * most_amount

-- the overcost line of an hour: all excess that an agent caused, and all that it carries
abbrev pub most_overcost_of_an_hour : ℕ
most_overcost_of_an_hour = 2 * most_excess

-- and of a month
abbrev pub most_overcost : ℕ
most_overcost = most_hours * most_overcost_of_an_hour

-- the power line of a month: what all agents are credited
abbrev pub most_power_line : ℕ
most_power_line = most_agents * (points_per_kw * most_power)

-- ---- a posting

-- a market line is at most the largest amount
pub market_line_abs : (price : ℕ) (l : Line) → price ≤ most_price → Within l → nat_abs (market_line price l) ≤ most_amount
market_line_abs price l cheap within =
    omega (
      arith,
      ints,
      amount_of_le l.injected l.factor price within.injected within.most_factor cheap,
      amount_of_le l.withdrawn l.factor price within.withdrawn within.most_factor cheap,
    )

-- an overcost line is at most all excess caused and all carried
pub overcost_line_abs : (setting : Setting) (p : Posting) → Checked setting p → (i : ℕ) → i < length setting.agents →
    nat_abs (overcost_line setting.agents p i) ≤ most_overcost_of_an_hour
overcost_line_abs setting p sane i below =
    omega (
      arith,
      ints,
      excess_le p.price (line_at p.lines i) (line_within_at setting p sane i below),
      caused_le p sane.fits i,
      carried_le p sane.fits setting.agents i (omega (arith, sane.long)),
    )

-- ---- what stands

module _ (form : Meaning) (o : Opening) (opened : Opened o) (s : Standing) (sound : Sound form o s) where
  -- the market line of an hour
  pub market_at_abs : (i hour : ℕ) → i < count_in o → hour < hours_in o → nat_abs (figures_at form o s i hour).lines.market ≤ most_amount
  market_at_abs i hour below within =
      at_standing form o opened s sound (λ h q. nat_abs (figures_from (setting_in form o s) i q).lines.market ≤ most_amount) (λ h. omega arith)
      (λ p sane. market_line_abs p.price (line_at p.lines i) sane.fits.price_within (line_within_at (setting_in form o s) p sane i below)) hour within

  -- the overcost line of an hour
  pub overcost_at_abs : (i hour : ℕ) → i < count_in o → hour < hours_in o → nat_abs (figures_at form o s i hour).lines.overcost ≤ most_overcost_of_an_hour
  overcost_at_abs i hour below within =
      at_standing form o opened s sound (λ h q. nat_abs (figures_from (setting_in form o s) i q).lines.overcost ≤ most_overcost_of_an_hour) (λ h. omega arith)
      (λ p sane. overcost_line_abs (setting_in form o s) p sane i below) hour within

  -- no hour gives anything on the power line
  pub power_at_none : (i hour : ℕ) → (figures_at form o s i hour).lines.power ≡ pos 0
  power_at_none i hour = none (s.posted hour)
    where
      none : (q : Option Posting) → (figures_from (setting_in form o s) i q).lines.power ≡ pos 0
      none None = refl
      none (Some p) = refl

  -- a line to which no hour gives more than so much
  of_hours : (line : MoneyLine) (i most : ℕ) → ((hour : ℕ) → hour < hours_in o → nat_abs (line_on line (figures_at form o s i hour).lines) ≤ most) →
      nat_abs (line_on line (lines_between form o s 0 (hours_in o) i)) ≤ most_hours * most
  of_hours line i most each =
      rw (line_on-over line 0 (hours_in o) (λ hour. (figures_at form o s i hour).lines))
      (omega (
        arith,
        int_sum_over_abs 0 (hours_in o) (λ hour. line_on line (figures_at form o s i hour).lines) most (λ hour low within. each hour (omega arith)),
        mul-le (hours_in o) most most_hours most (omega (arith, opened.few_days)) (omega arith),
      ))

  -- a line to which no hour gives anything
  of_none : (line : MoneyLine) (i : ℕ) → ((hour : ℕ) → line_on line (figures_at form o s i hour).lines ≡ pos 0) →
      line_on line (lines_between form o s 0 (hours_in o) i) ≡ pos 0
  of_none line i none =
      line_on-over line 0 (hours_in o) (λ hour. (figures_at form o s i hour).lines)
      ∙ total_over_none int_lawful 0 (hours_in o) (λ hour. line_on line (figures_at form o s i hour).lines) (λ hour low within. none hour)

  -- the market line of the month
  pub market_abs : (i : ℕ) → i < count_in o → nat_abs (agent_lines form o s i).market ≤ most_market
  market_abs i below = omega (arith, ints, of_hours Market i most_amount (λ hour within. market_at_abs i hour below within))

  -- the overcost line
  pub overcost_abs : (i : ℕ) → i < count_in o → nat_abs (agent_lines form o s i).overcost ≤ most_overcost
  overcost_abs i below = omega (arith, ints, of_hours Overcost i most_overcost_of_an_hour (λ hour within. overcost_at_abs i hour below within))

  -- what closing gives
  pub power_of_abs : (i : ℕ) → i < count_in o → nat_abs (power_of o s i) ≤ most_power_line
  power_of_abs i below = by s.state (power_line o.agents (withdrawn_of o s) i) (power_line_le o.agents opened.few_agents opened.agents (withdrawn_of o s) i below)
    where
      by : (state : State) (points : ℤ) → nat_abs points ≤ most_power_line → nat_abs (power_in state points) ≤ most_power_line
      by Open points few = omega arith
      by Closed points few = few

  -- the power line is that alone
  power_is : (i : ℕ) → (agent_lines form o s i).power ≡ power_of o s i
  power_is i = omega (arith, ints, of_none Power i (power_at_none i))

  -- so it is as large at most
  pub power_abs : (i : ℕ) → i < count_in o → nat_abs (agent_lines form o s i).power ≤ most_power_line
  power_abs i below = omega (arith, ints, power_is i, power_of_abs i below)

  -- ---- with contracts

  module _ (keeps : Keeps form) where
    -- the contract line of an hour: a leg of each contract
    pub contract_at_abs : (i hour : ℕ) → hour < hours_in o → nat_abs (figures_at form o s i hour).lines.contract ≤ most_line_of_an_hour
    contract_at_abs i hour within =
        at_standing form o opened s sound (λ h q. nat_abs (figures_from (setting_in form o s) i q).lines.contract ≤ most_line_of_an_hour) (λ h. omega arith)
        (λ p sane.
        subst (λ n. nat_abs (contract_line (setting_in form o s) p i) ≤ n * most_leg) sound.long
        (contract_line_abs (setting_in form o s) keeps p sane.long sane.fits sound.contracts i)) hour within

    -- and of the month
    pub contract_abs : (i : ℕ) → nat_abs (agent_lines form o s i).contract ≤ most_line_of_a_month
    contract_abs i = omega (arith, ints, of_hours Contracted i most_line_of_an_hour (contract_at_abs i))

    -- the balance: all four lines together
    pub balance_abs : (i : ℕ) → i < count_in o → nat_abs (agent_balance form o s i) ≤ most_market + most_line_of_a_month + most_overcost + most_power_line
    balance_abs i below = omega (arith, ints, market_abs i below, contract_abs i, overcost_abs i below, power_abs i below)

  -- ---- without

  module _ (i : ℕ) (stranger : is_stranger i s.places ≡ true) where
    -- an agent that is party to no standing contract has nothing on its contract line, of an hour
    pub contract_at_none : (hour : ℕ) → (figures_at form o s i hour).lines.contract ≡ pos 0
    contract_at_none hour = none (s.posted hour)
      where
        none : (q : Option Posting) → (figures_from (setting_in form o s) i q).lines.contract ≡ pos 0
        none None = refl
        none (Some p) = contract_line_none (setting_in form o s) p i stranger

    -- and of the month
    pub contract_none : (agent_lines form o s i).contract ≡ pos 0
    contract_none = omega (arith, ints, of_none Contracted i contract_at_none)

    -- its balance: the three other lines together
    pub stranger_balance_abs : i < count_in o → nat_abs (agent_balance form o s i) ≤ most_market + most_overcost + most_power_line
    stranger_balance_abs below = omega (arith, ints, market_abs i below, contract_none, overcost_abs i below, power_abs i below)

    -- and while the month is open, two of them
    pub stranger_open_balance_abs : i < count_in o → s.state ≡ Open → nat_abs (agent_balance form o s i) ≤ most_market + most_overcost
    stranger_open_balance_abs below is =
        let none : power_of o s i ≡ pos 0 = ap (λ state. power_in state (power_line o.agents (withdrawn_of o s) i)) is in
        omega (arith, ints, market_abs i below, contract_none, overcost_abs i below, power_is i)
