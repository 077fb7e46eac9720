-- The lines of money as whole numbers: what is owed to an agent is above 0, what it owes below. Assumes nothing.
use Rattle.std.specs.Prelude.{ℕ, ◌≤◌, ℤ, pos, ◌+ℤ◌, neg_ℤ, nat_abs, FitsSigned}
use Rattle.std.specs.Int.{w64}
use Rattle.tally.specs.declared.money.MoneyLine.{MoneyLine, TheVariants.Market, TheVariants.Contract, TheVariants.Overcost, TheVariants.Power}

pub record Lines : Type 0 where
  pub market : ℤ
  pub contract : ℤ
  pub overcost : ℤ
  pub power : ℤ

-- one of the lines, by its name
abbrev pub line_on : MoneyLine → Lines → ℤ
line_on Market x = x.market
line_on Contract x = x.contract
line_on Overcost x = x.overcost
line_on Power x = x.power

-- all lines, each by its name
abbrev pub lines_by : (MoneyLine → ℤ) → Lines
lines_by f =
    record { market = f Market; contract = f Contract; overcost = f Overcost; power = f Power }

-- nothing on any line
abbrev pub no_lines : Lines
no_lines = lines_by (λ line. pos 0)

-- line by line, the two together
abbrev pub lines_joined : Lines → Lines → Lines
lines_joined x y = lines_by (λ line. line_on line x +ℤ line_on line y)

-- line by line, the same owed the other way
abbrev pub lines_undone : Lines → Lines
lines_undone x = lines_by (λ line. neg_ℤ (line_on line x))

-- so many points on one line, and nothing on the others
abbrev pub alone : MoneyLine → ℤ → Lines
alone Market points = record no_lines { market = points }
alone Contract points = record no_lines { contract = points }
alone Overcost points = record no_lines { overcost = points }
alone Power points = record no_lines { power = points }

-- the balance: the sum of the lines
abbrev pub balance_of : Lines → ℤ
balance_of x = x.market +ℤ x.contract +ℤ x.overcost +ℤ x.power

-- each line is at most so large, owed either way
abbrev pub LinesWithin : (most : ℕ) → Lines → Type 0
LinesWithin most x = (line : MoneyLine) → nat_abs (line_on line x) ≤ most

-- each line fits 64 bits
abbrev pub LinesFit : Lines → Type 0
LinesFit x = (line : MoneyLine) → FitsSigned w64 (line_on line x)
