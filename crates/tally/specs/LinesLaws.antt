-- What joins of lines come to. Assumes nothing.
use Rattle.std.specs.Prelude.{◌≡◌, ℤ}
use Rattle.std.proofs.Math.IntN.{+ℤ_idl, +ℤ_comm, +ℤ_assoc, +ℤ_invr}
use Rattle.tally.specs.{Lawful.Lawful, Lines.Lines, Lines.line_on, Lines.lines_by, Lines.no_lines, Lines.lines_joined, Lines.lines_undone, declared.money.MoneyLine.MoneyLine, declared.money.MoneyLine.TheVariants.Market}

-- two of equal lines are equal
pub lines_same : (x y : Lines) → ((line : MoneyLine) → line_on line x ≡ line_on line y) → x ≡ y
lines_same x y same i = lines_by (λ line. same line i)

-- what each line of lines by their names is
pub line_on_by : (line : MoneyLine) (f : MoneyLine → ℤ) → line_on line (lines_by f) ≡ f line
line_on_by Market f = λ i. f Market
line_on_by line f = λ i. f line

pub lines_lawful : Lawful no_lines lines_joined
lines_lawful = record {
  identity = λ x i. lines_by (λ line. +ℤ_idl (line_on line x) i);
  commutative = λ x y i. lines_by (λ line. +ℤ_comm (line_on line x) (line_on line y) i);
  associative = λ x y z i. lines_by (λ line. +ℤ_assoc (line_on line x) (line_on line y) (line_on line z) i);
}

pub lines_cancel : (x : Lines) → lines_joined x (lines_undone x) ≡ no_lines
lines_cancel x i = lines_by (λ line. +ℤ_invr (line_on line x) i)
