-- Sums over places, counted from 0, and over the items of a list. Assumes nothing.
use Rattle.std.specs.Prelude.{ℕ, ◌+◌, List, map, ℤ, pos, ◌+ℤ◌}
use Rattle.tally.specs.{Lines.Lines, Lines.no_lines, Lines.lines_joined, Total.total, Total.total_over}

-- f at the n places from `start` on, all together: of whole numbers, of whole numbers with a sign, and of lines
abbrev pub nat_sum_over : (start n : ℕ) → (ℕ → ℕ) → ℕ
nat_sum_over = total_over 0 ◌+◌

abbrev pub int_sum_over : (start n : ℕ) → (ℕ → ℤ) → ℤ
int_sum_over = total_over (pos 0) ◌+ℤ◌

abbrev pub lines_over : (start n : ℕ) → (ℕ → Lines) → Lines
lines_over = total_over no_lines lines_joined

-- the same from place 0 on: f 0 + … + f (n − 1)
abbrev pub sum_to : ℕ → (ℕ → ℕ) → ℕ
sum_to n f = nat_sum_over 0 n f

abbrev pub sum_to_ℤ : ℕ → (ℕ → ℤ) → ℤ
sum_to_ℤ n f = int_sum_over 0 n f

-- f of each item of a list, all together
abbrev pub int_sum_by : {X : Type 0} → (X → ℤ) → List X → ℤ
int_sum_by f xs = total (pos 0) ◌+ℤ◌ (map f xs)
