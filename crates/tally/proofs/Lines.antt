-- Lines together: one line, the balance and the money of them, and how large they may be. Assumes nothing.
use Rattle.std.proofs.Common.{◌≡◌, ℕ, zero, suc, ◌+◌, ◌*◌, ◌^◌, ◌<◌, ◌≤◌, ℤ, pos, ◌+ℤ◌, nat_abs, sym, refl, ap, ◌∙◌, arith, w64}
use lib.IntN.{+ℤ_idr}
use Rattle.std.proofs.lemmas.Int.{ints, int_wrap_fits}
use Rattle.tally.specs.{declared.money.MoneyLine.MoneyLine, declared.money.MoneyLine.TheVariants.Market, declared.money.MoneyLine.TheVariants.Contract, declared.money.MoneyLine.TheVariants.Overcost, declared.money.MoneyLine.TheVariants.Power, Energy.energy_of, Energy.no_energy, Energy.energy_joined, EnergyLaws.energy_of_joined, Lines.Lines, Lines.line_on, Lines.lines_by, Lines.no_lines, Lines.lines_joined, Lines.alone, Lines.balance_of, Lines.LinesWithin, Lines.LinesFit, LinesLaws.line_on_by, Money.money_of, Money.lines_of, Money.no_money, Money.money_joined, MoneyLaws.money_of_joined, Sums.nat_sum_over, Sums.int_sum_over, Sums.lines_over, Total.total_over}
use Rattle.tally.proofs.{Numbers.int_sum_over_abs, Numbers.fits_abs, Sums.total_over_map}

-- ---- one line, and the balance, of two together

pub line_on-joined : (line : MoneyLine) (x y : Lines) → line_on line (lines_joined x y) ≡ line_on line x +ℤ line_on line y
line_on-joined line x y = line_on_by line (λ l. line_on l x +ℤ line_on l y)

pub line_on-none : (line : MoneyLine) → line_on line no_lines ≡ pos 0
line_on-none line = line_on_by line (λ l. pos 0)

pub balance_of-joined : (x y : Lines) → balance_of (lines_joined x y) ≡ balance_of x +ℤ balance_of y
balance_of-joined x y = omega (arith, ints)

-- no points on a line are nothing, and points on one line add up
pub alone-none : (line : MoneyLine) → alone line (pos 0) ≡ no_lines
alone-none Market = refl
alone-none line = refl

pub alone-joined : (line : MoneyLine) (a b : ℤ) → lines_joined (alone line a) (alone line b) ≡ alone line (a +ℤ b)
alone-joined Market a b = refl
alone-joined line a b = refl

-- points on the contract line, and on the power line, change that line alone
pub contract-joined : (x : Lines) (points : ℤ) → lines_joined x (alone Contract points) ≡ record x { contract = x.contract +ℤ points }
contract-joined x points i =
    record { market = +ℤ_idr x.market i; contract = x.contract +ℤ points; overcost = +ℤ_idr x.overcost i; power = +ℤ_idr x.power i }

-- ---- of several together

pub line_on-over : (line : MoneyLine) (start n : ℕ) (f : ℕ → Lines) → line_on line (lines_over start n f) ≡ int_sum_over start n (λ k. line_on line (f k))
line_on-over line = total_over_map no_lines lines_joined (pos 0) ◌+ℤ◌ (line_on line) (line_on-none line) (line_on-joined line)

pub balance_of-over : (start n : ℕ) (f : ℕ → Lines) → balance_of (lines_over start n f) ≡ int_sum_over start n (λ k. balance_of (f k))
balance_of-over = total_over_map no_lines lines_joined (pos 0) ◌+ℤ◌ balance_of refl balance_of-joined

-- ---- how large

pub lines_over_within : (start n : ℕ) (f : ℕ → Lines) (most : ℕ) → ((k : ℕ) → start ≤ k → k < start + n → LinesWithin most (f k)) → LinesWithin (n * most) (lines_over start n f)
lines_over_within start n f most each line =
    rw (line_on-over line start n f) (int_sum_over_abs start n (λ k. line_on line (f k)) most (λ k low below. each k low below line))

pub balance_of_within : (most : ℕ) (x : Lines) → LinesWithin most x → nat_abs (balance_of x) ≤ 4 * most
balance_of_within most x within = omega (arith, ints, within Market, within Contract, within Overcost, within Power)

pub lines_fit : (most : ℕ) (x : Lines) → LinesWithin most x → most < 2 ^ 63 → LinesFit x
lines_fit most x within small line = fits_abs (line_on line x) (omega (arith, within line))

-- lines that fit are those of their money
pub lines_of_money : (x : Lines) → LinesFit x → lines_of (money_of x) ≡ x
lines_of_money x fit i = lines_by (λ line. int_wrap_fits w64 (line_on line x) (fit line) i)
