-- What joins of money come to: the same as of lines, wrapped. Assumes nothing.
use Rattle.std.specs.Prelude.{◌≡◌, ◌^◌, ◌<◌, ℤ, pos, ◌+ℤ◌, neg_ℤ}
use Rattle.std.proofs.Common.{sym, ap, ◌∙◌}
use mathlib.Core.HLevel.{is_prop→PathP}
use Rattle.std.proofs.Math.{Bridge.le_prop, IntN.+ℤ_idl, IntN.+ℤ_assoc}
use Rattle.std.proofs.lemmas.Int.{int_wrap_fits, int_wrap-add_left, int_wrap-add_right, int_wrap-sub_right}
use Rattle.std.specs.Int.{Signed.mag, int_wrap, w64}
use Rattle.tally.specs.{Lawful.Lawful, Lines.Lines, Lines.line_on, Lines.lines_by, Lines.no_lines, Lines.lines_joined, Lines.lines_undone, LinesLaws.lines_lawful, LinesLaws.lines_cancel, Money.money_of, Money.lines_of, Money.no_money, Money.money_joined, Money.money_undone, declared.money.Money.Money}

-- money of equal lines is equal
pub money_same : (x y : Money) → lines_of x ≡ lines_of y → x ≡ y
money_same x y same i = record {
  market = (same i).market;
  contract = (same i).contract;
  overcost = (same i).overcost;
  power = (same i).power;
  market_fits = is_prop→PathP (λ k. mag (same k).market < 2 ^ 63) (λ k. le_prop) x.market_fits y.market_fits i;
  contract_fits = is_prop→PathP (λ k. mag (same k).contract < 2 ^ 63) (λ k. le_prop) x.contract_fits y.contract_fits i;
  overcost_fits = is_prop→PathP (λ k. mag (same k).overcost < 2 ^ 63) (λ k. le_prop) x.overcost_fits y.overcost_fits i;
  power_fits = is_prop→PathP (λ k. mag (same k).power < 2 ^ 63) (λ k. le_prop) x.power_fits y.power_fits i;
}

-- the same, line by line
pub money_each : (x y : Money) →
    x.market ≡ y.market → x.contract ≡ y.contract → x.overcost ≡ y.overcost → x.power ≡ y.power → x ≡ y
money_each x y m c o p = money_same x y (λ i. record { market = m i; contract = c i; overcost = o i; power = p i })

-- a number that fits is itself, wrapped
fits : (z : ℤ) → mag z < 2 ^ 63 → int_wrap w64 z ≡ z
fits z h = int_wrap_fits w64 z (record { sfits = h })

-- money is what its lines are
pub money_of_lines : (m : Money) → money_of (lines_of m) ≡ m
money_of_lines m =
    money_each _ m (fits _ m.market_fits) (fits _ m.contract_fits) (fits _ m.overcost_fits) (fits _ m.power_fits)

-- to wrap two numbers before they are added changes nothing
wrapped_add : (a b : ℤ) → int_wrap w64 (int_wrap w64 a +ℤ int_wrap w64 b) ≡ int_wrap w64 (a +ℤ b)
wrapped_add a b = int_wrap-add_left w64 a (int_wrap w64 b) ∙ int_wrap-add_right w64 a b

regrouped : (a b c : ℤ) → int_wrap w64 (int_wrap w64 (a +ℤ b) +ℤ c) ≡ int_wrap w64 (a +ℤ int_wrap w64 (b +ℤ c))
regrouped a b c =
    int_wrap-add_left w64 (a +ℤ b) c ∙ ap (int_wrap w64) (+ℤ_assoc a b c) ∙ sym (int_wrap-add_right w64 a (b +ℤ c))

pub money_of_joined : (x y : Lines) → money_joined (money_of x) (money_of y) ≡ money_of (lines_joined x y)
money_of_joined x y = money_same _ _ (λ i. lines_by (λ line. wrapped_add (line_on line x) (line_on line y) i))

-- the opposite of a number, wrapped before or after
wrapped_neg : (a : ℤ) → int_wrap w64 (neg_ℤ (int_wrap w64 a)) ≡ int_wrap w64 (neg_ℤ a)
wrapped_neg a =
    ap (int_wrap w64) (sym (+ℤ_idl _)) ∙ int_wrap-sub_right w64 (pos 0) a ∙ ap (int_wrap w64) (+ℤ_idl _)

pub money_of_undone : (x : Lines) → money_undone (money_of x) ≡ money_of (lines_undone x)
money_of_undone x = money_same _ _ (λ i. lines_by (λ line. wrapped_neg (line_on line x) i))

pub money_lawful : Lawful no_money money_joined
money_lawful = record {
  identity = λ x. ap (money_joined no_money) (sym (money_of_lines x)) ∙ money_of_joined no_lines (lines_of x)
      ∙ ap money_of (lines_lawful.identity (lines_of x)) ∙ money_of_lines x;
  commutative = λ x y. ap money_of (lines_lawful.commutative (lines_of x) (lines_of y));
  associative = λ x y z. money_same _ _ (λ i. lines_by (λ line.
      regrouped (line_on line (lines_of x)) (line_on line (lines_of y)) (line_on line (lines_of z)) i));
}

pub money_cancels : (x : Money) → money_joined x (money_undone x) ≡ no_money
money_cancels x = ap (λ t. money_joined t (money_undone x)) (sym (money_of_lines x))
    ∙ money_of_joined (lines_of x) (lines_undone (lines_of x)) ∙ ap money_of (lines_cancel (lines_of x))
