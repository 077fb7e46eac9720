-- Where the same contracts stand, under whatever numbers, they give the same, by a form that is alike. Assumes nothing.
use Rattle.std.specs.List.{list_all, Sorted.IsPermutation}
use Rattle.std.proofs.Common.{◌≡◌, ℕ, Bool, true, List, [], ◌∷◌, ℤ, pos, ◌+ℤ◌, Some, None, Option, sym, refl, ap, ◌∙◌, arith}
use Rattle.std.proofs.lemmas.Int.{ints}
use Rattle.tally.specs.Sums.{int_sum_by}
use Rattle.tally.proofs.Numbers.{int_sum_by-IsPermutation}
use Rattle.forms.specs.{declared.Contract.Contract, Meaning.Meaning, Meaning.Keeps, Meaning.Alike}
use Rattle.settlement.specs.{ContractFaults.place_fits, Legs.given_in, Legs.contract_points_of, Posting.Posting, Setting.Setting}
use Rattle.settlement.proofs.{Checked.Checked, ContractLines.contract_points_alike}
use Rattle.law.specs.Level.{standing_contracts}

module _ (f : Option Contract → ℤ) (none : f None ≡ pos 0) where
  -- where an empty place gives nothing, a sum over places is one over the contracts that stand
  sum_of_standing : (places : List (Option Contract)) → int_sum_by f places ≡ int_sum_by (λ c. f (Some c)) (standing_contracts places)
  sum_of_standing [] = refl
  sum_of_standing (None ∷ places) = omega (arith, ints, none, sum_of_standing places)
  sum_of_standing (Some c ∷ places) = ap (λ z. f (Some c) +ℤ z) (sum_of_standing places)

  -- so it is the same over others with the same contracts
  sum_of_level : (places others : List (Option Contract)) → IsPermutation (standing_contracts places) (standing_contracts others) → int_sum_by f places ≡ int_sum_by f others
  sum_of_level places others same =
      sum_of_standing places
      ∙ sym (int_sum_by-IsPermutation (λ c. f (Some c)) (standing_contracts places) (standing_contracts others) same)
      ∙ sym (sum_of_standing others)

-- the contract lines of some agents, in an hour whose posting met no fault
pub contract_points_level : (setting : Setting) → Keeps setting.form → (p : Posting) → Checked setting p →
    list_all (place_fits setting) setting.places ≡ true → (same : Meaning) → Alike setting.form same → (others : List (Option Contract)) →
    IsPermutation (standing_contracts setting.places) (standing_contracts others) → (member : ℕ → Bool) →
    contract_points_of member setting p ≡ contract_points_of member (record setting { form = same; places = others }) p
contract_points_level setting keeps p sane fit same alike others level member =
    contract_points_alike setting keeps p sane.long sane.fits fit same alike member
    ∙ sum_of_level (given_in member (record setting { form = same }) p) refl setting.places others level
