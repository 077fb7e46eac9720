-- Points put on a contract line: none, several, and on the entry of a posting's own lines. Assumes nothing.
use Rattle.std.proofs.Common.{◌≡◌, ℕ, ◌+◌, ◌-◌, ◌<◌, ◌≤◌, cond, eqb, List, length, get_or, set, ℤ, pos, ◌+ℤ◌, sym, ap, ◌∙◌, inl, inr, arith}
use lib.IntN.{+ℤ_idl}
use Rattle.std.proofs.lemmas.{List.get_or-set_same, List.get_or-set_other, Bool.cases_eq, Bool.eq-eqb, Bool.ne_eqb}
use Rattle.tally.{specs.declared.money.MoneyLine.TheVariants.Contract, specs.Lines.Lines, specs.Lines.alone, specs.Money.money_of, specs.Money.money_joined, specs.Energy.no_energy, specs.Energy.energy_joined, specs.MoneyLaws.money_lawful, specs.MoneyLaws.money_of_joined, specs.EnergyLaws.energy_lawful, proofs.Lines.contract-joined, proofs.PairLaws.pair_same, proofs.Totals.right_identity}
use Rattle.settlement.specs.{Holdings.Holding, Holdings.no_holding, Holdings.with_points, Holdings.entry_of, Hour.Figures}

-- no points change nothing
pub points_none : (h : Holding) → with_points (pos 0) h ≡ h
points_none h =
    pair_same _ _ (right_identity money_lawful h.first) (right_identity energy_lawful h.second)

-- points one after another are points together
pub points_more : (a b : ℤ) (h : Holding) → with_points b (with_points a h) ≡ with_points (a +ℤ b) h
points_more a b h =
    pair_same _ _
    (money_lawful.associative h.first (money_of (alone Contract a)) (money_of (alone Contract b)) ∙ ap (money_joined h.first) (money_of_joined (alone Contract a) (alone Contract b)))
    (energy_lawful.associative h.second no_energy no_energy ∙ ap (energy_joined h.second) (energy_lawful.identity no_energy))

-- figures with another contract line
abbrev with_contract : ℤ → Figures → Figures
with_contract points f = record f { lines = record f.lines { contract = points } }

-- the entry of figures without contracts, with points, is that of the figures with them
pub points_entry : (points : ℤ) (f : Figures) → with_points points (entry_of (with_contract (pos 0) f)) ≡ entry_of (with_contract points f)
points_entry points f =
    let own : Lines = record f.lines { contract = pos 0 } in
    pair_same _ _
    (money_of_joined own (alone Contract points) ∙ ap money_of (contract-joined own points) ∙ (λ t. money_of (record own { contract = +ℤ_idl points t })))
    (right_identity energy_lawful (entry_of f).second)

-- points put on the entry of the agent with a number
pub points_placed : (fresh : List Holding) (number : ℕ) (points : ℤ) (i : ℕ) → 1 ≤ number → number ≤ length fresh → i < length fresh →
    get_or (set fresh (number - 1) (with_points points (get_or fresh (number - 1) no_holding))) i no_holding ≡ with_points (cond (eqb number (i + 1)) points (pos 0)) (get_or fresh i no_holding)
points_placed fresh number points i some known within = elim (cases_eq number (i + 1)) [
  | inl here ↦
      let place : number - 1 ≡ i = omega arith in
      rw (place, eq-eqb number (i + 1) here)
      (get_or-set_same fresh i (with_points points (get_or fresh i no_holding)) no_holding within)
  | inr apart ↦
      let other : i ≡ number - 1 → ⊥ = λ e. apart (omega arith) in
      rw (get_or-set_other, ne_eqb number (i + 1) apart) (sym (points_none (get_or fresh i no_holding)))
]
