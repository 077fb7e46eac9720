-- Accounts and entries: money and energy together. Assumes nothing.
use Rattle.std.specs.Prelude.{◌≡◌, ℕ, ◌<◌, List, map, length, ℤ, sum_by, slice_index_or}
use Rattle.std.specs.List.{range_with_len}
use Rattle.tally.specs.{declared.money.Money.Money, declared.money.MoneyLine.MoneyLine, declared.money.MoneyLine.TheVariants.Contract, declared.money.MoneyLine.TheVariants.Power, declared.energy.Energy.Energy, declared.pair.Pair.Pair, Lines.alone, Money.money_of, Money.no_money, Money.money_joined, Money.money_undone, Energy.energy_of, Energy.no_energy, Energy.energy_joined, Energy.energy_undone, Pair.pair_of, Pair.pair_joined, Pair.pair_undone}
use Rattle.settlement.specs.Hour.{Figures}

-- an account, and an entry, hold money and energy
abbrev pub Holding : Type 0
Holding = Pair Money Energy

-- an empty one
abbrev pub no_holding : Holding
no_holding = pair_of no_money no_energy

-- two together
abbrev pub holding_joined : Holding → Holding → Holding
holding_joined = pair_joined money_joined energy_joined

-- what takes one off again
abbrev pub holding_undone : Holding → Holding
holding_undone = pair_undone money_undone energy_undone

-- the withdrawn energy of the account at a place
abbrev pub withdrawn_on : List Holding → ℕ → ℕ
withdrawn_on accounts i = (slice_index_or accounts i no_holding).second.withdrawn

-- all of it together
abbrev pub all_withdrawn : List Holding → ℕ
all_withdrawn accounts = sum_by (λ (account : Holding). account.second.withdrawn) accounts

-- the entry of an agent's figures
abbrev pub entry_of : Figures → Holding
entry_of f = pair_of (money_of f.lines) (energy_of f.injected f.withdrawn)

-- the entries of so many agents' figures
abbrev pub entries_of : (figures : ℕ → Figures) → (count : ℕ) → List Holding
entries_of figures count = map (λ i. entry_of (figures i)) (range_with_len 0 count)

-- points on one line alone
abbrev pub points_alone : MoneyLine → ℤ → Holding
points_alone line points = pair_of (money_of (alone line points)) no_energy

-- a holding with so many points more on its contract line
abbrev pub with_points : ℤ → Holding → Holding
with_points points holding = holding_joined holding (points_alone Contract points)

-- each agent gets so many points, by its place, on its contract line
abbrev pub EachGets : (points : ℕ → ℤ) → (before after : List Holding) → Type 0
EachGets points before after =
    (i : ℕ) → i < length before →
    slice_index_or after i no_holding ≡ with_points (points i) (slice_index_or before i no_holding)

-- points on the power line alone
abbrev pub power_points : ℤ → Holding
power_points points = points_alone Power points
