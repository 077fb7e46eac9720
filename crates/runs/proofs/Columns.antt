-- The entries of an hour, a column among those of the month, and what a write to them leaves. Assumes nothing.
use Rattle.std.proofs.Common.{◌≡◌, ℕ, ◌*◌, ◌<◌, cond, eqb, List, length, get_or, ◌∙◌, arith}
use Rattle.std.proofs.lemmas.{Nat.div-mul-add, Nat.mod-mul-add, Nat.mul-add-lt, List.FromFn.length-map-range_with_len, List.FromFn.get_or-map-range_with_len}
use Rattle.settlement.specs.Holdings.{Holding, no_holding, holding_joined, holding_undone}
use Rattle.book.specs.Rewriting.{entry_place, entries_with, accounts_with}

module _ (hours hour : ℕ) (new : ℕ → Holding) (entries : List Holding) where
  -- as many entries
  pub length-entries_with : length (entries_with hours hour new entries) ≡ length entries
  length-entries_with = length-map-range_with_len _ 0 (length entries)

  -- the entry of an agent at an hour of the month: the new one at the hour written, and at the others the old one
  pub entry_with : (count i h : ℕ) → length entries ≡ count * hours → i < count → h < hours →
      get_or (entries_with hours hour new entries) (entry_place hours i h) no_holding ≡ cond (eqb h hour) (new i) (get_or entries (entry_place hours i h) no_holding)
  entry_with count i h long agent within =
      let old : ℕ → Holding = λ k. get_or entries k no_holding in
      get_or-map-range_with_len _ 0 (length entries) (entry_place hours i h) (entry_place hours i h) no_holding (omega (arith, mul-add-lt i hours h count agent within)) (omega arith)
      ∙ (λ t. cond (eqb (mod-mul-add i hours h within t) hour) (new (div-mul-add i hours h within t)) (old (entry_place hours i h)))

  module _ (accounts : List Holding) where
    -- as many accounts
    pub length-accounts_with : length (accounts_with hours hour new entries accounts) ≡ length accounts
    length-accounts_with = length-map-range_with_len _ 0 (length accounts)

    -- an account loses the old entry and gains the new
    pub account_with_lem : (i : ℕ) → i < length accounts →
        get_or (accounts_with hours hour new entries accounts) i no_holding ≡
        holding_joined (holding_joined (get_or accounts i no_holding) (holding_undone (get_or entries (entry_place hours i hour) no_holding))) (new i)
    account_with_lem i agent = get_or-map-range_with_len _ 0 (length accounts) i i no_holding agent (omega arith)
