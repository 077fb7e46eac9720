-- An hour written anew: entries and accounts. Agents are counted from 0. Assumes nothing.
use Rattle.std.specs.Prelude.{ℕ, ◌+◌, ◌*◌, ◌/◌, ◌%◌, if◌then◌else◌, List, map, length, ◌==◌, slice_index_or, slice_set}
use Rattle.std.specs.List.{range_with_len}
use Rattle.settlement.specs.Holdings.{Holding, no_holding, holding_joined, holding_undone}
use Rattle.book.specs.Memory.{Memory}

-- where the entry of an agent at an hour lies: agent after agent, each with so many hours
abbrev pub entry_place : (hours i hour : ℕ) → ℕ
entry_place hours i hour = i * hours + hour

-- the entries with new ones at an hour: every entry whose hour is another is as it was
abbrev pub entries_with : (hours hour : ℕ) → (new : ℕ → Holding) → List Holding → List Holding
entries_with hours hour new entries =
    map (λ k. if k % hours == hour then new (k / hours) else slice_index_or entries k no_holding)
    (range_with_len 0 (length entries))

-- an account that loses the old entry and gains the new
abbrev pub account_with : (account old new : Holding) → Holding
account_with account old new = holding_joined (holding_joined account (holding_undone old)) new

-- the accounts then
abbrev pub accounts_with :
    (hours hour : ℕ) → (new : ℕ → Holding) → (entries accounts : List Holding) → List Holding
accounts_with hours hour new entries accounts =
    let account = λ (i : ℕ). slice_index_or accounts i no_holding in
    let old = λ (i : ℕ). slice_index_or entries (entry_place hours i hour) no_holding in
    map (λ i. account_with (account i) (old i) (new i)) (range_with_len 0 (length accounts))

-- memory with an hour written anew, under its mark
abbrev pub rewritten : (hours hour mark : ℕ) → (new : ℕ → Holding) → Memory → Memory
rewritten hours hour mark new m = record m {
  accounts = accounts_with hours hour new m.entries m.accounts;
  marks = slice_set m.marks hour mark;
  entries = entries_with hours hour new m.entries;
}
