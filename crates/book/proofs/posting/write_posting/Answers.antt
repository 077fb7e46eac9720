use Rattle.std.proofs.Common.{◌≡◌, ℕ, ◌*◌, ◌<◌, length, get_or, sym, ap, ◌∙◌, arith}
use Rattle.std.proofs.lemmas.List.FromFn.{get_or-map-range_with_len}
use Rattle.calendar.specs.Limits.{hours_of}
use Rattle.settlement.specs.{Holdings.Holding, Holdings.no_holding, Holdings.entry_of, Legs.hour_of, Posting.posting_of, Setting.setting_of}
use Rattle.book.specs.Rewriting.{entries_with, accounts_with}
use Rattle.book.proofs.Columns.{entries_with_same, accounts_with_same}
use Rattle.book.proofs.posting.write_posting.Goals as goal

pub returns : goal.returns
returns g c =
    let checked = c.args.checked.now in
    let setting = setting_of (g.F.ContractForm.meaning c.args.setting.now.form.now) c.args.setting.now in
    let stamp = checked.stamp in
    let hours = hours_of stamp.days in
    let n = length setting.agents in
    let entries = c.args.entries.now in
    let new : ℕ → Holding = λ i. entry_of (hour_of setting (posting_of checked.posting) i) in
    let fresh : ℕ → Holding = λ i. get_or c.fill_hour.new.fresh i no_holding in
    let long : n ≡ length checked.posting.lines.now = ap length (sym c.requires.agents) ∙ checked.agents_long in
    let same : (i : ℕ) → i < n → fresh i ≡ new i =
    λ i below. ap (λ es. get_or es i no_holding) c.fill_hour.ensures ∙ get_or-map-range_with_len new 0 (length checked.posting.lines.now) i i no_holding (omega arith) (omega arith) in
    let entries_long : length entries ≡ n * hours = c.requires.entries_long ∙ ap (λ days. n * hours_of days) (sym c.requires.days) in
    record {
      entries =
          c.replace_hour.ensures.entries
          ∙ entries_with_same hours stamp.hour n stamp.within fresh new same entries entries_long
          ∙ (λ t. entries_with (hours_of (c.requires.days t)) (checked.stamped t) new entries);
      accounts =
          c.replace_hour.ensures.accounts
          ∙ accounts_with_same hours stamp.hour n stamp.within fresh new same entries c.args.accounts.now c.requires.accounts_long
          ∙ (λ t. accounts_with (hours_of (c.requires.days t)) (checked.stamped t) new entries c.args.accounts.now);
    }
