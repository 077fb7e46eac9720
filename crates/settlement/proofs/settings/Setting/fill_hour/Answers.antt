use Rattle.std.proofs.Common.{◌≡◌, ℕ, map, length, get_or, ap, ◌∙◌, arith}
use Rattle.std.{specs.List.range_with_len, proofs.lemmas.List.FromFn.fill_by_all, proofs.lemmas.List.FromFn.get_or-map-range_with_len}
use Rattle.settlement.{specs.Holdings.Holding, specs.Holdings.no_holding, specs.Holdings.with_points, specs.Holdings.entry_of, specs.Hour.own_of, specs.Legs.contract_line, specs.Legs.hour_of, specs.Posting.Posting, specs.Posting.posting_of, specs.Setting.Setting, specs.Setting.setting_of, proofs.Points.points_entry}
use Rattle.settlement.proofs.settings.Setting.fill_hour.Goals as goal

pub returns : goal.returns
returns g c =
    let p : Posting = posting_of c.args.checked.now.posting in
    let n = length p.lines in
    let setting : Setting = setting_of (g.F.ContractForm.meaning c.args.self.now.form.now) c.args.self.now in
    let own : ℕ → Holding = λ i. entry_of (own_of setting.agents p i) in
    let filled : c.fill_entries.new.fresh ≡ map own (range_with_len 0 n) = rw c.requires.agents at c.fill_entries.ensures in
    fill_by_all (λ i. entry_of (hour_of setting p i)) c.put_contracts.new.fresh n no_holding
    (omega (arith, c.put_contracts.auto.fresh, c.fill_entries.auto.fresh, c.requires.fresh_long))
    (λ i within.
    let legs = contract_line setting p i in
    c.put_contracts.ensures i (omega (arith, c.fill_entries.auto.fresh, c.requires.fresh_long))
    ∙ ap (λ entries. with_points legs (get_or entries i no_holding)) filled
    ∙ ap (with_points legs) (get_or-map-range_with_len own 0 n i i no_holding within (omega arith))
    ∙ points_entry legs (own_of setting.agents p i))
