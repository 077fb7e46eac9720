use Rattle.std.proofs.Common.{take}
use Rattle.tally.specs.Sums.{int_sum_by}
use Rattle.settlement.specs.{Holdings.EachGets, Legs.is_number, Legs.given_in, Posting.posting_of, Setting.Setting, Setting.setting_of}
use Rattle.settlement.proofs.legs.HourSetting.put_contracts.Given as goal

abbrev pub invariant-loop-place : goal.invariant-loop-place
invariant-loop-place g l =
    let setting : Setting = setting_of (g.F.ContractForm.meaning l.self.setting.now.form.now) l.self.setting.now in
    EachGets
    (λ i. int_sum_by (given_in (is_number i) setting (posting_of l.self.posting)) (take l.place-index l.self.setting.now.contracts.now))
    l.initial.fresh l.fresh
