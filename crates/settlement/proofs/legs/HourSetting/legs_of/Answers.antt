use Rattle.std.proofs.Common.{sym}
use Rattle.forms.specs.{Meaning.MayAsk}
use Rattle.settlement.{specs.Posting.posting_of, specs.Setting.Setting, specs.Setting.setting_of, proofs.Settles.fitting, proofs.Settles.settles}
use Rattle.settlement.proofs.legs.HourSetting.legs_of.Goals as goal

pub new-hour-requires : goal.new-hour-requires
new-hour-requires g c =
    let hour = c.args.self.now in
    let setting : Setting = setting_of (g.F.ContractForm.meaning hour.setting.now.form.now) hour.setting.now in
    let settled : MayAsk setting.form c.args.contract c.parties-parties.result c.facts.result = rw (c.parties-parties.ensures, c.facts.ensures)
    (settles setting (posting_of hour.posting) c.args.contract (sym hour.agents_long) hour.fits c.requires) in
    record { valid = settled.valid; measured = settled.measured }

pub settle_hour-requires : goal.settle_hour-requires
settle_hour-requires g c =
    let hour = c.args.self.now in
    let setting : Setting = setting_of (g.F.ContractForm.meaning hour.setting.now.form.now) hour.setting.now in
    rw (c.new-hour.ensures.terms, c.new-hour.ensures.parties, c.parties-parties.ensures) (fitting setting c.args.contract c.requires).taken
