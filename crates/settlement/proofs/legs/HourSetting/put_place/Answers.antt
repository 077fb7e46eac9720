use Rattle.std.proofs.Common.{◌≡◌, ℤ, true, false, cond, get_or, pos, Some, Option, sym, ap, ◌∙◌, subst, arith}
use Rattle.forms.specs.{declared.Contract.Contract, Parties.legs_by_party}
use Rattle.settlement.{specs.ContractFaults.contract_fits, specs.ContractFaults.place_fits, specs.ContractFaults.covers, specs.Holdings.no_holding, specs.Holdings.with_points, specs.Legs.legs_of, specs.Legs.is_number, specs.Legs.given_to, specs.Legs.given_in, specs.Posting.Posting, specs.Posting.posting_of, specs.Setting.Setting, specs.Setting.setting_of, proofs.Points.points_none, proofs.Settles.fitting}
use Rattle.settlement.proofs.legs.HourSetting.put_place.Goals as goal

pub put_legs-requires : goal.put_legs-requires
put_legs-requires g c =
    let hour = c.args.self.now in
    let setting : Setting = setting_of (g.F.ContractForm.meaning hour.setting.now.form.now) hour.setting.now in
    let known = (fitting setting c.in-Some.contract (rw c.in-Some.is at c.requires.fits)).known in
    record {
      known = λ k d within. let each = known k d within in (each.0, omega (arith, each.1, hour.agents_long, c.requires.fresh_long));
      balanced = c.legs_of.ensures.balanced;
    }

pub returns-then-does_cover : goal.returns-then-does_cover
returns-then-does_cover g c i within =
    rw (c.in-Some.is, ← c.if-does_cover.ensures, ← c.legs_of.ensures.value) (c.put_legs.ensures i within)

pub returns-else-does_cover : goal.returns-else-does_cover
returns-else-does_cover g c i within = rw (c.in-Some.is, ← c.if-does_cover.ensures) (sym (points_none _))

pub returns-in_default : goal.returns-in_default
returns-in_default g c i within = rw c.in_default.is (sym (points_none _))
