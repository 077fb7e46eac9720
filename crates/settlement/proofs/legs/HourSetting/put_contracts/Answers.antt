use Rattle.std.proofs.Common.{Bool, List, get_or, take, ℤ, None, Option, sym, ap, ◌∙◌, arith}
use Rattle.tally.{specs.Sums.int_sum_by, proofs.Failing.all_each, proofs.Numbers.int_sum_by_more}
use Rattle.forms.specs.declared.Contract.{Contract}
use Rattle.settlement.{specs.ContractFaults.place_fits, specs.Holdings.no_holding, specs.Holdings.with_points, specs.Legs.is_number, specs.Legs.given_in, specs.Posting.posting_of, specs.Setting.Setting, specs.Setting.setting_of, proofs.Points.points_none, proofs.Points.points_more}
use Rattle.settlement.proofs.legs.HourSetting.put_contracts.Goals as goal

pub loop-place-init : goal.loop-place-init
loop-place-init g c i within = sym (points_none (get_or c.args.fresh.now i no_holding))

pub put_place-requires : goal.put_place-requires
put_place-requires g c =
    let hour = c.args.self.now in
    let fits : Option Contract → Bool = place_fits (setting_of (g.F.ContractForm.meaning hour.setting.now.form.now) hour.setting.now) in
    record {
      fresh_long = omega (arith, c.requires.fresh_long, c.loop-place.auto.fresh);
      fits = all_each fits hour.setting.now.contracts.now c.loop-place.place-index None c.requires.fit c.loop-place-test.true;
    }

pub loop-place-preserved : goal.loop-place-preserved
loop-place-preserved g c i within =
    let hour = c.args.self.now in
    let setting : Setting = setting_of (g.F.ContractForm.meaning hour.setting.now.form.now) hour.setting.now in
    let given : Option Contract → ℤ = given_in (is_number i) setting (posting_of hour.posting) in
    let places : List (Option Contract) = setting.places in
    let k = c.loop-place.place-index in
    c.put_place.ensures i (omega (arith, c.loop-place.auto.fresh))
    ∙ ap (with_points (given (get_or places k None))) (c.loop-place.invariant i within)
    ∙ rw (int_sum_by_more given places k None c.loop-place-test.true)
    (points_more (int_sum_by given (take k places)) (given (get_or places k None)) (get_or c.args.fresh.now i no_holding))
