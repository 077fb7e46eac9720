use Rattle.std.proofs.Common.{◌<◌, ◌≢◌, length, get_or, ap, ◌∙◌, arith, below_more}
use Rattle.std.proofs.lemmas.List.{FromFn.fill_by_all, get_or_read, get_or-set_same, get_or-set_other}
use Rattle.tally.specs.Peak.{peak_of, no_peak}
use Rattle.settlement.specs.Holdings.{Holding, no_holding}
use Rattle.book.proofs.views.fill_peaks.Goals as goal

pub loop-hour-preserved : goal.loop-hour-preserved
loop-hour-preserved c =
    let hour = c.loop-hour.hour in
    below_more _ _
    (λ k h. let ne : k ≢ hour = omega arith in rw get_or-set_other (c.loop-hour.invariant k h))
    (let lt : hour < length c.loop-hour.peaks = omega arith in
    get_or-set_same c.loop-hour.peaks hour c.of.result no_peak lt
    ∙ c.of.ensures
    ∙ ap (λ (e : Holding). peak_of e.second.withdrawn hour) (get_or_read c.args.month.now hour c.index-month-hour.result c.loop-hour-test.true c.index-month-hour.is no_holding))

pub returns : goal.returns
returns c =
    fill_by_all (λ hour. peak_of (get_or c.args.month.now hour no_holding).second.withdrawn hour) c.loop-hour.peaks (length c.args.month.now) no_peak (omega (arith, c.loop-hour.auto.peaks))
    (λ k below. c.loop-hour.invariant k (omega arith))
