use Rattle.std.proofs.Common.{ℕ, Bool, not, sym, ap, ◌∙◌}
use Rattle.std.specs.Option.{option_map}
use Rattle.std.proofs.lemmas.Bool.{eq-eqb, ne_eqb}
use Rattle.settlement.specs.declared.faults.BookFault.TheVariants.{CoveredHour}
use Rattle.tally.proofs.Failing.{first_more, first_here, first_none}
use Rattle.book.specs.Memory.{is_posted}
use Rattle.book.proofs.entering.check_covered.Goals as goal

pub returns-then-marks-hour-ne-FREE : goal.returns-then-marks-hour-ne-FREE
returns-then-marks-hour-ne-FREE c =
    let free : ℕ → Bool = λ hour. not (is_posted c.args.marks.now hour) in
    ap (option_map (λ hour. CoveredHour hour))
    (sym (first_here free c.loop-hour.hour _ c.loop-hour-test.true (ap (λ b. not (not b)) (ne_eqb _ 0 c.if-marks-hour-ne-FREE.true)))
    ∙ c.loop-hour.invariant)

pub loop-hour-preserved : goal.loop-hour-preserved
loop-hour-preserved c =
    let free : ℕ → Bool = λ hour. not (is_posted c.args.marks.now hour) in
    sym (first_more free c.loop-hour.hour _ c.loop-hour-test.true (ap (λ b. not (not b)) (eq-eqb _ 0 c.if-marks-hour-ne-FREE.false)))
    ∙ c.loop-hour.invariant

pub returns : goal.returns
returns c =
    let free : ℕ → Bool = λ hour. not (is_posted c.args.marks.now hour) in
    ap (option_map (λ hour. CoveredHour hour)) (sym (first_none free c.loop-hour.hour _ c.loop-hour-test.false) ∙ c.loop-hour.invariant)
