use Rattle.std.proofs.Common.{◌+◌, true, false, get_or, drop, ap, ◌∙◌, sym, arith}
use Rattle.packets.specs.Formats.{row, closed, sized}
use Rattle.packets.proofs.{Spelling.spelled_ten, RowSteps.sized_next, RowSteps.sized_all}
use Rattle.packets.proofs.rows.check_row.Goals as goal

pub returns-then-not-has-clause-value : goal.returns-then-not-has-clause-value
returns-then-not-has-clause-value c =
    sym (c.loop-i.invariant.checked ∙ sized_next c.args.limits.now c.loop-i.i c.args.figures.now c.loop-i.at false c.loop-i-test.true (omega arith) (sym c.has.ensures ∙ c.if-not-has.true))

pub loop-i-preserved : goal.loop-i-preserved
loop-i-preserved c =
    let i = c.loop-i.i in
    record {
      checked = c.loop-i.invariant.checked
          ∙ sized_next c.args.limits.now i c.args.figures.now c.loop-i.at true c.loop-i-test.true (omega arith) (sym c.has.ensures ∙ c.if-not-has.false)
          ∙ ap (λ k. sized (row (drop (i + 1) c.args.limits.now) closed) (drop (i + 1) c.args.figures.now) (c.loop-i.at + k)) (sym c.size_of_number-at.ensures);
      near = omega (arith, spelled_ten (get_or c.args.figures.now i 0) (c.type_inv.figures i).fits);
    }

pub returns-clause-value : goal.returns-clause-value
returns-clause-value c =
    sym (c.loop-i.invariant.checked ∙ sized_all c.args.limits.now c.loop-i.i c.args.figures.now c.loop-i.at c.loop-i-test.false (omega arith))
