use Rattle.std.proofs.Common.{◌≡◌, ◌<◌, ◌≢◌, Err, take, length, ap, ◌∙◌, sym, subst, arith, rules, below_more}
use Rattle.std.proofs.lemmas.List.{take_all, get_or-set_same, get_or-set_other}
use Rattle.packets.specs.Formats.{and_then, before, whole, row, RowRead}
use Rattle.packets.proofs.{Formats.before_none, RowSteps.row_more, RowSteps.row_fault, RowSteps.row_done}
use Rattle.packets.proofs.rows.read_row.Goals as goal

pub loop-i-init : goal.loop-i-init
loop-i-init c = record {
  read = λ next. before_none (whole (row c.args.limits.now next) c.args.bytes.now c.args.from);
  near = omega arith;
  among = c.requires.among;
  within = λ k h. absurd (omega arith);
}

pub returns-in_err-number-clause-read : goal.returns-in_err-number-clause-read
returns-in_err-number-clause-read c =
    let fault = c.in_err-number.field-0.0 in
    let is : c.from_residual.result ≡ Err fault = search rules in
    subst (RowRead c.args.limits.now c.args.bytes.now c.args.from c.loop-i.figures) (sym is) (record {
      goes_on = λ next. c.loop-i.invariant.read next ∙ row_fault c.args.limits.now next c.loop-i.i _ c.args.bytes.now c.loop-i.at fault c.loop-i-test.true (sym c.in_err-number.ensures.value);
    })

pub loop-i-preserved : goal.loop-i-preserved
loop-i-preserved c =
    let i = c.loop-i.i in
    let n = c.in_ok-number.number in
    let lf : i < length c.loop-i.figures = omega (arith, c.loop-i.auto.figures) in
    record {
      read = λ next. c.loop-i.invariant.read next ∙ row_more c.args.limits.now next i c.loop-i.figures c.args.bytes.now c.loop-i.at n c.loop-i-test.true lf (sym c.in_ok-number.ensures.value);
      near = omega (arith, c.in_ok-number.ensures.near);
      among = c.in_ok-number.ensures.among;
      within = below_more _ _
          (λ k h. let ne : k ≢ i = omega arith in rw get_or-set_other (c.loop-i.invariant.within k h))
          (rw (get_or-set_same c.loop-i.figures i n.value 0 lf) c.in_ok-number.ensures.within);
    }

pub returns-clause-read : goal.returns-clause-read
returns-clause-read c =
    let bytes = c.args.bytes.now in
    let at = c.loop-i.at in
    let all = take_all c.loop-i.i c.loop-i.figures (omega (arith, c.loop-i.auto.figures)) in
    record {
      goes_on = λ next. c.loop-i.invariant.read next ∙ row_done c.args.limits.now next c.loop-i.i (take c.loop-i.i c.loop-i.figures) bytes at c.loop-i-test.false
          ∙ ap (λ vs. and_then (whole (next vs) bytes at) (before vs)) all;
    }
