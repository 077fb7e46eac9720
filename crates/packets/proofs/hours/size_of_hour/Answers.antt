use Rattle.std.proofs.Common.{◌≡◌, Err, length, ap, ◌∙◌, sym, arith, rules}
use Rattle.packets.specs.{Formats.sized, Formats.row, Formats.closed, Hours.packet_hour, HourPackets.heading_limits}
use Rattle.packets.proofs.HourSteps.{sized_hour, count_le, lines_checked, lines_checked_all}
use Rattle.packets.proofs.hours.size_of_hour.Goals as goal

pub returns-in_err-end : goal.returns-in_err-end
returns-in_err-end c =
    let is : c.from_residual.result ≡ Err c.in_err-end.field-0.0 = search rules in
    is ∙ sym (sized_hour (packet_hour c.args.hour c.args.price c.args.lines.now) _ _ c.heading_figures.ensures c.in_err-end.ensures.value)

pub loop-line-init : goal.loop-line-init
loop-line-init c =
    let lines = c.args.lines.now in
    record {
      checked = sized_hour (packet_hour c.args.hour c.args.price lines) _ _ c.heading_figures.ensures c.in_ok-end.ensures.value;
      near = c.in_ok-end.ensures.near;
      few = count_le c.args.hour c.args.price (length lines) c.in_ok-end.end (ap (λ vs. sized (row heading_limits closed) vs 0) (sym c.heading_figures.ensures) ∙ sym c.in_ok-end.ensures.value);
    }

pub returns-in_err-end-2 : goal.returns-in_err-end-2
returns-in_err-end-2 c =
    let is : c.from_residual-in_err-end-2.result ≡ Err c.in_err-end-2.field-0.0 = search rules in
    is ∙ sym (c.loop-line.invariant.checked ∙ lines_checked c.args.lines.now c.loop-line.line-index c.loop-line.end _ _ c.loop-line-test.true c.figures.ensures c.in_err-end-2.ensures.value)

pub loop-line-preserved : goal.loop-line-preserved
loop-line-preserved c = record {
  checked = c.loop-line.invariant.checked ∙ lines_checked c.args.lines.now c.loop-line.line-index c.loop-line.end _ _ c.loop-line-test.true c.figures.ensures c.in_ok-end-2.ensures.value;
  near = omega (arith, c.in_ok-end-2.ensures.near);
  few = c.loop-line.invariant.few;
}

pub returns : goal.returns
returns c = sym (c.loop-line.invariant.checked ∙ lines_checked_all c.args.lines.now c.loop-line.line-index c.loop-line.end c.loop-line-test.false)
