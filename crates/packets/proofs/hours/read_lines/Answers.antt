use Rattle.std.proofs.Common.{◌≡◌, ◌-◌, ◌<◌, ◌≤◌, ℕ, List, Ok, Err, length, take, ap, ◌∙◌, sym, subst, arith, rules, length-set}
use Rattle.std.proofs.lemmas.List.{take_all}
use Rattle.packets.specs.{Formats.Over, Formats.and_then, Formats.before, Formats.whole, Formats.RowRead, HourPackets.line_limits, HourPackets.lines_format, HourPackets.line_figures, HourPackets.lines_figures, HourPackets.LinesRead}
use Rattle.packets.proofs.{Formats.before_none, HourSteps.lines_more, HourSteps.lines_fault, HourSteps.lines_done}
use Rattle.packets.proofs.hours.read_lines.Goals as goal

sub_zero : (n : ℕ) → n - 0 ≡ n
sub_zero n = omega arith

pub loop-i-init : goal.loop-i-init
loop-i-init c = record {
  read = rw (sub_zero (length c.args.lines.now)) (before_none (whole (lines_format (length c.args.lines.now)) c.args.bytes.now c.args.from));
  near = omega arith;
  among = c.requires.among;
}

pub returns-in_err-at-clause-read : goal.returns-in_err-at-clause-read
returns-in_err-at-clause-read c =
    let n = length c.loop-i.lines in
    let fault = c.in_err-at.field-0.0 in
    let is : c.from_residual.result ≡ Err fault = search rules in
    subst (LinesRead c.args.bytes.now c.args.from c.loop-i.lines) (sym is) (record {
      goes_on = c.loop-i.invariant.read ∙ lines_fault n c.loop-i.i _ c.read_row.new.figures c.args.bytes.now c.loop-i.at fault (omega (arith, c.loop-i.auto.lines)) c.in_err-at.ensures.read;
    })

pub loop-i-preserved : goal.loop-i-preserved
loop-i-preserved c =
    let i = c.loop-i.i in
    let lines = c.loop-i.lines in
    let bytes = c.args.bytes.now in
    let l = c.of.result in
    let lt : i < length lines = omega (arith, c.loop-i.auto.lines) in
    let row : RowRead line_limits bytes c.loop-i.at (line_figures l) (Ok c.in_ok-at.at) =
    subst (λ (vs : List ℕ). RowRead line_limits bytes c.loop-i.at vs (Ok c.in_ok-at.at)) (sym c.of.ensures) c.in_ok-at.ensures.read in
    record {
      read = rw (length-set lines i l) (c.loop-i.invariant.read ∙ lines_more (length lines) i lines bytes c.loop-i.at c.in_ok-at.at l lt lt row);
      near = omega (arith, c.in_ok-at.ensures.near);
      among = c.in_ok-at.ensures.among;
    }

pub returns-clause-read : goal.returns-clause-read
returns-clause-read c =
    let i = c.loop-i.i in
    let lines = c.loop-i.lines in
    let past : length lines ≤ i = omega (arith, c.loop-i.auto.lines) in
    record {
      goes_on = c.loop-i.invariant.read ∙ lines_done (length lines) i (take i lines) c.args.bytes.now c.loop-i.at past
          ∙ ap (λ ls. and_then (whole Over c.args.bytes.now c.loop-i.at) (before (lines_figures ls))) (take_all i lines past);
    }
