use Rattle.std.proofs.Common.{ℕ, [], ◌∷◌, ◌++◌, ◌-◌, length, take, drop, get_or, ap, ◌∙◌, sym, arith}
use Rattle.std.specs.List.{flat_map}
use Rattle.std.proofs.lemmas.List.{length-take, length-drop, length-append, append-nil, take_all, Folds.length-flat_map-take}
use Rattle.packets.specs.{Hours.packet_hour, Numbers.overwritten, Formats.spelled_all}
use Rattle.packets.proofs.{RowSteps.over_next, HourSteps.no_line, HourSteps.line_bytes, HourSteps.bytes_to, HourSteps.bytes_next, HourSteps.hour_spelled}
use Rattle.packets.proofs.hours.put_hour.Goals as goal

pub loop-line-init : goal.loop-line-init
loop-line-init c =
    let head = spelled_all (c.args.hour ∷ c.args.price ∷ length c.args.lines.now ∷ []) in
    let is = ap spelled_all c.heading_figures.ensures ∙ sym (append-nil head) in
    record {
      at = c.write_row-at.ensures.value ∙ ap length is;
      output = c.write_row-at.ensures.output ∙ ap (λ bytes. overwritten bytes c.args.output.now) is;
    }

pub write_row-at-requires-in-loop-line : goal.write_row-at-requires-in-loop-line
write_row-at-requires-in-loop-line c =
    let lines = c.args.lines.now in
    let i = c.loop-line.line-index in
    let head = spelled_all (c.args.hour ∷ c.args.price ∷ length lines ∷ []) in
    omega (
      arith,
      ap length (hour_spelled (packet_hour c.args.hour c.args.price lines)),
      length-append head (flat_map line_bytes lines),
      length-append head (flat_map line_bytes (take i lines)),
      length-flat_map-take line_bytes lines i no_line c.loop-line-test.true,
      ap (λ vs. length (spelled_all vs)) c.figures.ensures,
      length-take {A = ℕ},
      length-drop {A = ℕ},
    )

pub loop-line-preserved : goal.loop-line-preserved
loop-line-preserved c =
    let h = packet_hour c.args.hour c.args.price c.args.lines.now in
    let i = c.loop-line.line-index in
    let old = c.loop-line.output in
    let at = c.loop-line.at in
    let next = line_bytes (get_or c.args.lines.now i no_line) in
    let more = bytes_next h i c.loop-line-test.true in
    let new = c.write_row-at-in-loop-line.ensures.output ∙ ap (λ vs. overwritten (spelled_all vs) (take (length old - at) (drop at old))) c.figures.ensures in
    record {
      at = omega (arith, ap length more, length-append (bytes_to h i) next, ap (λ vs. length (spelled_all vs)) c.figures.ensures);
      output = over_next (bytes_to h i) next c.args.output.now old _ at c.loop-line.invariant.output c.loop-line.invariant.at new ∙ ap (λ bytes. overwritten bytes c.args.output.now) (sym more);
    }

pub returns : goal.returns
returns c =
    let h = packet_hour c.args.hour c.args.price c.args.lines.now in
    let head = spelled_all (c.args.hour ∷ c.args.price ∷ length c.args.lines.now ∷ []) in
    let all = take_all c.loop-line.line-index c.args.lines.now c.loop-line-test.false in
    c.loop-line.invariant.output ∙ ap (λ bytes. overwritten bytes c.args.output.now) (ap (λ ls. head ++ flat_map line_bytes ls) all ∙ sym (hour_spelled h))
