use Rattle.std.proofs.Common.{◌≡◌, ◌≤◌, Ok, Err, Result, List, ℕ, length, ap, ◌∙◌, sym, subst, arith, rules, lit<, slice_index}
use Rattle.std.proofs.lemmas.List.{length-take-le, take_at}
use Rattle.packets.specs.{declared.faults.ByteFault.ByteFault, declared.hours.PacketLine.PacketLine, Formats.and_then, Formats.whole, Hours.PacketHour, Hours.packet_hour, HourPackets.hour_format, HourPackets.hour_figures, HourPackets.hour_of, HourPackets.HourSpelledOnce}
use Rattle.packets.proofs.{Formats.spells, Formats.left_over, HourSteps.hour_head, HourSteps.hour_lines, HourSteps.hour_whole, HourSteps.hour_is}
use Rattle.packets.proofs.hours.HourPacket.read.Goals as goal

-- the hour of figures that were read, or the fault of the bytes
abbrev said : Result (List ℕ) ByteFault → Result PacketHour ByteFault
said w = and_then w (λ figures. Ok (hour_of figures))

pub returns-in_err-from-clause-value : goal.returns-in_err-from-clause-value
returns-in_err-from-clause-value c =
    let is : c.from_residual.result ≡ Err c.in_err-from.field-0.0 = search rules in
    is ∙ sym (ap said (hour_head c.args.bytes.now _ _ c.in_err-from.ensures.read))

pub returns-in_err-end-clause-value : goal.returns-in_err-end-clause-value
returns-in_err-end-clause-value c =
    let is : c.from_residual-in_err-end.result ≡ Err c.in_err-end.field-0.0 = search rules in
    let few : slice_index c.read_row.new.figures 2 ≤ 64 = c.in_ok-from.ensures.within 2 (lit< tt) in
    let counted = c.read_lines.auto.lines ∙ length-take-le (slice_index c.read_row.new.figures 2) _ (omega (arith, few)) in
    is ∙ sym (ap said (hour_lines c.args.bytes.now _ _ _ _ c.in_ok-from.ensures.read counted c.in_err-end.ensures.read))

pub returns-then-end-bytes-clause-value : goal.returns-then-end-bytes-clause-value
returns-then-end-bytes-clause-value c =
    let few : slice_index c.read_row.new.figures 2 ≤ 64 = c.in_ok-from.ensures.within 2 (lit< tt) in
    let counted = c.read_lines.auto.lines ∙ length-take-le (slice_index c.read_row.new.figures 2) _ (omega (arith, few)) in
    sym (ap said (hour_lines c.args.bytes.now _ _ _ _ c.in_ok-from.ensures.read counted c.in_ok-end.ensures.read ∙ left_over c.args.bytes.now _ _ _ c.if-end-bytes.true))

-- as many lines were read as the heading counts
counted : (c : goal.Else-end-bytes) → length c.read_lines.new.lines ≡ slice_index c.read_row.new.figures 2
counted c =
    let few : slice_index c.read_row.new.figures 2 ≤ 64 = c.in_ok-from.ensures.within 2 (lit< tt) in
    c.read_lines.auto.lines ∙ length-take-le (slice_index c.read_row.new.figures 2) _ (omega (arith, few))

-- what the packet says
hour : goal.Else-end-bytes → PacketHour
hour c = packet_hour (slice_index c.read_row.new.figures 0) (slice_index c.read_row.new.figures 1) c.read_lines.new.lines

known : (c : goal.Else-end-bytes) → whole hour_format c.args.bytes.now 0 ≡ Ok (hour_figures (hour c))
unfolding hour
known c = hour_whole c.args.bytes.now _ _ _ _ c.in_ok-from.ensures.read (counted c) c.in_ok-end.ensures.read c.if-end-bytes.false (omega arith)

pub returns-clause-value : goal.returns-clause-value
unfolding hour
returns-clause-value c =
    let figures = c.read_row.new.figures in
    ap (λ ls. Ok (packet_hour (slice_index figures 0) (slice_index figures 1) ls)) (take_at c.read_lines.new.lines _ (slice_index figures 2) (counted c))
    ∙ sym (hour_is c.args.bytes.now (hour c) (known c))

pub returns-clause-once : goal.returns-clause-once
unfolding hour
returns-clause-once c =
    let figures = c.read_row.new.figures in
    let P : List PacketLine → Type 0 = λ ls. HourSpelledOnce (packet_hour (slice_index figures 0) (slice_index figures 1) ls) c.args.bytes.now in
    subst P (sym (take_at c.read_lines.new.lines _ (slice_index figures 2) (counted c)))
    (spells hour_format (hour_figures (hour c)) c.args.bytes.now c.type_inv.bytes (known c))
