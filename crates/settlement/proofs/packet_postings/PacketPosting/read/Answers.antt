use Rattle.std.proofs.Common.{◌≡◌, ℕ, List, map, length, Result, Ok, ap, ◌∙◌}
use Rattle.std.proofs.lemmas.List.{length-map, take_at}
use Rattle.packets.specs.Formats.{and_then}
use Rattle.settlement.specs.{declared.faults.LineFault.LineFault, declared.lines.Line.Line, Packets.line_in, Packets.posting_by, Packets.of_bytes, Posting.Posting}
use Rattle.settlement.proofs.packet_postings.PacketPosting.read.Goals as goal

pub returns : goal.returns
returns c =
    let packet = c.in_ok-packet.packet in
    let read = c.lines-read.result.now in
    let posted : ℕ → ℕ → List Line → Result Posting LineFault = λ hour price lines. Ok (record { hour = hour; price = price; lines = lines }) in
    let is : c.fill_lines.new.lines ≡ map line_in packet.lines = c.fill_lines.ensures ∙ ap (map line_in) c.lines-read.ensures.value in
    ap (posted c.hour.result c.price.result) (take_at c.fill_lines.new.lines _ (length read) (ap length c.fill_lines.ensures ∙ length-map read line_in) ∙ is)
    ∙ (λ k. posted (c.hour.ensures k) (c.price.ensures k) (map line_in packet.lines))
    ∙ ap (λ w. of_bytes (and_then w (λ h. Ok (posting_by h)))) c.in_ok-packet.ensures.value
