use Rattle.std.proofs.Common.{map, sym, ◌∙◌, arith}
use Rattle.std.proofs.lemmas.List.{length-map, ext_get_or}
use Rattle.settlement.specs.{Lines.no_line, Packets.line_in}
use Rattle.settlement.proofs.packet_postings.PacketPosting.fill_lines.Goals as goal

pub returns : goal.returns
returns c =
    let long = c.loop-i.invariant.long in
    ext_get_or no_line c.loop-i.lines (map line_in c.args.read.now) (long ∙ sym (length-map c.args.read.now line_in))
    (λ k within. c.loop-i.invariant.filled k (omega (arith, long)))
