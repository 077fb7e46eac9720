use Rattle.std.proofs.Common.{◌≡◌, map, length, ℕ, ◌<◌, get_or}
use Rattle.settlement.specs.{Lines.no_line, Packets.line_in}
use Rattle.settlement.proofs.packet_postings.PacketPosting.fill_lines.Given as goal

abbrev pub invariant-loop-i : goal.invariant-loop-i
invariant-loop-i l = record {
  long : length l.lines ≡ length l.read;
  filled : (k : ℕ) → k < l.i → get_or l.lines k no_line ≡ get_or (map line_in l.read) k no_line;
}
