use Rattle.std.proofs.Common.{◌≡◌, ◌≤◌, ◌+◌, ◌*◌, ◌-◌, length, take}
use Rattle.packets.specs.{Formats.and_then, Formats.before, Formats.whole, HourPackets.lines_format, HourPackets.lines_figures}
use Rattle.packets.proofs.hours.read_lines.Given as goal

abbrev pub invariant-loop-i : goal.invariant-loop-i
invariant-loop-i l = record {
  read : whole (lines_format (length l.lines)) l.bytes l.from ≡ and_then (whole (lines_format (length l.lines - l.i)) l.bytes l.at) (before (lines_figures (take l.i l.lines)));
  near : l.at ≤ l.from + 70 * l.i;
  among : l.at ≤ length l.bytes;
}
