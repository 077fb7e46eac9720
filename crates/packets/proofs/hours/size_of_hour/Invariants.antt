use Rattle.std.proofs.Common.{◌≡◌, ◌≤◌, ◌+◌, ◌*◌, ◌-◌, length, drop}
use Rattle.packets.specs.{Formats.sized, Hours.packet_hour, Hours.most_lines, HourPackets.hour_format, HourPackets.hour_figures, HourPackets.lines_format, HourPackets.lines_figures}
use Rattle.packets.proofs.hours.size_of_hour.Given as goal

abbrev pub invariant-loop-line : goal.invariant-loop-line
invariant-loop-line l = record {
  checked : sized hour_format (hour_figures (packet_hour l.hour l.price l.lines)) 0 ≡ sized (lines_format (length l.lines - l.line-index)) (lines_figures (drop l.line-index l.lines)) l.end;
  near : l.end ≤ 30 + 70 * l.line-index;
  few : length l.lines ≤ most_lines;
}
