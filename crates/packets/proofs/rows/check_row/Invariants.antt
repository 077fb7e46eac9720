use Rattle.std.proofs.Common.{◌≡◌, ◌≤◌, ◌+◌, ◌*◌, drop}
use Rattle.packets.specs.Formats.{row, closed, sized}
use Rattle.packets.proofs.rows.check_row.Given as goal

abbrev pub invariant-loop-i : goal.invariant-loop-i
invariant-loop-i l = record {
  checked : sized (row l.limits closed) l.figures l.from ≡ sized (row (drop l.i l.limits) closed) (drop l.i l.figures) l.at;
  near : l.at ≤ l.from + 10 * l.i;
}
