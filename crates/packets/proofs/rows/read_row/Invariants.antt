use Rattle.std.proofs.Common.{◌≡◌, ◌≤◌, ◌<◌, ◌+◌, ◌*◌, ℕ, List, length, take, drop, slice_index}
use Rattle.packets.specs.Formats.{Format, whole, row, most_at}
use Rattle.packets.proofs.RowSteps.{left}
use Rattle.packets.proofs.rows.read_row.Given as goal

abbrev pub invariant-loop-i : goal.invariant-loop-i
invariant-loop-i l = record {
  read : (next : List ℕ → Format) → whole (row l.limits next) l.bytes l.from ≡ left (drop l.i l.limits) next (take l.i l.figures) l.bytes l.at;
  near : l.at ≤ l.from + 10 * l.i;
  among : l.at ≤ length l.bytes;
  within : (k : ℕ) → k < l.i → slice_index l.figures k ≤ most_at l.limits k;
}
