use Rattle.std.proofs.Common.{◌≡◌, length, take}
use Rattle.packets.specs.{Numbers.overwritten, Formats.spelled_all}
use Rattle.packets.proofs.rows.write_row.Given as goal

abbrev pub invariant-loop-figure : goal.invariant-loop-figure
invariant-loop-figure l = record {
  at : l.at ≡ length (spelled_all (take l.figure-index l.figures));
  output : l.output ≡ overwritten (spelled_all (take l.figure-index l.figures)) l.initial.output;
}
