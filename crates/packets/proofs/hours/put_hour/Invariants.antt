use Rattle.std.proofs.Common.{◌≡◌, length}
use Rattle.packets.specs.{Hours.packet_hour, Numbers.overwritten}
use Rattle.packets.proofs.HourSteps.{bytes_to}
use Rattle.packets.proofs.hours.put_hour.Given as goal

abbrev pub invariant-loop-line : goal.invariant-loop-line
invariant-loop-line l =
    let done = bytes_to (packet_hour l.hour l.price l.lines) l.line-index in
    record {
      at : l.at ≡ length done;
      output : l.output ≡ overwritten done l.fn.output;
    }
