use Rattle.std.proofs.Common.{List, ℕ, ◌∙◌, sym, subst, take}
use Rattle.packets.specs.{Hours.packet_hour, HourPackets.hour_format, HourPackets.hour_figures, HourPackets.HourReadsBack}
use Rattle.packets.proofs.{Formats.whole_written, HourSteps.hour_back}
use Rattle.packets.proofs.hours.write_hour.Goals as goal

pub returns-clause-back : goal.returns-clause-back
returns-clause-back c =
    let h = packet_hour c.args.hour c.args.price c.args.lines.now in
    let P : List ℕ → Type 0 = λ output. HourReadsBack h (take c.in_ok-end.end output) in
    subst P (sym c.put_hour.ensures) (hour_back _ h (whole_written hour_format (hour_figures h) c.args.output.now c.in_ok-end.end (sym c.size_of_hour.ensures ∙ c.in_ok-end.was)))
