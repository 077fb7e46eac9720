-- The posting that an hour packet says. Assumes nothing.
use Rattle.std.specs.Prelude.{ℕ, List, map, take, Ok, Err, Result}
use Rattle.packets.specs.{declared.faults.ByteFault.ByteFault, declared.hours.PacketLine.PacketLine, Formats.and_then, Hours.PacketHour, HourPackets.hour_in}
use Rattle.settlement.specs.{declared.faults.LineFault.LineFault, declared.faults.LineFault.TheVariants.Packet, declared.lines.Line.Line, declared.packet_postings.PacketPosting.PacketPosting, Posting.Posting}

-- the line of a posting that the line of a packet says
abbrev pub line_in : PacketLine → Line
line_in l = record {
  class = l.class;
  cause = l.cause;
  injected = l.injected;
  withdrawn = l.withdrawn;
  gross = l.gross;
  factor = l.factor;
  cost = l.cost;
}

-- the posting that the hour of a packet is
abbrev pub posting_by : PacketHour → Posting
posting_by h = record { hour = h.hour; price = h.price; lines = map line_in h.lines }

-- what bytes say: the posting of the packet that they are, or the fault of bytes that are no packet
abbrev pub posting_in : List ℕ → Result Posting ByteFault
posting_in bytes = and_then (hour_in bytes) (λ h. Ok (posting_by h))

-- a fault of the bytes is carried whole
abbrev pub of_bytes : Result Posting ByteFault → Result Posting LineFault
of_bytes (Ok p) = Ok p
of_bytes (Err fault) = Err (Packet fault)

-- the posting that came as a packet: of its places for lines, so many are used
abbrev pub posting_with : PacketPosting → Posting
posting_with p = record { hour = p.hour; price = p.price; lines = take p.count p.lines }

-- what reading a packet answers, by the posting that it says
abbrev pub posting_read : Result PacketPosting LineFault → Result Posting LineFault
posting_read (Ok p) = Ok (posting_with p)
posting_read (Err fault) = Err fault
