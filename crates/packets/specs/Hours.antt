-- What an hour packet says. Assumes nothing.
use Rattle.std.specs.Prelude.{ℕ, List}
use Rattle.packets.specs.declared.hours.PacketLine.{PacketLine}

-- how many lines a packet has at most, and how many places for lines a reader is lent at least
abbrev pub most_lines : ℕ
most_lines = 64

-- an hour, its price and its lines
pub record PacketHour : Type 0 where
  pub hour : ℕ
  pub price : ℕ
  pub lines : List PacketLine

-- the same, from its parts
abbrev pub packet_hour : (hour price : ℕ) → List PacketLine → PacketHour
packet_hour hour price lines = record { hour = hour; price = price; lines = lines }
