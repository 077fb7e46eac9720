-- The faults of packets by number and place. Assumes nothing.
use Rattle.std.specs.Prelude.{ℕ, Result, Ok, Err}
use Rattle.packets.specs.declared.faults.{ByteFault.ByteFault, ByteFault.TheVariants.Malformed, PacketFault.PacketFault, PacketFault.TheVariants.WrongSize, PacketFault.TheVariants.Bytes}

-- the number of a fault of bytes or figures
abbrev pub number_of : ByteFault → ℕ
number_of (Malformed place) = 17

-- its place
abbrev pub place_of : ByteFault → ℕ
place_of (Malformed place) = place

-- the number of a fault of bytes, figures or memory
abbrev pub packet_number : PacketFault → ℕ
packet_number WrongSize = 1
packet_number (Bytes fault) = number_of fault

-- its place
abbrev pub packet_place : PacketFault → ℕ
packet_place WrongSize = 0
packet_place (Bytes fault) = place_of fault

-- a fault of the bytes is carried whole
abbrev pub of_bytes : {A : Type 0} → Result A ByteFault → Result A PacketFault
of_bytes (Ok x) = Ok x
of_bytes (Err fault) = Err (Bytes fault)
