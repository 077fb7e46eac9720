-- What C is told. Assumes nothing.
use Rattle.std.specs.Prelude.{Option, Some, None}
use Rattle.meter.specs.{declared.faults.MeterFault.MeterFault, Faults.fault_number, Faults.fault_place}
use Rattle.packets.specs.{declared.faults.ByteFault.ByteFault, Faults.number_of, Faults.place_of}
use Rattle.billing.specs.declared.answers.Answer.{Answer}

-- a fault of a meter's day, by its number and its place
abbrev pub of_meter : MeterFault → Answer
of_meter fault = record { number = fault_number fault; place = fault_place fault }

-- a fault of a packet, by its number and its place
abbrev pub of_packet : ByteFault → Answer
of_packet fault = record { number = number_of fault; place = place_of fault }

-- a fault as it is told, or 0 and 0 where there is none
abbrev pub told : {F : Type 0} → (by_number : F → Answer) → Option F → Answer
told by_number None = record { number = 0; place = 0 }
told by_number (Some fault) = by_number fault
