-- The faults by number and place, and how one of several is answered. Assumes nothing.
use Rattle.std.specs.Prelude.{ℕ, Bool, if◌then◌else◌, List, [], ◌∷◌, Some, None, Ok, Err, Option, Result}
use Rattle.packets.specs.Faults.{number_of as byte_number, place_of as byte_place}
use Rattle.settlement.specs.declared.faults.{LineFault.LineFault, LineFault.TheVariants.Packet, LineFault.TheVariants.HourOutside, LineFault.TheVariants.OutsideLimit, LineFault.TheVariants.BreaksRule, LineFault.TheVariants.TooMuchTogether, BookFault.BookFault, BookFault.TheVariants.WrongSize, BookFault.TheVariants.StoredOutside, BookFault.TheVariants.OutsideBook, BookFault.TheVariants.Posting, BookFault.TheVariants.NoCarrier, BookFault.TheVariants.FreeHour, BookFault.TheVariants.MissingHour, BookFault.TheVariants.NoPowerCarrier, BookFault.TheVariants.ContractNumber, BookFault.TheVariants.ContractTerms, BookFault.TheVariants.CoveredHour}

-- the number of a fault in a posting's bytes or its own figures
abbrev pub line_number : LineFault → ℕ
line_number (Packet fault) = byte_number fault
line_number (HourOutside hour) = 4
line_number (OutsideLimit place) = 5
line_number (BreaksRule place) = 6
line_number TooMuchTogether = 7

-- its place: the byte from 0, the hour, or the line from 1
abbrev pub line_place : LineFault → ℕ
line_place (Packet fault) = byte_place fault
line_place (HourOutside hour) = hour
line_place (OutsideLimit place) = place
line_place (BreaksRule place) = place
line_place TooMuchTogether = 0

-- the number of a fault
abbrev pub number_of : BookFault → ℕ
number_of WrongSize = 1
number_of StoredOutside = 2
number_of OutsideBook = 3
number_of (Posting fault) = line_number fault
number_of NoCarrier = 8
number_of (FreeHour hour) = 9
number_of (MissingHour hour) = 10
number_of NoPowerCarrier = 11
number_of ContractNumber = 12
number_of ContractTerms = 13
number_of (CoveredHour hour) = 14

-- its place
abbrev pub place_of : BookFault → ℕ
place_of WrongSize = 0
place_of StoredOutside = 0
place_of OutsideBook = 0
place_of (Posting fault) = line_place fault
place_of NoCarrier = 0
place_of (FreeHour hour) = hour
place_of (MissingHour hour) = hour
place_of NoPowerCarrier = 0
place_of ContractNumber = 0
place_of ContractTerms = 0
place_of (CoveredHour hour) = hour

-- a fault that is met where the test holds
abbrev pub met_if : {F : Type 0} → Bool → F → Option F
met_if test fault = if test then Some fault else None

-- the first fault of a list that is met, if any
abbrev pub first_met : {F : Type 0} → List (Option F) → Option F
first_met [] = None
first_met (None ∷ rows) = first_met rows
first_met (Some fault ∷ rows) = Some fault

-- a posting's own fault, as a fault of the book
abbrev pub of_posting : Option LineFault → Option BookFault
of_posting None = None
of_posting (Some fault) = Some (Posting fault)

-- a call that meets this fault, if any, is refused with it, and otherwise answers x
abbrev pub answer_of : {X F : Type 0} → X → Option F → Result X F
answer_of x None = Ok x
answer_of x (Some fault) = Err fault
