-- Posting an hour, from lines or from a packet. Assumes nothing.
use Rattle.std.specs.Prelude.{ℕ, List, [], ◌∷◌, Some, Ok, Err, Option, Result}
use Rattle.calendar.specs.Limits.{hours_of}
use Rattle.forms.specs.Meaning.{Meaning}
use Rattle.packets.specs.declared.faults.ByteFault.{ByteFault}
use Rattle.settlement.specs.{declared.faults.BookFault.BookFault, declared.faults.LineFault.TheVariants.Packet, declared.faults.BookFault.TheVariants.Posting as OfPosting, Faults.first_met, Holdings.entry_of, Legs.hour_of, Packets.posting_in, Posting.Posting, PostingFaults.posting_faults}
use Rattle.book.specs.{declared.months.MonthFigures.MonthFigures, Memory.Memory, Memory.setting_in, Memory.size_fault, Memory.memory_fault, Outcomes.Outcome, Outcomes.outcome, Rewriting.rewritten}

-- the faults of a posting, in the order of the numbers
abbrev pub post_fault : Meaning → MonthFigures → Posting → Memory → Option BookFault
post_fault form f p m = first_met (memory_fault form f m ∷ posting_faults (setting_in form f m) p)

abbrev pub posted : Meaning → MonthFigures → Posting → Memory → Outcome (Unit {0})
posted form f p m =
    outcome (post_fault form f p m) tt m
    (rewritten (hours_of f.days) p.hour 1 (λ i. entry_of (hour_of (setting_in form f m) p i)) m)

-- ---- from a packet

-- the faults of bytes that are no packet: the memory's size, and then what is wrong with the bytes
abbrev pub unread_fault : MonthFigures → ByteFault → Memory → Option BookFault
unread_fault f fault m = first_met (size_fault f m ∷ Some (OfPosting (Packet fault)) ∷ [])

abbrev pub unread : MonthFigures → ByteFault → Memory → Outcome (Unit {0})
unread f fault m = outcome (unread_fault f fault m) tt m m

-- a packet is posted as the posting that it says
abbrev pub read_posted :
    Meaning → MonthFigures → Result Posting ByteFault → Memory → Outcome (Unit {0})
read_posted form f (Ok p) m = posted form f p m
read_posted form f (Err fault) m = unread f fault m

abbrev pub packet_posted : Meaning → MonthFigures → (bytes : List ℕ) → Memory → Outcome (Unit {0})
packet_posted form f bytes m = read_posted form f (posting_in bytes) m
