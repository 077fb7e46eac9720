-- What a host lends of a book, as one. Assumes nothing.
use Rattle.std.specs.Prelude.{◌≡◌}
use Rattle.book.specs.{Lent.memory_with, Lent.SameLoan as SameLedger, Memory.Memory}
use Rattle.runs.specs.declared.lent.Lent.{Lent}

-- all memory that is lent
abbrev pub memory_in : Lent → Memory
memory_in lent = memory_with lent.agents.now lent.contracts.now lent.ledger

-- the same places are lent as before
abbrev pub SameLoan : (before after : Lent) → Type 0
SameLoan before after =
    (after.agents ≡ before.agents)
    × (after.contracts.ghost_name ≡ before.contracts.ghost_name)
    × SameLedger before.ledger after.ledger
