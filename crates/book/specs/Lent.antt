-- The memory that a call is lent, as one. Assumes nothing.
use Rattle.std.specs.Prelude.{◌≡◌, List, Option}
use Rattle.forms.specs.declared.Contract.{Contract}
use Rattle.settlement.specs.declared.agents.Agent.{Agent}
use Rattle.book.specs.{declared.memory.Pool.Pool, declared.memory.Ledger.Ledger, declared.memory.View.View, Memory.Memory, Memory.memory_of}

-- all memory, of a ledger with agents and contract places
abbrev pub memory_with : List Agent → List (Option Contract) → Ledger → Memory
memory_with agents contracts ledger =
    memory_of agents ledger.accounts.now contracts ledger.marks.now ledger.entries.now

-- all memory, of a pool and the ledger that belongs to it
abbrev pub memory_in : Pool → Ledger → Memory
memory_in pool ledger = memory_with pool.agents.now pool.contracts.now ledger

-- all memory, as it is looked into
abbrev pub memory_seen : View → Memory
memory_seen view =
    memory_of view.pool.agents.now view.accounts.now view.pool.contracts.now view.marks.now
    view.entries.now

-- a ledger lends the same places as before
abbrev pub SameLoan : (before after : Ledger) → Type 0
SameLoan before after =
    (after.accounts.ghost_name ≡ before.accounts.ghost_name)
    × (after.marks.ghost_name ≡ before.marks.ghost_name)
    × (after.entries.ghost_name ≡ before.entries.ghost_name)
