-- Entering and cancelling a contract. Assumes nothing.
use Rattle.std.specs.Prelude.{ℕ, ◌-◌, [], ◌∷◌, Some, None, Option, slice_set}
use Rattle.forms.specs.{declared.Contract.Contract, Meaning.Meaning}
use Rattle.settlement.specs.{declared.faults.BookFault.BookFault, ContractFaults.taken_fault, ContractFaults.vacant_fault, ContractFaults.contract_fault, ContractFaults.covered_fault, ContractFaults.covered_in, ContractFaults.place_at, Faults.first_met}
use Rattle.book.specs.{declared.months.MonthFigures.MonthFigures, Memory.Memory, Memory.is_posted, Memory.setting_in, Memory.memory_fault, Outcomes.Outcome, Outcomes.outcome}

-- memory with another content of a contract place
abbrev pub placed : (number : ℕ) → Option Contract → Memory → Memory
placed number c m = record m { contracts = slice_set m.contracts (number - 1) c }

-- the faults of entering a contract: its number, what it says, and at last a covered hour that
-- stands
abbrev pub enter_fault : Meaning → MonthFigures → ℕ → Contract → Memory → Option BookFault
enter_fault form f number c m =
    first_met (memory_fault form f m ∷ taken_fault m.contracts number
    ∷ contract_fault (setting_in form f m) c ∷ covered_fault (is_posted m.marks) c ∷ [])

abbrev pub entered : Meaning → MonthFigures → ℕ → Contract → Memory → Outcome (Unit {0})
entered form f number c m = outcome (enter_fault form f number c m) tt m (placed number (Some c) m)

-- the faults of cancelling one: its number, and at last a covered hour that stands
abbrev pub cancel_fault : Meaning → MonthFigures → (number : ℕ) → Memory → Option BookFault
cancel_fault form f number m =
    first_met (memory_fault form f m ∷ vacant_fault m.contracts number
    ∷ covered_in (is_posted m.marks) (place_at m.contracts number) ∷ [])

abbrev pub cancelled : Meaning → MonthFigures → (number : ℕ) → Memory → Outcome (Unit {0})
cancelled form f number m = outcome (cancel_fault form f number m) tt m (placed number None m)
