-- Tables of faults, and what a call comes to by them. Assumes nothing.
use Rattle.std.proofs.Common.{◌≡◌, ◌*◌, ◌≤◌, Bool, true, false, ◌||◌, eqb, List, [], ◌∷◌, length, Some, None, Ok, Err, Option, sym, ap, ◌∙◌}
use Rattle.std.specs.List.{list_all}
use Rattle.std.proofs.lemmas.Bool.{and_parts, eqb-true, leb-true}
use Rattle.forms.specs.{Meaning.Meaning, Limits.most_contracts}
use Rattle.settlement.specs.{declared.faults.BookFault.BookFault, declared.faults.BookFault.TheVariants.WrongSize, declared.faults.BookFault.TheVariants.StoredOutside, Agents.agent_fits, ContractFaults.place_fits, Holdings.all_withdrawn, Limits.most_month_energy, Faults.met_if, Faults.first_met}
use Rattle.valuation.specs.Limits.{most_energy}
use Rattle.settlement.proofs.FaultTables.{kept, first_met_none}
use Rattle.book.specs.{declared.months.MonthFigures.MonthFigures, Memory.Memory, Memory.setting_in, Memory.sized, Memory.stored_fits, Memory.mark_fits, Memory.energy_within, Memory.size_fault, Memory.stored_fault, Memory.memory_fault, Outcomes.outcome, Outcomes.outcome_of}
use Rattle.calendar.specs.Limits.{hours_of}

-- a row that is not met is passed over
pub next_row : {F : Type 0} (a : Option F) (rest : List (Option F)) (answer : Option F) → None ≡ a → first_met rest ≡ answer → first_met (a ∷ rest) ≡ answer
next_row None rest answer none is = is
next_row (Some g) rest answer none is = cc

-- and one that is met answers
pub this_row : {F : Type 0} (a : Option F) (rest : List (Option F)) (fault : F) → Some fault ≡ a → first_met (a ∷ rest) ≡ Some fault
this_row None rest fault met = cc
this_row (Some g) rest fault met = sym met

-- a row of two tests, where the first was looked at alone
pub first_meets : {F : Type 0} (a b : Bool) (fault met : F) → Some met ≡ met_if a fault → Some met ≡ met_if (a || b) fault
first_meets true b fault met is = is
first_meets false b fault met is = cc

-- a call that meets a fault is refused with it, and leaves all memory as it was
pub refused : {X : Type 0} (met : Option BookFault) (fault : BookFault) (x : X) (before after : Memory) → met ≡ Some fault →
    outcome_of (Err fault) before ≡ outcome met x before after
refused met fault x before after is = sym (ap (λ row. outcome row x before after) is)

-- one that meets none is done
pub accepted : {X : Type 0} (met : Option BookFault) (x : X) (before after memory : Memory) → met ≡ None → memory ≡ after →
    outcome_of (Ok x) memory ≡ outcome met x before after
accepted met x before after memory is holds = ap (outcome_of (Ok x)) holds ∙ sym (ap (λ row. outcome row x before after) is)

-- memory of the size of a book of these figures, part by part
pub record Sized (f : MonthFigures) (m : Memory) : Type 0 where
  pub agents_long : length m.agents ≡ f.agents
  pub accounts_long : length m.accounts ≡ f.agents
  pub contracts_long : length m.contracts ≡ most_contracts
  pub marks_long : length m.marks ≡ hours_of f.days
  pub entries_long : length m.entries ≡ f.agents * hours_of f.days

pub sized_parts : (f : MonthFigures) (m : Memory) → sized f m ≡ true → Sized f m
sized_parts f m is =
    let agents = and_parts (eqb (length m.agents) f.agents) _ is in
    let accounts = and_parts (eqb (length m.accounts) f.agents) _ agents.1 in
    let contracts = and_parts (eqb (length m.contracts) most_contracts) _ accounts.1 in
    let marks = and_parts (eqb (length m.marks) (hours_of f.days)) _ contracts.1 in
    record {
      agents_long = eqb-true _ _ agents.0;
      accounts_long = eqb-true _ _ accounts.0;
      contracts_long = eqb-true _ _ contracts.0;
      marks_long = eqb-true _ _ marks.0;
      entries_long = eqb-true _ _ marks.1;
    }

-- the memory of a month that no fault of memory is met in
pub record MemoryFits (form : Meaning) (f : MonthFigures) (m : Memory) : Type 0 where
  pub sizes : Sized f m
  pub contracts_fit : list_all (place_fits (setting_in form f m)) m.contracts ≡ true
  pub withdrawn_within : all_withdrawn m.accounts ≤ most_month_energy

pub memory_fits : (form : Meaning) (f : MonthFigures) (m : Memory) → None ≡ memory_fault form f m → MemoryFits form f m
memory_fits form f m none =
    let rows = first_met_none (size_fault f m ∷ stored_fault form f m ∷ []) (sym none) in
    let agents = and_parts (list_all agent_fits m.agents) _ (kept (stored_fits form f m) StoredOutside rows.1.0) in
    let contracts = and_parts (list_all (place_fits (setting_in form f m)) m.contracts) _ agents.1 in
    let marks = and_parts (list_all mark_fits m.marks) _ contracts.1 in
    let entries = and_parts (list_all (energy_within most_energy) m.entries) _ marks.1 in
    let accounts = and_parts (list_all (energy_within most_month_energy) m.accounts) _ entries.1 in
    record {
      sizes = sized_parts f m (kept (sized f m) WrongSize rows.0);
      contracts_fit = contracts.0;
      withdrawn_within = leb-true _ _ accounts.1;
    }
