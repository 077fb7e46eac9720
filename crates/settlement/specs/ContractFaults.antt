-- Contracts in a book: their parties, which of them may stand, and the faults of entering and cancelling one. Assumes nothing.
use Rattle.std.specs.Prelude.{ℕ, ◌+◌, ◌-◌, ◌≤◌, Bool, true, not, ◌&&◌, ◌||◌, List, [], ◌∷◌, length, is_some, is_none, Some, None, Option, min, nat_le, slice_index_or, All}
use Rattle.std.specs.{List.list_all, Option.option_map}
use Rattle.calendar.specs.Limits.{most_hours}
use Rattle.tally.specs.Failing.{first_failing}
use Rattle.forms.specs.{declared.Contract.Contract, declared.Parties.Parties, declared.Party.Party, Limits.most_contracts, Meaning.Meaning, Parties.party_numbers, Terms.parties_fit, Terms.hours_fit, Terms.figures_fit}
use Rattle.settlement.specs.{declared.agents.Agent.Agent, declared.faults.BookFault.BookFault, declared.faults.BookFault.TheVariants.ContractNumber, declared.faults.BookFault.TheVariants.ContractTerms, declared.faults.BookFault.TheVariants.CoveredHour, Agents.agent_at, Faults.met_if, Faults.first_met, Setting.Setting, Setting.hours_in}

-- an agent as a party to a contract: its role and its capacity
abbrev pub party_of : Agent → Party
party_of a = record { role = a.role; capacity = a.capacity }

-- the two parties to a contract, which names them by number
abbrev pub parties_of : List Agent → Contract → Parties
parties_of agents c = record {
  seller = party_of (agent_at agents (c.seller - 1));
  buyer = party_of (agent_at agents (c.buyer - 1));
}

-- an agent of the book, by number
abbrev pub in_book : List Agent → ℕ → Bool
in_book agents number = nat_le 1 number && nat_le number (length agents)

-- all parties to a contract are
abbrev pub all_in_book : List Agent → Contract → Bool
all_in_book agents c = list_all (in_book agents) (party_numbers c)

-- the parties to a contract are agents of a book of so many
abbrev pub PartiesKnown : (count : ℕ) → Contract → Type 0
PartiesKnown count c = All (λ number. (1 ≤ number) × (number ≤ count)) (party_numbers c)

-- 13: the contract may not stand in a month of so many hours: by its parties, which are agents of the book, by its hours, which are
-- those of the month, and of the longest month at most, or by its other figures and terms, which the form takes
abbrev pub contract_faults_in : Meaning → (hours : ℕ) → List Agent → Contract → List (Option BookFault)
contract_faults_in form hours agents c =
    let parties : Parties = parties_of agents c in
    met_if (not (all_in_book agents c && parties_fit c parties)) ContractTerms
    ∷ met_if (not (hours_fit (min hours most_hours) c)) ContractTerms
    ∷ met_if (not (figures_fit c && form.takes c parties)) ContractTerms ∷ []

-- the first of them
abbrev pub contract_fault_in : Meaning → (hours : ℕ) → List Agent → Contract → Option BookFault
contract_fault_in form hours agents c = first_met (contract_faults_in form hours agents c)

-- a contract may stand in such a month
abbrev pub contract_fits_in : Meaning → (hours : ℕ) → List Agent → Contract → Bool
contract_fits_in form hours agents c = is_none (contract_fault_in form hours agents c)

-- what is in a contract place may stand there
abbrev pub place_fits_in : Meaning → (hours : ℕ) → List Agent → Option Contract → Bool
place_fits_in form hours agents None = true
place_fits_in form hours agents (Some c) = contract_fits_in form hours agents c

-- 13 in a month: of the form, the hours and the agents that it is settled with
abbrev pub contract_faults : Setting → Contract → List (Option BookFault)
contract_faults setting = contract_faults_in setting.form (hours_in setting) setting.agents

-- the first of them
abbrev pub contract_fault : Setting → Contract → Option BookFault
contract_fault setting = contract_fault_in setting.form (hours_in setting) setting.agents

-- a contract may stand in the month
abbrev pub contract_fits : Setting → Contract → Bool
contract_fits setting = contract_fits_in setting.form (hours_in setting) setting.agents

-- what is in a contract place may stand in the month
abbrev pub place_fits : Setting → Option Contract → Bool
place_fits setting = place_fits_in setting.form (hours_in setting) setting.agents

-- a contract covers the hours from its first to its last
abbrev pub covers : Contract → ℕ → Bool
covers c hour = nat_le c.first hour && nat_le hour c.last

-- the contract that stands under a number, if any
abbrev pub place_at : List (Option Contract) → ℕ → Option Contract
place_at places number = slice_index_or places (number - 1) None

-- a number that contracts may have
abbrev pub number_known : ℕ → Bool
number_known number = nat_le 1 number && nat_le number most_contracts

-- 12 at entry: the number is none that contracts may have, or taken
abbrev pub taken_fault : List (Option Contract) → ℕ → Option BookFault
taken_fault places number =
    met_if (not (number_known number) || is_some (place_at places number)) ContractNumber

-- 12 at cancelling: the number is none that contracts may have, or nothing stands under it
abbrev pub vacant_fault : List (Option Contract) → ℕ → Option BookFault
vacant_fault places number =
    met_if (not (number_known number) || not (is_some (place_at places number))) ContractNumber

-- 14: the first covered hour that stands, where this tells which hours do
abbrev pub covered_fault : (ℕ → Bool) → Contract → Option BookFault
covered_fault stands c =
    let free : ℕ → Bool = λ hour. not (stands hour) in
    option_map (λ hour. CoveredHour hour) (first_failing free c.first (c.last + 1 - c.first))

-- 14 for what is in a contract place
abbrev pub covered_in : (ℕ → Bool) → Option Contract → Option BookFault
covered_in stands None = None
covered_in stands (Some c) = covered_fault stands c
