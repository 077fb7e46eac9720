-- What contracts put on their parties' contract lines in an hour, and so all that it gives. Agents are counted from 0. Assumes nothing.
use Rattle.std.specs.Prelude.{ℕ, ◌+◌, ◌-◌, Bool, if◌then◌else◌, List, length, ℤ, pos, Some, None, Option, ◌==◌}
use Rattle.tally.specs.Sums.{int_sum_by, sum_to}
use Rattle.calendar.specs.Calendar.{band_in}
use Rattle.forms.specs.{declared.Contract.Contract, declared.Facts.Facts, declared.Legs.Legs, Meaning.hour_legs, Parties.legs_by_party, Roles.distributes}
use Rattle.settlement.specs.{declared.agents.Agent.Agent, declared.lines.Line.Line, Agents.agent_at, Agents.counted, ContractFaults.parties_of, ContractFaults.covers, Hour.caused_sum, Hour.carried_by, Hour.Figures, Hour.figures_with, Posting.Posting, Posting.line_at, Setting.Setting}

-- the energy that the agent at a place withdrew, if it is a distributor
abbrev pub distributed_at : List Agent → List Line → ℕ → ℕ
distributed_at agents lines j = counted distributes (agent_at agents j).role (line_at lines j).withdrawn

-- the energy that all distributors withdrew
abbrev pub distributors_withdrawn : List Agent → List Line → ℕ
distributors_withdrawn agents lines = sum_to (length lines) (distributed_at agents lines)

-- what a contract is settled by in an hour: the hour's band and price, both node factors, the seller's injected and the buyer's
-- withdrawn energy, and that of all distributors
abbrev pub facts_of : Setting → Posting → Contract → Facts
facts_of setting p c =
    let sold : Line = line_at p.lines (c.seller - 1) in
    let bought : Line = line_at p.lines (c.buyer - 1) in
    record {
      band = band_in setting.calendar p.hour;
      price = p.price;
      seller_factor = sold.factor;
      buyer_factor = bought.factor;
      injected = sold.injected;
      withdrawn = bought.withdrawn;
      distributors_withdrawn = distributors_withdrawn setting.agents p.lines;
    }

-- the legs of a contract in an hour
abbrev pub legs_of : Setting → Posting → Contract → Legs
legs_of setting p c = hour_legs setting.form c (parties_of setting.agents c) (facts_of setting p c)

-- of legs by party, what these agents are given together
abbrev pub given_to : (member : ℕ → Bool) → List (ℕ × ℤ) → ℤ
given_to member legs = int_sum_by (λ leg. if member leg.0 then leg.1 else pos 0) legs

-- of what a contract place comes to in an hour, what these agents are given together: of the legs of a contract that covers the hour
abbrev pub given_in : (member : ℕ → Bool) → Setting → Posting → Option Contract → ℤ
given_in member setting p None = pos 0
given_in member setting p (Some c) =
    if covers c p.hour then given_to member (legs_by_party c (legs_of setting p c)) else pos 0

-- the contract lines of these agents together: their legs of all contracts that cover the hour
abbrev pub contract_points_of : (member : ℕ → Bool) → Setting → Posting → ℤ
contract_points_of member setting p = int_sum_by (given_in member setting p) setting.places

-- the agent at place i alone, by its number
abbrev pub is_number : ℕ → ℕ → Bool
is_number i number = number == i + 1

-- the contract line of the agent at place i
abbrev pub contract_line : Setting → Posting → ℕ → ℤ
contract_line setting p i = contract_points_of (is_number i) setting p

-- what a posting gives the agent at place i
abbrev pub hour_of : Setting → Posting → ℕ → Figures
hour_of setting p i =
    let points : ℤ = contract_line setting p i in
    figures_with p.price (line_at p.lines i) points (caused_sum p i) (carried_by setting.agents p i)
