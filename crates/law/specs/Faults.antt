-- The fault that a request meets against what stands. Assumes nothing.
use Rattle.std.specs.Prelude.{ℕ, not, ◌||◌, List, [], ◌∷◌, Some, None, Option, ◌==◌, nat_lt}
use Rattle.std.specs.Option.{option_map}
use Rattle.tally.specs.{Failing.first_failing, Sums.sum_to}
use Rattle.forms.specs.Meaning.{Meaning}
use Rattle.settlement.specs.{declared.faults.BookFault.BookFault, declared.faults.BookFault.TheVariants.Posting as PostingFault, declared.faults.BookFault.TheVariants.OutsideBook, declared.faults.BookFault.TheVariants.FreeHour, declared.faults.BookFault.TheVariants.MissingHour, declared.faults.BookFault.TheVariants.NoPowerCarrier, declared.faults.LineFault.TheVariants.Packet, ContractFaults.taken_fault, ContractFaults.vacant_fault, ContractFaults.covered_fault, ContractFaults.covered_in, ContractFaults.place_at, ContractFaults.contract_fault, Faults.met_if, Faults.first_met, Faults.of_posting, Posting.line_at, Posting.Posting, PostingFaults.hour_fault, PostingFaults.posting_fault, Power.power_uncarried}
use Rattle.law.specs.{Requests.Opening, Requests.count_in, Requests.hours_in, Requests.Request, Requests.posting, Requests.unread, Requests.withdrawal, Requests.entering, Requests.cancelling, Requests.closing, Requests.statement, Standing.Standing, Standing.stands, Standing.setting_in}

-- the energy that an agent, counted from 0, withdrew in an hour
abbrev pub withdrawn_in : ℕ → Option Posting → ℕ
withdrawn_in i None = 0
withdrawn_in i (Some p) = (line_at p.lines i).withdrawn

-- and in all standing hours
abbrev pub withdrawn_of : Opening → Standing → ℕ → ℕ
withdrawn_of o s i = sum_to (hours_in o) (λ hour. withdrawn_in i (s.posted hour))

-- the faults of a closing: an hour is missing, or nothing carries the power that is due
abbrev pub closing_faults : Opening → Standing → List (Option BookFault)
closing_faults o s =
    option_map (λ hour. MissingHour hour) (first_failing (stands s) 0 (hours_in o))
    ∷ met_if (power_uncarried o.agents (withdrawn_of o s)) NoPowerCarrier ∷ []

-- the first of them
abbrev pub closing_fault : Opening → Standing → Option BookFault
closing_fault o s = first_met (closing_faults o s)

-- the fault that a request meets, the smallest number first
abbrev pub fault_met : Meaning → Opening → Standing → Request → Option BookFault
fault_met form o s (posting p) = posting_fault (setting_in form o s) p
fault_met form o s (unread fault) = Some (PostingFault (Packet fault))
fault_met form o s (withdrawal hour) =
    first_met (of_posting (hour_fault (hours_in o) hour) ∷ met_if (not (stands s hour)) (FreeHour hour) ∷ [])
fault_met form o s (entering number c) =
    first_met (taken_fault s.places number ∷ contract_fault (setting_in form o s) c ∷ covered_fault (stands s) c ∷ [])
fault_met form o s (cancelling number) =
    first_met (vacant_fault s.places number ∷ covered_in (stands s) (place_at s.places number) ∷ [])
fault_met form o s closing = closing_fault o s
fault_met form o s (statement agent) = met_if (agent == 0 || nat_lt (count_in o) agent) OutsideBook
