-- An agent that is party to none of the standing contracts has the same statement without the contracts. Assumes nothing.
use Rattle.std.specs.List.{zip, list_any}
use Rattle.std.proofs.Common.{◌≡◌, ℕ, ◌<◌, Bool, true, false, cond, not, List, [], ◌∷◌, ℤ, pos, ◌+ℤ◌, Some, None, Option, sym, refl, ap, ◌∙◌}
use Rattle.std.proofs.lemmas.Bool.{cond_both, or_parts, not-true}
use Rattle.tally.specs.LinesLaws.{lines_lawful}
use Rattle.tally.proofs.{Sums.total_over_same, Sums.All-passing, Numbers.int_sum_by_zero}
use Rattle.forms.specs.{declared.Contract.Contract, Meaning.Meaning, Parties.party_numbers, Parties.points_of}
use Rattle.settlement.specs.{ContractFaults.covers, Posting.line_at, Posting.Posting, Setting.Setting, Legs.is_number, Legs.given_to, Legs.given_in, Legs.legs_of, Legs.contract_line, Hour.caused_sum, Hour.carried_by, Hour.figures_with}
use Rattle.law.specs.{Requests.Opening, Requests.count_in, Requests.hours_in, Requests.Request, Requests.without_contracts, Standing.Standing, Standing.nothing_stands, Standing.setting_in, Turns.after, Parties.is_party, Parties.is_stranger, Worked.figures_from, Worked.figures_at, Worked.worked}
use Rattle.law.proofs.{Apart.apart, Apart.from_apart, Postings.worked_same}

-- of legs by party, those that are none of the parties are given nothing
given_none : (member : ℕ → Bool) (numbers : List ℕ) (points : List ℤ) → list_any member numbers ≡ false → given_to member (zip numbers points) ≡ pos 0
given_none member [] points apart = refl
given_none member (number ∷ numbers) [] apart = refl
given_none member (number ∷ numbers) (leg ∷ points) apart =
    let parts = or_parts (member number) (list_any member numbers) apart in
    λ t. cond (parts.0 t) leg (pos 0) +ℤ given_none member numbers points parts.1 t

module _ (setting : Setting) (p : Posting) (i : ℕ) where
  -- a contract puts nothing on the contract line of an agent that is no party to it
  leg_none : (place : Option Contract) → is_party i place ≡ false → given_in (is_number i) setting p place ≡ pos 0
  leg_none None stranger = refl
  leg_none (Some c) stranger =
      cond_both (covers c p.hour) _ (pos 0) (λ z. z ≡ pos 0) (λ covered. given_none (is_number i) (party_numbers c) (points_of (legs_of setting p c)) stranger) (λ apart. refl)

  -- nor do all contracts together
  pub contract_line_none : is_stranger i setting.places ≡ true → contract_line setting p i ≡ pos 0
  contract_line_none stranger =
      int_sum_by_zero (given_in (is_number i) setting p) setting.places
      (All-passing (λ place. not (is_party i place)) _ setting.places stranger (λ place apart. leg_none place (not-true (is_party i place) apart)))

module _ (form : Meaning) (o : Opening) (i : ℕ) (s : Standing) (stranger : is_stranger i s.places ≡ true) where
  -- so its figures of an hour are the same without them
  figures_apart : (p : Option Posting) → figures_from (setting_in form o (apart s)) i p ≡ figures_from (setting_in form o s) i p
  figures_apart None = refl
  figures_apart (Some p) =
      ap (λ contract. figures_with p.price (line_at p.lines i) contract (caused_sum p i) (carried_by o.agents p i))
      (contract_line_none (setting_in form o (apart s)) p i refl ∙ sym (contract_line_none (setting_in form o s) p i stranger))

  -- and its statement
  worked_apart : worked form o (apart s) i ≡ worked form o s i
  worked_apart =
      worked_same form form o (apart s) s (λ hour within. refl) i
      (total_over_same lines_lawful 0 (hours_in o) (λ hour. (figures_at form o (apart s) i hour).lines) (λ hour. (figures_at form o s i hour).lines)
      (λ hour low within. ap (λ f. f.lines) (figures_apart (s.posted hour)))) refl

-- whatever was asked
pub strangers : (form : Meaning) (o : Opening) (requests : List Request) (i : ℕ) → i < count_in o → is_stranger i (after form o requests).places ≡ true →
    worked form o (after form o (without_contracts requests)) i ≡ worked form o (after form o requests) i
strangers form o requests i agent stranger =
    ap (λ s. worked form o s i) (from_apart form o nothing_stands requests) ∙ worked_apart form o i (after form o requests) stranger
