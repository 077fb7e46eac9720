-- Where the same postings stand in two books, energies and peaks are the same. Assumes nothing.
use Rattle.std.proofs.Common.{◌≡◌, ℕ, ◌<◌, ap, arith}
use Rattle.tally.specs.{declared.money.MoneyLine.TheVariants.Power, Peak.peak_of, PeakLaws.peak_lawful, Lines.Lines, Lines.lines_joined, Lines.alone, Lines.balance_of}
use Rattle.tally.proofs.{Sums.total_over_same, Numbers.nat_lawful}
use Rattle.forms.specs.Meaning.{Meaning}
use Rattle.law.specs.{Requests.Opening, Requests.hours_in, Standing.Standing, Faults.withdrawn_in, Faults.withdrawn_of, Worked.lines_between, Worked.power_of, Worked.injected_in, Worked.injected_of, Worked.peak_for, Worked.worked}

module _ (o : Opening) (s t : Standing) (same : (hour : ℕ) → hour < hours_in o → s.posted hour ≡ t.posted hour) (i : ℕ) where
  -- what an agent injected
  injected_same : injected_of o s i ≡ injected_of o t i
  injected_same =
      total_over_same nat_lawful 0 (hours_in o) (λ hour. injected_in i (s.posted hour)) (λ hour. injected_in i (t.posted hour))
      (λ hour low within. ap (injected_in i) (same hour (omega arith)))

  -- what it withdrew
  pub withdrawn_same : withdrawn_of o s i ≡ withdrawn_of o t i
  withdrawn_same =
      total_over_same nat_lawful 0 (hours_in o) (λ hour. withdrawn_in i (s.posted hour)) (λ hour. withdrawn_in i (t.posted hour))
      (λ hour low within. ap (withdrawn_in i) (same hour (omega arith)))

  -- and its peak
  peak_same : peak_for o s i ≡ peak_for o t i
  peak_same =
      total_over_same peak_lawful 0 (hours_in o) (λ hour. peak_of (withdrawn_in i (s.posted hour)) hour) (λ hour. peak_of (withdrawn_in i (t.posted hour)) hour)
      (λ hour low within. ap (λ q. peak_of (withdrawn_in i q) hour) (same hour (omega arith)))

-- where the same postings stand, the lines of the hours and the power line tell whether two statements are the same
pub worked_same : (form other : Meaning) (o : Opening) (s t : Standing) → ((hour : ℕ) → hour < hours_in o → s.posted hour ≡ t.posted hour) → (i : ℕ) →
    lines_between form o s 0 (hours_in o) i ≡ lines_between other o t 0 (hours_in o) i → power_of o s i ≡ power_of o t i → worked form o s i ≡ worked other o t i
worked_same form other o s t same i lines power =
    λ x.
    let all : Lines = lines_joined (lines x) (alone Power (power x)) in
    record { lines = all; balance = balance_of all; injected = injected_same o s t same i x; withdrawn = withdrawn_same o s t same i x; peak = peak_same o s t same i x }
