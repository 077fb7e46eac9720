-- A contract that may stand, in an hour whose posting fits, may be asked of its form by the facts of that hour. Assumes nothing.
use Rattle.std.proofs.Common.{◌≡◌, ℕ, ◌+◌, ◌-◌, ◌<◌, ◌≤◌, min, true, false, ◌&&◌, leb, List, length, inl, inr, arith}
use Rattle.std.{specs.List.list_all, proofs.lemmas.Bool.cases_Bool, proofs.lemmas.Bool.and_parts, proofs.lemmas.Bool.leb-true, proofs.lemmas.Bool.le-leb, proofs.lemmas.Bool.cond-true, proofs.lemmas.Bool.cond-false, proofs.lemmas.Bool.Decides.nat_tests, proofs.lemmas.List.Elements.All-weaker, proofs.lemmas.List.Sums.AllPass-from_list_all}
use Rattle.calendar.specs.Limits.{most_hours}
use Rattle.forms.specs.{declared.Contract.Contract, declared.Facts.Facts, declared.Parties.Parties, Known.valid_of, Known.measured_of, Known.hours_fit_longest, Meaning.MayAsk, Measured.prices_fit, Measured.withdrawn_fits, Measured.Measured, Parties.party_numbers, Roles.distributes, Roles.has_role, Terms.number_fits, Terms.numbers_apart, Terms.parties_fit, Terms.hours_fit, Terms.figures_fit}
use Rattle.valuation.specs.Limits.{most_energy}
use Rattle.settlement.{specs.declared.agents.Agent.Agent, specs.declared.lines.Line.Line, specs.Agents.agent_at, specs.ContractFaults.parties_of, specs.ContractFaults.in_book, specs.ContractFaults.PartiesKnown, specs.ContractFaults.contract_faults, specs.ContractFaults.contract_fault, specs.ContractFaults.contract_fits, specs.Legs.distributed_at, specs.Legs.distributors_withdrawn, specs.Legs.facts_of, specs.Posting.Posting, specs.Posting.line_at, specs.PostingFaults.withdrawn_together, specs.PostingFaults.PostingFits, specs.Setting.Setting, specs.Setting.hours_in, proofs.Bounds.within_limits, proofs.FaultTables.kept, proofs.FaultTables.NoneMet, proofs.FaultTables.first_met_none, proofs.FaultTables.none_is, proofs.Sharing.counted_le}
use Rattle.tally.proofs.Numbers.{sum_to_mono, sum_to_item_le, sum_to_spare}

-- ---- a contract that may stand

-- what it is known to be
pub record Fitting (setting : Setting) (c : Contract) : Type 0 where
  pub known : PartiesKnown (length setting.agents) c
  pub between : parties_fit c (parties_of setting.agents c) ≡ true
  pub apart : numbers_apart (party_numbers c) ≡ true
  pub hours : hours_fit (hours_in setting) c ≡ true
  pub longest : hours_fit most_hours c ≡ true
  pub figures : figures_fit c ≡ true
  pub taken : setting.form.takes c (parties_of setting.agents c) ≡ true

-- numbers of the book are 1 to its number of agents
numbers_known : (agents : List Agent) (c : Contract) → list_all (in_book agents) (party_numbers c) ≡ true → PartiesKnown (length agents) c
numbers_known agents c held =
    All-weaker (λ number. in_book agents number ≡ true) (λ number. (1 ≤ number) × (number ≤ length agents))
    (λ number in_it. let parts = and_parts (leb 1 number) (leb number (length agents)) in_it in (leb-true 1 number parts.0, leb-true number (length agents) parts.1))
    (party_numbers c) (AllPass-from_list_all (in_book agents) (party_numbers c) held)

-- hours within fewer hours are within them all
hours_fit_all : (fewer hours : ℕ) (c : Contract) → fewer ≤ hours → hours_fit fewer c ≡ true → hours_fit hours c ≡ true
hours_fit_all fewer hours c within fits = grind (arith, nat_tests)

pub fitting : (setting : Setting) (c : Contract) → contract_fits setting c ≡ true → Fitting setting c
fitting setting c fits =
    let parties = parties_of setting.agents c in
    let none : NoneMet (contract_faults setting c) = first_met_none (contract_faults setting c) (none_is (contract_fault setting c) fits) in
    let between = and_parts _ (parties_fit c parties) (kept _ _ none.0) in
    let fewer = min (hours_in setting) most_hours in
    let hours : hours_fit fewer c ≡ true = kept _ _ none.1.0 in
    let others = and_parts (figures_fit c) (setting.form.takes c parties) (kept _ _ none.1.1.0) in
    record {
      known = numbers_known setting.agents c between.0;
      between = between.1;
      apart = (and_parts (list_all number_fits (party_numbers c)) _ (and_parts (list_all number_fits (party_numbers c) && numbers_apart (party_numbers c)) _ between.1).0).1;
      hours = hours_fit_all fewer (hours_in setting) c (omega arith) hours;
      longest = hours_fit_longest fewer c (omega arith) hours;
      figures = others.0;
      taken = others.1;
    }

-- ---- the distributors' energy

module _ (agents : List Agent) (lines : List Line) where
  distributed_each : (j : ℕ) → j < length lines → distributed_at agents lines j ≤ (line_at lines j).withdrawn
  distributed_each j below = counted_le distributes (agent_at agents j).role (line_at lines j).withdrawn

  pub distributors_le : distributors_withdrawn agents lines ≤ withdrawn_together lines
  distributors_le = sum_to_mono (length lines) (distributed_at agents lines) (λ j. (line_at lines j).withdrawn) distributed_each

  -- a distributor's own energy is among that of all distributors
  distributors_among : (k : ℕ) → k < length lines → has_role distributes (agent_at agents k).role ≡ true → (line_at lines k).withdrawn ≤ distributors_withdrawn agents lines
  distributors_among k within is =
      omega (arith, cond-true (has_role distributes (agent_at agents k).role) (line_at lines k).withdrawn 0 is, sum_to_item_le (length lines) (distributed_at agents lines) k within)

  -- and that of anybody else comes on top of it
  distributors_apart : (k : ℕ) → k < length lines → has_role distributes (agent_at agents k).role ≡ false →
      (line_at lines k).withdrawn + distributors_withdrawn agents lines ≤ withdrawn_together lines
  distributors_apart k within other =
      sum_to_spare (length lines) (distributed_at agents lines) (λ j. (line_at lines j).withdrawn) k within distributed_each
      (cond-false (has_role distributes (agent_at agents k).role) (line_at lines k).withdrawn 0 other)

-- ---- an hour

-- facts of withdrawn energy that fit, whether or not the buyer is a distributor
withdrawn_fit : (parties : Parties) (facts : Facts) →
    (has_role distributes parties.buyer.role ≡ true → (facts.withdrawn ≤ facts.distributors_withdrawn) × (facts.distributors_withdrawn ≤ most_energy)) →
    (has_role distributes parties.buyer.role ≡ false → facts.withdrawn + facts.distributors_withdrawn ≤ most_energy) → withdrawn_fits parties facts ≡ true
withdrawn_fit parties facts among apart = elim (cases_Bool (has_role distributes parties.buyer.role)) [
  | inl buys ↦ rw (buys, le-leb _ _ (among buys).0, le-leb _ _ (among buys).1)
  | inr other ↦ rw (other, le-leb _ _ (apart other))
]

module _ (setting : Setting) (p : Posting) (c : Contract) (long : length p.lines ≡ length setting.agents) (sane : PostingFits p) (known : PartiesKnown (length setting.agents) c) where
  -- the facts of the hour are measured
  facts_measured : Measured (parties_of setting.agents c) (facts_of setting p c)
  facts_measured =
      let seller : (1 ≤ c.seller) × (c.seller ≤ length setting.agents) = known 0 0 (omega arith) in
      let buyer : (1 ≤ c.buyer) × (c.buyer ≤ length setting.agents) = known 1 0 (omega arith) in
      let sells : c.seller - 1 < length p.lines = omega (arith, seller.0, seller.1) in
      let buys : c.buyer - 1 < length p.lines = omega (arith, buyer.0, buyer.1) in
      let sold = within_limits (line_at p.lines (c.seller - 1)) (sane.each_within (c.seller - 1) sells) in
      let bought = within_limits (line_at p.lines (c.buyer - 1)) (sane.each_within (c.buyer - 1) buys) in
      let withdrawn = withdrawn_fit (parties_of setting.agents c) (facts_of setting p c)
      (λ is. (distributors_among setting.agents p.lines (c.buyer - 1) buys is, omega (arith, distributors_le setting.agents p.lines, sane.withdrawn_within)))
      (λ other. omega (arith, distributors_apart setting.agents p.lines (c.buyer - 1) buys other, sane.withdrawn_within)) in
      let prices : prices_fit (facts_of setting p c) ≡ true = grind (arith, nat_tests) in
      measured_of _ (facts_of setting p c) prices (le-leb _ _ sold.injected) withdrawn

pub settles : (setting : Setting) (p : Posting) (c : Contract) → length p.lines ≡ length setting.agents → PostingFits p →
    contract_fits setting c ≡ true → MayAsk setting.form c (parties_of setting.agents c) (facts_of setting p c)
settles setting p c long sane fits =
    let is = fitting setting c fits in
    record {
      taken = is.taken;
      valid = valid_of c _ is.between is.longest is.figures;
      measured = facts_measured setting p c long sane is.known;
    }
