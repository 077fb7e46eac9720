-- What the tests of terms and of facts come from, and what follows from them. Assumes nothing.
use Rattle.std.specs.Prelude.{◌≡◌, ℕ, ◌≤◌, true, IsTrue, nat_le}
use Rattle.std.proofs.Common.{arith}
use Rattle.std.proofs.lemmas.Bool.{and_parts, Decides.nat_tests}
use Rattle.calendar.specs.Limits.{most_hours}
use Rattle.forms.specs.{Measured.prices_fit, Measured.withdrawn_fits, Measured.measured_facts, Measured.Measured, Roles.distributes, Roles.has_role, Terms.parties_fit, Terms.hours_fit, Terms.figures_fit, Terms.valid_terms, Terms.Valid, declared.Contract.Contract, declared.Facts.Facts, declared.Parties.Parties}
use Rattle.valuation.specs.Limits.{most_energy, most_price, most_factor}

-- terms are valid by their three tests, and facts measured by theirs
pub valid_of : (terms : Contract) (parties : Parties) → IsTrue (parties_fit terms parties) →
    IsTrue (hours_fit most_hours terms) → IsTrue (figures_fit terms) → Valid terms parties
unfolding valid_terms
valid_of terms parties between hours figures = simp (between, hours, figures)

pub measured_of : (parties : Parties) (facts : Facts) → IsTrue (prices_fit facts) →
    IsTrue (nat_le facts.injected most_energy) → IsTrue (withdrawn_fits parties facts) → Measured parties facts
unfolding measured_facts
measured_of parties facts prices injected withdrawn = simp (prices, injected, withdrawn)

-- hours within a month are within the longest
pub hours_fit_longest : (hours : ℕ) (terms : Contract) → hours ≤ most_hours → IsTrue (hours_fit hours terms) →
    IsTrue (hours_fit most_hours terms)
hours_fit_longest hours terms within fits = grind (arith, nat_tests)

module _ (terms : Contract) (parties : Parties) (valid : Valid terms parties) where
  -- valid terms pass the three tests
  pub parties_known : IsTrue (parties_fit terms parties)
  unfolding valid_terms
  parties_known = (and_parts (parties_fit terms parties) _ valid).0

  pub hours_known : IsTrue (hours_fit most_hours terms)
  unfolding valid_terms
  hours_known = (and_parts (hours_fit most_hours terms) _ (and_parts (parties_fit terms parties) _ valid).1).0

  -- and so their price is within its limit
  pub figures_known : IsTrue (figures_fit terms)
  unfolding valid_terms
  figures_known = (and_parts (hours_fit most_hours terms) _ (and_parts (parties_fit terms parties) _ valid).1).1

  pub contract_price_le : terms.price ≤ most_price
  contract_price_le = let figures = figures_known in grind (arith, nat_tests)

module _ (parties : Parties) (facts : Facts) (measured : Measured parties facts) where
  -- measured facts pass the test of their prices, and so on
  pub prices_known : IsTrue (prices_fit facts)
  unfolding measured_facts
  prices_known = (and_parts (prices_fit facts) _ measured).0

  pub price_le : facts.price ≤ most_price
  price_le = let prices = prices_known in grind (arith, nat_tests)

  -- both node factors
  pub seller_factor_le : facts.seller_factor ≤ most_factor
  seller_factor_le = let prices = prices_known in grind (arith, nat_tests)

  pub buyer_factor_le : facts.buyer_factor ≤ most_factor
  buyer_factor_le = let prices = prices_known in grind (arith, nat_tests)

  pub injected_le : facts.injected ≤ most_energy
  unfolding measured_facts
  injected_le = grind (arith, nat_tests)

  -- a distributor's own withdrawn energy is among that of all distributors
  pub withdrawn_among : has_role distributes parties.buyer.role ≡ true → facts.withdrawn ≤ facts.distributors_withdrawn
  unfolding measured_facts
  withdrawn_among buys = grind (arith, nat_tests)
