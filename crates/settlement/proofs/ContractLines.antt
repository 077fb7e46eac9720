-- The legs of contracts that may stand: their size, what they add up to, and that forms that are alike give the same. Assumes nothing.
use Rattle.std.proofs.Common.{◌≡◌, ℕ, ◌+◌, ◌-◌, ◌*◌, ◌<◌, ◌≤◌, Bool, true, false, not, cond, eqb, List, [], ◌∷◌, map, length, get_or, ℤ, pos, ◌+ℤ◌, nat_abs, Some, None, Option, sym, refl, ap, ◌∙◌, subst, inl, inr, arith}
use Rattle.std.{specs.List.All, specs.List.list_all, proofs.lemmas.Int.ints, proofs.lemmas.Bool.and_parts, proofs.lemmas.Bool.not-true, proofs.lemmas.Bool.eqb-false, proofs.lemmas.Bool.cases_eq, proofs.lemmas.Bool.cond-true, proofs.lemmas.Bool.cond-false, proofs.lemmas.Bool.cond_both, proofs.lemmas.Bool.eq-eqb, proofs.lemmas.Bool.ne_eqb, proofs.lemmas.List.Elements.All-head, proofs.lemmas.List.Elements.All-tail, proofs.lemmas.Slice.Zip.get_or-zip}
use Rattle.tally.{specs.Lawful.Lawful, specs.Sums.sum_to_ℤ, specs.Total.total_over, proofs.Numbers.int_lawful, proofs.Numbers.sum_to_ℤ_const_zero, proofs.Numbers.sum_to_ℤ_add, proofs.Numbers.int_sum_by_same, proofs.Numbers.int_sum_by_zero, proofs.Numbers.int_sum_by_abs, proofs.Numbers.int_sum_over_by, proofs.Sums.All-passing, proofs.Sums.total_over_changed, proofs.Sums.total_over_none, proofs.Totals.right_identity}
use Rattle.forms.specs.{declared.Contract.Contract, declared.Legs.Legs, Limits.most_leg, Meaning.Meaning, Meaning.MayAsk, Meaning.Balanced, Meaning.Keeps, Meaning.Alike, Parties.party_numbers, Parties.points_of, Parties.points_together, Parties.legs_by_party, Terms.numbers_apart}
use Rattle.settlement.{specs.ContractFaults.parties_of, specs.ContractFaults.PartiesKnown, specs.ContractFaults.contract_fits, specs.ContractFaults.place_fits, specs.ContractFaults.covers, specs.Legs.facts_of, specs.Legs.legs_of, specs.Legs.is_number, specs.Legs.given_to, specs.Legs.given_in, specs.Legs.contract_points_of, specs.Legs.contract_line, specs.Posting.Posting, specs.PostingFaults.PostingFits, specs.Setting.Setting, proofs.Settles.fitting, proofs.Settles.settles}

-- ---- legs by party

-- what one number of a book is given, and no other, is given once
pub once : {T : Type 0} {nothing : T} {joined : T → T → T} (laws : Lawful nothing joined) (n number : ℕ) (z : T) →
    1 ≤ number → number ≤ n → total_over nothing joined 0 n (λ i. cond (eqb number (i + 1)) z nothing) ≡ z
once {T} {nothing} {joined} laws n number z least most =
    let only = total_over_changed laws 0 n (λ i. nothing) (λ i. cond (eqb number (i + 1)) z nothing) (number - 1) (omega arith) (omega arith)
    (λ i low below other. cond-false (eqb number (i + 1)) z nothing (ne_eqb number (i + 1) (λ e. other (omega arith)))) in
    let here = cond-true (eqb number (number - 1 + 1)) z nothing (eq-eqb number (number - 1 + 1) (omega arith)) in
    sym (right_identity laws _) ∙ only
    ∙ (λ t. joined (total_over_none laws 0 n (λ i. nothing) (λ k low below. refl) t) (here t)) ∙ laws.identity z

-- the number of a leg is one of a book of so many
abbrev Known : ℕ → ℕ × ℤ → Type 0
Known n leg = (1 ≤ leg.0) × (leg.0 ≤ n)

-- legs of a book's agents come to their points together
given_together : (n : ℕ) (legs : List (ℕ × ℤ)) → All (Known n) legs → sum_to_ℤ n (λ i. given_to (is_number i) legs) ≡ points_together (map (λ leg. leg.1) legs)
given_together n [] known = sum_to_ℤ_const_zero n
given_together n (leg ∷ legs) known =
    let here = All-head (Known n) leg legs known in
    sum_to_ℤ_add n (λ i. cond (eqb leg.0 (i + 1)) leg.1 (pos 0)) (λ i. given_to (is_number i) legs)
    ∙ (λ t. once int_lawful n leg.0 leg.1 here.0 here.1 t +ℤ given_together n legs (All-tail (Known n) leg legs known) t)

-- an agent is given nothing of others' legs
given_none : (i : ℕ) (legs : List (ℕ × ℤ)) → list_all (λ other. not (eqb (i + 1) other)) (map (λ leg. leg.0) legs) ≡ true → given_to (is_number i) legs ≡ pos 0
given_none i [] apart = refl
given_none i (leg ∷ legs) apart =
    let parts = and_parts (not (eqb (i + 1) leg.0)) _ apart in
    let apart = eqb-false (i + 1) leg.0 (not-true _ parts.0) in
    let other = cond-false (eqb leg.0 (i + 1)) leg.1 (pos 0) (ne_eqb leg.0 (i + 1) (λ e. apart (sym e))) in
    omega (arith, ints, given_none i legs parts.1)

-- of legs of numbers that are apart it gets one at most
given_abs : (i : ℕ) (legs : List (ℕ × ℤ)) → numbers_apart (map (λ leg. leg.0) legs) ≡ true → All (λ leg. nat_abs leg.1 ≤ most_leg) legs → nat_abs (given_to (is_number i) legs) ≤ most_leg
given_abs i [] apart within = omega arith
given_abs i (leg ∷ legs) apart within =
    let parts = and_parts (list_all (λ other. not (eqb leg.0 other)) (map (λ (x : ℕ × ℤ). x.0) legs)) _ apart in
    let small = All-head (λ (x : ℕ × ℤ). nat_abs x.1 ≤ most_leg) leg legs within in
    elim (cases_eq leg.0 (i + 1)) [
      | inl is ↦
          let own = cond-true (eqb leg.0 (i + 1)) leg.1 (pos 0) (eq-eqb leg.0 (i + 1) is) in
          omega (arith, ints, given_none i legs (rw is at parts.0))
      | inr other ↦
          let rest = given_abs i legs parts.1 (All-tail (λ (x : ℕ × ℤ). nat_abs x.1 ≤ most_leg) leg legs within) in
          omega (arith, ints, cond-false (eqb leg.0 (i + 1)) leg.1 (pos 0) (ne_eqb leg.0 (i + 1) other))
    ]

-- a leg of a contract has a number and points of the two lists
leg_at : (c : Contract) (legs : Legs) (k : ℕ) (leg : ℕ × ℤ) → k < length (legs_by_party c legs) →
    get_or (legs_by_party c legs) k leg ≡ (get_or (party_numbers c) k leg.0, get_or (points_of legs) k leg.1)
leg_at c legs k leg within = get_or-zip (party_numbers c) (points_of legs) k leg within within

module _ (c : Contract) (legs : Legs) (balanced : Balanced legs) where
  -- the legs of a contract of a book's agents cancel
  legs_cancel : (n : ℕ) → PartiesKnown n c → sum_to_ℤ n (λ i. given_to (is_number i) (legs_by_party c legs)) ≡ pos 0
  legs_cancel n known =
      given_together n (legs_by_party c legs) (λ k leg within. subst (Known n) (sym (leg_at c legs k leg within)) (known k leg.0 within)) ∙ balanced.cancel

  -- and each agent gets one of them at most
  legs_abs : numbers_apart (party_numbers c) ≡ true → (i : ℕ) → nat_abs (given_to (is_number i) (legs_by_party c legs)) ≤ most_leg
  legs_abs apart i =
      given_abs i (legs_by_party c legs) apart
      (λ k leg within. subst (λ (x : ℕ × ℤ). nat_abs x.1 ≤ most_leg) (sym (leg_at c legs k leg within)) (balanced.within k leg.1 within))

-- ---- an hour

module _ (setting : Setting) (keeps : Keeps setting.form) (p : Posting) (long : length p.lines ≡ length setting.agents) (sane : PostingFits p) where
  -- the form may be asked for each of the contracts
  asked : (c : Contract) → contract_fits setting c ≡ true → MayAsk setting.form c (parties_of setting.agents c) (facts_of setting p c)
  asked c = settles setting p c long sane

  -- the legs of a contract are within their limits, and cancel
  legs_balanced : (c : Contract) → contract_fits setting c ≡ true → Balanced (legs_of setting p c)
  legs_balanced c fits =
      let parties = parties_of setting.agents c in
      let facts = facts_of setting p c in
      keeps.legs c parties facts (setting.form.quantity c parties facts) (asked c fits) (keeps.quantity c parties facts (asked c fits))

  -- what a contract place gives an agent
  given_in_abs : (i : ℕ) (place : Option Contract) → place_fits setting place ≡ true → nat_abs (given_in (is_number i) setting p place) ≤ most_leg
  given_in_abs i None fits = omega arith
  given_in_abs i (Some c) fits =
      cond_both (covers c p.hour) (given_to (is_number i) (legs_by_party c (legs_of setting p c))) (pos 0) (λ z. nat_abs z ≤ most_leg)
      (λ covered. legs_abs c (legs_of setting p c) (legs_balanced c fits) (fitting setting c fits).apart i) (λ apart. omega arith)

  -- comes to nothing over all agents
  given_in_together : (place : Option Contract) → place_fits setting place ≡ true → sum_to_ℤ (length setting.agents) (λ i. given_in (is_number i) setting p place) ≡ pos 0
  given_in_together None fits = sum_to_ℤ_const_zero (length setting.agents)
  given_in_together (Some c) fits = by (covers c p.hour)
    where
      by : (covered : Bool) → sum_to_ℤ (length setting.agents) (λ i. cond covered (given_to (is_number i) (legs_by_party c (legs_of setting p c))) (pos 0)) ≡ pos 0
      by true = legs_cancel c (legs_of setting p c) (legs_balanced c fits) (length setting.agents) (fitting setting c fits).known
      by false = sum_to_ℤ_const_zero (length setting.agents)

  -- and is the same by a form that is alike, whoever is asked about
  given_in_alike : (same : Meaning) → Alike setting.form same → (member : ℕ → Bool) (place : Option Contract) → place_fits setting place ≡ true →
      given_in member setting p place ≡ given_in member (record setting { form = same }) p place
  given_in_alike same alike member None fits = refl
  given_in_alike same alike member (Some c) fits =
      let parties = parties_of setting.agents c in
      let facts = facts_of setting p c in
      let legs = alike.legs c parties facts (setting.form.quantity c parties facts) (asked c fits) (keeps.quantity c parties facts (asked c fits)) in
      ap (λ both. cond (covers c p.hour) (given_to member (legs_by_party c both)) (pos 0))
      (legs ∙ ap (same.legs c parties facts) (alike.quantity c parties facts (asked c fits)))

  module _ (fit : list_all (place_fits setting) setting.places ≡ true) where
    -- the size of a contract line
    pub contract_line_abs : (i : ℕ) → nat_abs (contract_line setting p i) ≤ length setting.places * most_leg
    contract_line_abs i =
        int_sum_by_abs (given_in (is_number i) setting p) most_leg setting.places
        (All-passing (place_fits setting) (λ place. nat_abs (given_in (is_number i) setting p place) ≤ most_leg) setting.places fit (given_in_abs i))

    -- the contract lines of an hour come to nothing over all agents
    pub contract_lines_together : sum_to_ℤ (length setting.agents) (contract_line setting p) ≡ pos 0
    contract_lines_together =
        let together : Option Contract → ℤ = λ place. sum_to_ℤ (length setting.agents) (λ i. given_in (is_number i) setting p place) in
        int_sum_over_by 0 (length setting.agents) setting.places (λ i. given_in (is_number i) setting p)
        ∙ int_sum_by_zero together setting.places (All-passing (place_fits setting) (λ place. together place ≡ pos 0) setting.places fit given_in_together)

    -- and are the same by a form that is alike, for each set of agents
    pub contract_points_alike : (same : Meaning) → Alike setting.form same → (member : ℕ → Bool) →
        contract_points_of member setting p ≡ contract_points_of member (record setting { form = same }) p
    contract_points_alike same alike member =
        int_sum_by_same (given_in member setting p) (given_in member (record setting { form = same }) p) setting.places
        (All-passing (place_fits setting) (λ place. given_in member setting p place ≡ given_in member (record setting { form = same }) p place) setting.places fit
        (given_in_alike same alike member))
