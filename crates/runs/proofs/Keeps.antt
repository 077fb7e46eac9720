-- Memory that holds what stands: emptied, with an hour written anew, with a contract place changed, and with power charged. Assumes nothing.
use Rattle.std.proofs.Common.{◌≡◌, ℕ, zero, suc, ◌+◌, ◌-◌, ◌*◌, ◌<◌, ◌≤◌, Bool, true, false, cond, not, eqb, leb, List, [], ◌∷◌, length, get_or, set, replicate, ℤ, pos, ◌+ℤ◌, ◌-ℤ◌, is_some, Some, None, Option, sym, refl, ap, ◌∙◌, mod-eq_of_lt, arith}
use Rattle.std.proofs.lemmas.{Nat.mul-add-lt, List.FromFn.length-map-range_with_len, List.FromFn.get_or-map-range_with_len, List.length-replicate, List.get_or-replicate, List.length-set, List.get_or-set_other, Grind.get_or-set_at, Bool.Decides.nat_tests, Bool.cond-true, Bool.cond_both, Bool.eq-eqb, Bool.leb-true, Bool.and_parts, Bool.both_ways, Bool.not-true}
use Rattle.tally.specs.{declared.money.MoneyLine.TheVariants.Power, Energy.energy_of, Lines.no_lines, Lines.lines_joined, Lines.alone, LinesLaws.lines_lawful, Money.money_of, Pair.pair_of, Sums.int_sum_by}
use Rattle.tally.proofs.{Failing.each_passed, Numbers.sum_to_const_zero, Numbers.map_counting_same, Sums.total_over_same, Sums.total_over_none}
use Rattle.valuation.specs.Sharing.{part_of}
use Rattle.forms.specs.{declared.Contract.Contract, Limits.most_contracts, Meaning.Meaning, Meaning.Keeps, Parties.legs_by_party, Roles.carries}
use Rattle.settlement.specs.{declared.agents.Agent.Agent, declared.states.State.TheVariants.Open, Agents.agent_at, Agents.counted, ContractFaults.covers, ContractFaults.covered_in, ContractFaults.place_at, Holdings.Holding, Holdings.no_holding, Holdings.holding_joined, Holdings.withdrawn_on, Holdings.entry_of, Holdings.power_points, Hour.caused_sum, Hour.carried_by, Hour.Figures, Hour.figures_with, Legs.legs_of, Legs.given_to, Legs.given_in, Legs.is_number, Posting.Posting, Posting.line_at, Power.power_credit, Power.power_due, Power.power_weights, Setting.Setting}
use Rattle.settlement.proofs.FaultTables.{mapped_none}
use Rattle.book.specs.{Closing.charged, Entering.placed, Memory.Memory, Opening.emptied, Rewriting.entry_place, Rewriting.account_with, Rewriting.rewritten}
use Rattle.law.specs.{Faults.withdrawn_of, Requests.Opening, Requests.count_in, Requests.hours_in, Requests.closing, Standing.Standing, Standing.nothing_stands, Standing.standing_with, Standing.placed_with, Standing.stands, Standing.setting_in, Turns.changed, Worked.figures_from, Worked.figures_at, Worked.power_of, Worked.injected_of}
use Rattle.law.proofs.{Bounds.withdrawn_of_le, Sound.Opened, Sound.Sound}
use Rattle.runs.specs.Runs.{kept_of}
use Rattle.runs.proofs.{Accounts.account-changed, Accounts.account_charged, Columns.entry_with, Columns.length-entries_with, Columns.account_with_lem, Columns.length-accounts_with, Holds.Held, Holds.Holds, Holds.mark_for, Holds.account_of}

-- a list with one place changed
get_or-set : {X : Type 0} (xs : List X) (k j : ℕ) (x d : X) → k < length xs → get_or (set xs k x) j d ≡ cond (eqb j k) x (get_or xs j d)
get_or-set xs k j x d within =
    grind (arith, nat_tests, get_or-set_at, get_or-set_other)

-- what is so of each of two is so of the one that a test picks
picked : {X Y : Type 0} (f : X → Y) (b : Bool) (y y' : Y) (x x' : X) → (b ≡ true → y ≡ f x) → y' ≡ f x' → cond b y y' ≡ f (cond b x x')
picked f true y y' x x' p q = p refl
picked f false y y' x x' p q = q

-- a sum over a list with one item changed for another that gives as much
int_sum_by_same_set : {X : Type 0} (f : X → ℤ) (xs : List X) (k : ℕ) (x d : X) → f x ≡ f (get_or xs k d) → int_sum_by f (set xs k x) ≡ int_sum_by f xs
int_sum_by_same_set f [] k x d same = refl
int_sum_by_same_set f (y ∷ ys) zero x d same = ap (λ z. z +ℤ int_sum_by f ys) same
int_sum_by_same_set f (y ∷ ys) (suc k) x d same = ap (λ z. f y +ℤ z) (int_sum_by_same_set f ys k x d same)

-- ---- an hour written anew

-- with the entries and the mark of what now stands there
module _ (form : Meaning) (o : Opening) (s : Standing) (m : Memory) (held : Held form o s m) (is : s.state ≡ Open) (hour : ℕ) (within : hour < hours_in o) (p : Option Posting) where
  -- memory holds what now stands
  pub held_rewritten : (mark : ℕ) (new : ℕ → Holding) → mark ≡ mark_for p → ((i : ℕ) → i < count_in o → new i ≡ entry_of (figures_from (setting_in form o s) i p)) →
      Held form o (standing_with hour p s) (rewritten (hours_in o) hour mark new m)
  held_rewritten mark new marked written = record {
    agents = held.agents;
    accounts_long = length-accounts_with (hours_in o) hour new m.entries m.accounts ∙ held.accounts_long;
    marks_long = length-set m.marks hour mark ∙ held.marks_long;
    entries_long = length-entries_with (hours_in o) hour new m.entries ∙ held.entries_long;
    contracts = held.contracts;
    marks = λ h l. get_or-set m.marks hour h mark 0 (omega (arith, held.marks_long)) ∙ picked mark_for (eqb h hour) _ _ _ _ (λ at. marked) (held.marks h l);
    entries = λ i h agent l.
        entry_with (hours_in o) hour new m.entries (count_in o) i h held.entries_long agent l
        ∙ picked (λ q. entry_of (figures_from (setting_in form o s) i q)) (eqb h hour) _ _ _ _ (λ at. written i agent) (held.entries i h agent l);
    accounts = λ i agent.
        account_with_lem (hours_in o) hour new m.entries m.accounts i (omega (arith, held.accounts_long))
        ∙ (λ t. account_with (held.accounts i agent t) (held.entries i hour agent within t)
        ((written i agent ∙ ap (λ q. entry_of (figures_from (setting_in form o s) i q)) (sym (cond-true (eqb hour hour) p (s.posted hour) (eq-eqb hour hour refl)))) t))
        ∙ account-changed form o s is hour within p i;
  }

-- ---- nothing stands

-- a book whose memory is emptied holds an opening, at which nothing stands
pub holds_emptied : (form : Meaning) (o : Opening) (m : Memory) → m.agents ≡ o.agents → length m.accounts ≡ count_in o → length m.contracts ≡ most_contracts →
    length m.marks ≡ hours_in o → length m.entries ≡ count_in o * hours_in o → Holds form o nothing_stands (kept_of Open (emptied m))
holds_emptied form o m agents accounts contracts marks entries = record {
  state = refl;
  memory = record {
    agents = agents;
    accounts_long = length-replicate (length m.accounts) no_holding ∙ accounts;
    marks_long = length-replicate (length m.marks) 0 ∙ marks;
    entries_long = length-replicate (length m.entries) no_holding ∙ entries;
    contracts = ap (λ n. replicate n None) contracts;
    marks = λ hour within. get_or-replicate (length m.marks) hour 0 0 (omega arith);
    entries = λ i hour agent within.
        get_or-replicate (length m.entries) (entry_place (hours_in o) i hour) no_holding no_holding (omega (arith, mul-add-lt i (hours_in o) hour (count_in o) agent within));
    accounts = λ i agent.
        get_or-replicate (length m.accounts) i no_holding no_holding (omega arith)
        ∙ (λ t. pair_of (money_of (lines_joined (sym (total_over_none lines_lawful 0 (hours_in o) (λ hour. no_lines) (λ k low below. refl)) t) no_lines))
        (energy_of (sym (sum_to_const_zero (hours_in o)) t) (sym (sum_to_const_zero (hours_in o)) t)));
  };
}

-- ---- a contract place changed

-- a contract that covers no standing hour gives nothing where a posting stands
uncovered : (tells : ℕ → Bool) (place : Option Contract) → covered_in tells place ≡ None → (member : ℕ → Bool) (setting : Setting) (p : Posting) → tells p.hour ≡ true →
    given_in member setting p place ≡ pos 0
uncovered tells None none member setting p stood = refl
uncovered tells (Some c) none member setting p stood =
    cond_both (covers c p.hour) (given_to member (legs_by_party c (legs_of setting p c))) (pos 0) (λ z. z ≡ pos 0)
    (λ covered.
    let parts = and_parts (leb c.first p.hour) (leb p.hour c.last) covered in
    let from : c.first ≤ p.hour = leb-true c.first p.hour parts.0 in
    let to : p.hour ≤ c.last = leb-true p.hour c.last parts.1 in
    let free : not (tells (c.first + (p.hour - c.first))) ≡ true =
    each_passed (λ h. not (tells h)) c.first (c.last + 1 - c.first) (mapped_none _ _ (sym none)) (p.hour - c.first) (omega arith) in
    let place : c.first + (p.hour - c.first) ≡ p.hour = omega arith in
    absurd (both_ways (tells p.hour) (not-true (tells p.hour) (sym (ap (λ h. not (tells h)) place) ∙ free)) stood))
    (λ apart. refl)

-- neither what stood in the place nor what is put there covers an hour that stands
module _ (form : Meaning) (o : Opening) (s : Standing) (sound : Sound form o s) (number : ℕ) (c : Option Contract) (old : covered_in (stands s) (place_at s.places number) ≡ None) (new : covered_in (stands s) c ≡ None) where
  -- then every hour has the figures that it had
  figures_placed : (i hour : ℕ) → hour < hours_in o → figures_at form o (placed_with number c s) i hour ≡ figures_at form o s i hour
  figures_placed i hour within = by (s.posted hour) refl
    where
      by : (q : Option Posting) → s.posted hour ≡ q → figures_from (setting_in form o (placed_with number c s)) i q ≡ figures_from (setting_in form o s) i q
      by None stood = refl
      by (Some p) stood =
          let given : Option Contract → ℤ = given_in (is_number i) (setting_in form o s) p in
          let tells : stands s p.hour ≡ true = ap (stands s) (sound.postings hour p within stood).at ∙ ap is_some stood in
          let nothing : (place : Option Contract) → covered_in (stands s) place ≡ None → given place ≡ pos 0 =
          λ place none. uncovered (stands s) place none (is_number i) (setting_in form o s) p tells in
          ap (λ line. figures_with p.price (line_at p.lines i) line (caused_sum p i) (carried_by o.agents p i))
          (int_sum_by_same_set given s.places (number - 1) c None (nothing c new ∙ sym (nothing (place_at s.places number) old)))

  -- and every agent the account
  account_placed : (i : ℕ) → account_of form o s i ≡ account_of form o (placed_with number c s) i
  account_placed i =
      ap (λ hours. pair_of (money_of (lines_joined hours (alone Power (power_of o s i)))) (energy_of (injected_of o s i) (withdrawn_of o s i)))
      (total_over_same lines_lawful 0 (hours_in o) (λ hour. (figures_at form o s i hour).lines) (λ hour. (figures_at form o (placed_with number c s) i hour).lines)
      (λ hour low below. ap (λ (f : Figures). f.lines) (sym (figures_placed i hour (omega arith)))))

  -- so memory holds what now stands
  pub held_placed : (m : Memory) → Held form o s m → Held form o (placed_with number c s) (placed number c m)
  held_placed m held = record {
    agents = held.agents;
    accounts_long = held.accounts_long;
    marks_long = held.marks_long;
    entries_long = held.entries_long;
    contracts = ap (λ places. set places (number - 1) c) held.contracts;
    marks = held.marks;
    entries = λ i hour agent within. held.entries i hour agent within ∙ sym (ap entry_of (figures_placed i hour within));
    accounts = λ i agent. held.accounts i agent ∙ account_placed i;
  }

-- ---- power charged

-- the weights of power look at the agents of the book alone
pub weights_same : (agents : List Agent) (f g : ℕ → ℕ) → ((i : ℕ) → i < length agents → f i ≡ g i) → power_weights agents f ≡ power_weights agents g
weights_same agents f g same = map_counting_same (length agents) _ _ (λ i below. ap (counted carries (agent_at agents i).role) (same i below))

module _ (form : Meaning) (keeps : Keeps form) (o : Opening) (opened : Opened o) (s : Standing) (sound : Sound form o s) (m : Memory) (held : Held form o s m) where
  -- what an account says was withdrawn is what was
  pub withdrawn_read : (i : ℕ) → i < count_in o → withdrawn_on m.accounts i ≡ withdrawn_of o s i
  withdrawn_read i agent = ap (λ account. account.second.withdrawn) (held.accounts i agent) ∙ mod-eq_of_lt (omega (arith, withdrawn_of_le form keeps o opened s sound i agent))

  -- so the accounts give the weights
  pub weights_read : power_weights m.agents (withdrawn_on m.accounts) ≡ power_weights o.agents (withdrawn_of o s)
  weights_read =
      ap (λ agents. power_weights agents (withdrawn_on m.accounts)) held.agents
      ∙ weights_same o.agents (withdrawn_on m.accounts) (withdrawn_of o s) withdrawn_read

  -- an open month's memory with power charged holds the month closed
  pub held_charged : s.state ≡ Open → Held form o (changed closing s) (charged m)
  held_charged is = record {
    agents = held.agents;
    accounts_long = length-map-range_with_len _ 0 (length m.accounts) ∙ held.accounts_long;
    marks_long = held.marks_long;
    entries_long = held.entries_long;
    contracts = held.contracts;
    marks = held.marks;
    entries = held.entries;
    accounts = λ i agent.
        get_or-map-range_with_len _ 0 (length m.accounts) i i no_holding (omega (arith, held.accounts_long)) (omega arith)
        ∙ (λ t. holding_joined (held.accounts i agent t) (power_points (pos (power_credit (held.agents t) i) -ℤ pos (part_of (power_due (held.agents t)) (weights_read t) i))))
        ∙ account_charged form o s is i;
  }
