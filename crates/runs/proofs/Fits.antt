-- Memory that holds what stands has its size and keeps every limit. Assumes nothing.
use Rattle.std.proofs.Common.{◌≡◌, ℕ, ◌/◌, ◌%◌, ◌^◌, ◌<◌, ◌≤◌, Bool, true, not, ◌&&◌, leb, List, [], ◌∷◌, length, get_or, is_some, None, Option, sym, refl, ap, ◌∙◌, arith}
use Rattle.std.specs.List.{list_all}
use native.Mathlib.Nat.{mod-le}
use Rattle.std.proofs.lemmas.{Nat.div-add-mod', Nat.div_below, Nat.mod_below, List.Elements.All-from_get_or, List.Sums.list_all-from_AllPass, Bool.and_from, Bool.cond_both, Bool.eq-eqb, Bool.le-leb}
use Rattle.forms.specs.Meaning.{Meaning, Keeps}
use Rattle.settlement.specs.{declared.faults.BookFault.BookFault, declared.faults.BookFault.TheVariants.WrongSize, declared.faults.BookFault.TheVariants.StoredOutside, Agents.agent_fits, ContractFaults.place_fits, Faults.met_if, Faults.first_met, Holdings.no_holding, Holdings.withdrawn_on, Holdings.all_withdrawn, Limits.most_month_energy}
use Rattle.tally.specs.Sums.{sum_to}
use Rattle.tally.proofs.Numbers.{sum_to_same, sum_by_list}
use Rattle.valuation.specs.Limits.{most_energy}
use Rattle.book.specs.{Memory.Memory, Memory.sized, Memory.mark_fits, Memory.energy_within, Memory.stored_fits, Memory.size_fault, Memory.memory_fault, Months.setting_with}
use Rattle.law.specs.{Faults.withdrawn_of, Requests.Opening, Requests.count_in, Requests.hours_in, Standing.Standing, Standing.setting_in, Worked.figures_at}
use Rattle.law.proofs.{Bounds.energies_le, Bounds.figures_energies, Bounds.injected_of_le, Bounds.withdrawn_of_le, Bounds.all_withdrawn_le, Sound.Opened, Sound.Sound}
use Rattle.runs.proofs.{Holds.figures_of_opening, Holds.Held, Keeps.withdrawn_read}

-- a test that each place of a list passes, all of it passes
each_passes : {X : Type 0} (test : X → Bool) (xs : List X) (d : X) → ((k : ℕ) → k < length xs → test (get_or xs k d) ≡ true) → list_all test xs ≡ true
each_passes test xs d each = list_all-from_AllPass test xs (All-from_get_or (λ x. test x ≡ true) xs d each)

-- energies below a limit are within it, kept to their width
energy_fits : (most a b : ℕ) → a ≤ most → b ≤ most → (leb (a % 2 ^ 64) most && leb (b % 2 ^ 64) most) ≡ true
energy_fits most a b p q =
    and_from _ _ (le-leb (a % 2 ^ 64) most (omega (arith, mod-le a (2 ^ 64)))) (le-leb (b % 2 ^ 64) most (omega (arith, mod-le b (2 ^ 64))))

module _ (form : Meaning) (keeps : Keeps form) (o : Opening) (opened : Opened o) (s : Standing) (sound : Sound form o s) (m : Memory) (held : Held form o s m) where
  -- it has its size
  pub is_sized : sized (figures_of_opening o) m ≡ true
  is_sized =
      and_from _ _ (eq-eqb _ _ (ap length held.agents))
      (and_from _ _ (eq-eqb _ _ held.accounts_long)
      (and_from _ _ (eq-eqb _ _ (ap length held.contracts ∙ sound.long))
      (and_from _ _ (eq-eqb _ _ held.marks_long) (eq-eqb _ _ held.entries_long))))

  -- each mark is that of an hour
  marks_fit : list_all mark_fits m.marks ≡ true
  marks_fit = each_passes mark_fits m.marks 0 (λ k l. ap mark_fits (held.marks k (omega arith)) ∙ cond_both (is_some (s.posted k)) 1 0 (λ mark. mark_fits mark ≡ true) (λ some. refl) (λ none. refl))

  -- each entry is that of an agent and an hour
  entries_fit : list_all (energy_within most_energy) m.entries ≡ true
  entries_fit =
      each_passes (energy_within most_energy) m.entries no_holding
      (λ k l.
      let some_hours : 0 < hours_in o = omega arith in
      let i : ℕ = k / hours_in o in
      let hour : ℕ = k % hours_in o in
      let agent : i < count_in o = div_below k (hours_in o) (count_in o) some_hours (omega arith) in
      let within : hour < hours_in o = mod_below k (hours_in o) some_hours in
      ap (energy_within most_energy) (ap (λ n. get_or m.entries n no_holding) (sym (div-add-mod' k (hours_in o))) ∙ held.entries i hour agent within)
      ∙ (let own = figures_energies (setting_in form o s) i (s.posted hour) in let few = energies_le form keeps o opened s sound i hour agent within in
      energy_fits most_energy (figures_at form o s i hour).injected (figures_at form o s i hour).withdrawn (omega arith) (omega arith)))

  -- each account is that of an agent
  accounts_fit : list_all (energy_within most_month_energy) m.accounts ≡ true
  accounts_fit =
      each_passes (energy_within most_month_energy) m.accounts no_holding
      (λ i l.
      let agent : i < count_in o = omega arith in
      ap (energy_within most_month_energy) (held.accounts i agent)
      ∙ energy_fits most_month_energy _ _ (injected_of_le form keeps o opened s sound i agent) (withdrawn_of_le form keeps o opened s sound i agent))

  -- what all accounts say was withdrawn is what was
  all_withdrawn_lem : all_withdrawn m.accounts ≡ sum_to (count_in o) (withdrawn_of o s)
  all_withdrawn_lem =
      sum_by_list (λ account. account.second.withdrawn) m.accounts no_holding
      ∙ ap (λ n. sum_to n (withdrawn_on m.accounts)) held.accounts_long
      ∙ sum_to_same (count_in o) (withdrawn_on m.accounts) (withdrawn_of o s) (withdrawn_read form keeps o opened s sound m held)

  -- every stored figure is within its limit
  pub is_stored : stored_fits form (figures_of_opening o) m ≡ true
  is_stored =
      and_from _ _ (ap (list_all agent_fits) held.agents ∙ opened.agents)
      (and_from _ _ ((λ t. list_all (place_fits (setting_with form (figures_of_opening o) (held.agents t) (held.contracts t))) (held.contracts t)) ∙ sound.contracts)
      (and_from _ _ marks_fit
      (and_from _ _ entries_fit
      (and_from _ _ accounts_fit (le-leb (all_withdrawn m.accounts) most_month_energy (omega (arith, all_withdrawn_lem, all_withdrawn_le form keeps o opened s sound)))))))

  -- so memory is never met with the wrong size
  pub no_size_fault : size_fault (figures_of_opening o) m ≡ None
  no_size_fault = ap (λ fits. met_if (not fits) WrongSize) is_sized

  -- nor with a figure outside its limit
  pub no_memory_fault : memory_fault form (figures_of_opening o) m ≡ None
  no_memory_fault = λ t. first_met (no_size_fault t ∷ met_if (not (is_stored t)) StoredOutside ∷ [])

  -- and the faults after those decide
  pub past_memory : (rows : List (Option BookFault)) → first_met (memory_fault form (figures_of_opening o) m ∷ rows) ≡ first_met rows
  past_memory rows = λ t. first_met (no_memory_fault t ∷ rows)
