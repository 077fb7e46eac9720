-- A book that was opened and has heard any list of requests: its memory keeps its limits, and it was run as the rules say. Assumes nothing.
use Rattle.std.proofs.Common.{◌≡◌, ℕ, ◌*◌, ◌<◌, ◌≤◌, Bool, true, not, ◌||◌, leb, List, [], ◌∷◌, map, length, None, Option, sym, refl, ap, ◌∙◌, subst, arith, w64}
use mathlib.Core.List.{map-map}
use Rattle.std.specs.{List.range_with_len, List.list_all, Int.int_wrap}
use Rattle.std.proofs.lemmas.{Int.int_wrap_fits, List.FromFn.length-map-range_with_len, List.FromFn.get_or-map-range_with_len, Bool.and_parts, Bool.or_parts, Bool.not-false, Bool.leb-true, Bool.eqb-true, Bool.eq-eqb, Bool.le-ltb}
use Rattle.forms.specs.{Meaning.Meaning, Meaning.Keeps, Limits.most_agents, Limits.most_contracts}
use Rattle.settlement.specs.{declared.faults.BookFault.BookFault, declared.faults.BookFault.TheVariants.WrongSize, declared.faults.BookFault.TheVariants.OutsideBook, Agents.agent_fits, Faults.met_if, Faults.first_met, declared.states.State.TheVariants.Open}
use Rattle.tally.specs.Sums.{sum_to_ℤ}
use Rattle.tally.proofs.Numbers.{sum_to_ℤ_same, sum_to_ℤ_abs, fits_abs, map_counting_same}
use Rattle.calendar.specs.{Calendar.calendar_fits, Limits.hours_of, Limits.most_days}
use Rattle.settlement.proofs.FaultTables.{unmet, kept as kept_row, NoneMet, first_met_none}
use Rattle.law.specs.{Law.Book, Law.Ran, Requests.Opening, Requests.count_in, Requests.hours_in, Requests.Request, Limits.most_balance, Replies.replies_from, Standing.Standing, Standing.nothing_stands, Turns.after, Worked.worked, Worked.agent_balance, Worked.balances_after}
use Rattle.law.proofs.{Bounds.balance_abs, Sound.Opened, Sound.Sound, Soundness.sound_none, Soundness.sound_after}
use Rattle.book.specs.{declared.months.MonthFigures.MonthFigures, declared.statements.Statement.Statement, Memory.Memory, Memory.sized, Memory.size_fault, Memory.memory_fault, Months.size_known, Months.month_figures, Opening.open_fault, Opening.emptied, Statements.statement_in}
use Rattle.runs.specs.{Reading.opening_of, Reading.reply_of, Reading.worked_in, Runs.Kept, Runs.kept_of, Runs.answers_to, Runs.kept_after, Runs.no_statement, Runs.balance_at, Runs.statements_in, Runs.statements_fault, Runs.together}
use Rattle.runs.proofs.{Fits.is_sized, Fits.no_memory_fault, Holds.figures_of_opening, Holds.Holds, Keeps.holds_emptied, Run.heard_by, Run.told_by, Run.RunFrom, Run.run_from, Statements.statements_step}

-- ---- the opening

module _ (f : MonthFigures) (m : Memory) (opens : open_fault f m ≡ None) where
  -- the book that was opened
  abbrev pub opening : Opening
  opening = opening_of f m.agents

  -- the faults of an opening, of which none was met
  abbrev rows : List (Option BookFault)
  rows = met_if (not (size_known f)) OutsideBook ∷ size_fault f m ∷ met_if (not (calendar_fits f.calendar) || not (list_all agent_fits m.agents)) OutsideBook ∷ []

  none_met : NoneMet rows
  none_met = first_met_none rows opens

  pub opens_sized : sized f m ≡ true
  opens_sized = kept_row _ _ none_met.1.0

  pub agents_long : count_in opening ≡ f.agents
  agents_long = eqb-true _ _ (and_parts _ _ opens_sized).0

  pub is_opened : Opened opening
  is_opened =
      let few = and_parts (leb 1 f.agents) _ (kept_row _ _ none_met.0) in
      let most = and_parts (leb f.agents most_agents) _ few.1 in
      let days = and_parts (leb 1 f.days) _ most.1 in
      let last = or_parts (not (calendar_fits f.calendar)) (not (list_all agent_fits m.agents)) (unmet _ _ (sym none_met.1.1.0)) in
      record {
        some_agents = omega (arith, agents_long, leb-true 1 f.agents few.0);
        few_agents = omega (arith, agents_long, leb-true f.agents most_agents most.0);
        some_days = leb-true 1 f.days days.0;
        few_days = leb-true f.days most_days days.1;
        calendar = not-false _ last.0;
        agents = not-false _ last.1;
      }

  pub same_figures : figures_of_opening opening ≡ f
  same_figures = ap (λ n. month_figures n f.days f.calendar) agents_long

  -- memory of the size of a book of these figures, part by part
  sizes : (length m.accounts ≡ f.agents) × (length m.contracts ≡ most_contracts) × (length m.marks ≡ hours_of f.days) × (length m.entries ≡ f.agents * hours_of f.days)
  sizes =
      let a = and_parts _ _ opens_sized in
      let b = and_parts _ _ a.1 in
      let c = and_parts _ _ b.1 in
      let d = and_parts _ _ c.1 in
      (eqb-true _ _ b.0, eqb-true _ _ c.0, eqb-true _ _ d.0, eqb-true _ _ d.1)

  -- memory of the same agents and the same size can be opened as well, and is emptied to the same
  pub opens_same : (m' : Memory) → m'.agents ≡ m.agents → sized f m' ≡ true → open_fault f m' ≡ None
  opens_same m' agents size =
      (λ t. first_met (met_if (not (size_known f)) OutsideBook ∷ met_if (not ((size ∙ sym opens_sized) t)) WrongSize ∷ met_if (not (calendar_fits f.calendar) || not (list_all agent_fits (agents t))) OutsideBook ∷ []))
      ∙ opens

module _ (f : MonthFigures) (m m' : Memory) (opens : open_fault f m ≡ None) (opens' : open_fault f m' ≡ None) (agents : m'.agents ≡ m.agents) where
  pub emptied_same : emptied m' ≡ emptied m
  emptied_same =
      let sizes' = sizes f m' opens' in
      let sizes = sizes f m opens in
      cc

-- ---- the run

module _ (form : Meaning) (keeps : Keeps form) (f : MonthFigures) (m : Memory) (opens : open_fault f m ≡ None) where
  -- what it was opened with
  abbrev o : Opening
  o = opening f m opens

  -- the book as it was opened
  abbrev pub start : Kept
  start = kept_of Open (emptied m)

  -- it holds that nothing stands
  start_holds : Holds form o nothing_stands start
  start_holds =
      let long = sizes f m opens in
      holds_emptied form o m refl (long.0 ∙ sym (agents_long f m opens)) long.1 long.2 (long.3 ∙ ap (λ n. n * hours_in o) (sym (agents_long f m opens)))

  module _ (contracts : Bool) (requests : List Request) where
    -- what stands at the end
    abbrev pub standing : Standing
    standing = after form o (heard_by contracts requests)

    -- the book as it is kept then
    abbrev pub kept : Kept
    kept = kept_after contracts form f requests start

    -- what stands is sound
    standing_sound : Sound form o standing
    standing_sound = sound_after form o (heard_by contracts requests)

    -- the run from its opening
    run : RunFrom form o contracts nothing_stands start requests
    run = run_from form keeps o (is_opened f m opens) contracts nothing_stands (sound_none form o) start start_holds requests

    -- the book holds it
    pub kept_holds : Holds form o standing kept
    kept_holds = subst (λ g. Holds form o standing (kept_after contracts form g requests start)) (same_figures f m opens) run.holds

    -- so its memory has its size
    kept_sized : sized f kept.memory ≡ true
    kept_sized = ap (λ g. sized g kept.memory) (sym (same_figures f m opens)) ∙ is_sized form keeps o (is_opened f m opens) standing standing_sound kept.memory kept_holds.memory

    -- its memory can be opened anew
    pub kept_opens : open_fault f kept.memory ≡ None
    kept_opens = opens_same f m opens kept.memory kept_holds.memory.agents kept_sized

    -- and is emptied to the same
    pub kept_emptied : emptied kept.memory ≡ emptied m
    kept_emptied = emptied_same f m kept.memory opens kept_opens kept_holds.memory.agents

    -- and is met with no fault, as it keeps every limit
    kept_memory : memory_fault form f kept.memory ≡ None
    kept_memory =
        ap (λ g. memory_fault form g kept.memory) (sym (same_figures f m opens))
        ∙ no_memory_fault form keeps o (is_opened f m opens) standing standing_sound kept.memory kept_holds.memory

    -- and gives every agent's statement, where there is a place for each
    pub kept_states : (places : ℕ) → places ≡ length m.agents → statements_fault form f places kept.memory ≡ None
    kept_states places long =
        let agents : places ≡ f.agents = long ∙ agents_long f m opens in
        let some : 1 ≤ f.agents = omega (arith, agents_long f m opens, (is_opened f m opens).some_agents) in
        λ t. first_met (met_if (not (eq-eqb places f.agents agents t)) WrongSize ∷ first_met (kept_memory t ∷ met_if (le-ltb f.agents 1 some t) OutsideBook ∷ []) ∷ [])

    -- ---- what it was told, its statements and its balances

    -- what it was told is worked from what stands
    pub kept_told : told_by contracts requests (map reply_of (answers_to contracts form f requests start)) ≡ replies_from form o nothing_stands (heard_by contracts requests)
    kept_told = ap (λ g. told_by contracts requests (map reply_of (answers_to contracts form g requests start))) (sym (same_figures f m opens)) ∙ run.told

    -- the statements at the end
    abbrev pub statements : List Statement
    statements = statements_in f kept.memory

    -- each is the one worked from what stands, and so is its balance
    balance_so : (i : ℕ) → i < count_in o → balance_at statements i ≡ agent_balance form o standing i
    balance_so i agent =
        ap (λ (st : Statement). st.balance) (get_or-map-range_with_len (λ k. statement_in (hours_of f.days) k kept.memory) 0 f.agents i i no_statement (omega (arith, agents_long f m opens)) (omega arith))
        ∙ ap (λ w. w.balance) (statements_step form keeps o (is_opened f m opens) standing standing_sound kept.memory kept_holds.memory i agent)

    -- all balances together are those worked from what stands, and fit 64 bits
    together_so : together statements ≡ balances_after form o standing
    together_so =
        ap (λ n. int_wrap w64 (sum_to_ℤ n (balance_at statements))) (length-map-range_with_len _ 0 f.agents ∙ sym (agents_long f m opens))
        ∙ ap (int_wrap w64) (sum_to_ℤ_same (count_in o) _ _ balance_so)
        ∙ int_wrap_fits w64 _ (fits_abs _ (omega (
          arith,
          (is_opened f m opens).few_agents,
          sum_to_ℤ_abs (count_in o) (agent_balance form o standing) most_balance (balance_abs form keeps o (is_opened f m opens) standing standing_sound),
        )))

    -- all statements
    statements_so : map worked_in statements ≡ map (worked form o standing) (range_with_len 0 (count_in o))
    statements_so =
        ap (λ n. map worked_in (map (λ i. statement_in (hours_of f.days) i kept.memory) (range_with_len 0 n))) (sym (agents_long f m opens))
        ∙ map-map _ _ (range_with_len 0 (count_in o))
        ∙ map_counting_same (count_in o) _ _ (statements_step form keeps o (is_opened f m opens) standing standing_sound kept.memory kept_holds.memory)

    -- the book as it was run
    abbrev pub book : Book
    book = record {
      told = told_by contracts requests (map reply_of (answers_to contracts form f requests start));
      statements = map worked_in statements;
      balances = together statements;
    }

    -- was run as the rules say
    pub kept_ran : Ran form o (heard_by contracts requests) book
    kept_ran = record { answers = kept_told; stands = statements_so; together = together_so }
