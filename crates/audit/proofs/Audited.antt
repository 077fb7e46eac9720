-- Three books that were run: what the first leaves standing is what the third is asked, and the law holds of them. Assumes nothing.
use Rattle.std.proofs.Common.{◌≡◌, ℕ, Bool, true, false, ◌&&◌, eqb, List, [], ◌∷◌, map, length, ℤ, None, sym, refl, ap, ◌∙◌, subst}
use Rattle.std.specs.List.{list_all}
use Rattle.std.proofs.lemmas.Bool.{and_parts, eqb-true}
use Rattle.forms.specs.Meaning.{Keeps}
use Rattle.settlement.specs.declared.{agents.Agent.Agent, states.State.TheVariants.Open}
use Rattle.book.specs.{declared.months.MonthFigures.MonthFigures, declared.statements.Statement.Statement, Memory.Memory, Opening.open_fault}
use Rattle.law.specs.{Law.Book, Law.Ran, Replies.Reply, Replies.is_done, Requests.Request, Requests.told_without, Standing.Standing, Worked.residue_after}
use Rattle.law.proofs.{Lawful.settled, Sound.Opened}
use Rattle.runs.specs.{Reading.opening_of, Reading.Answer, Reading.reply_of, Runs.Kept, Runs.kept_of, Runs.answers_to, Runs.all_done, Runs.statements_in, Runs.statements_fault, Runs.together}
use Rattle.runs.proofs.{Run.heard_by, Run.told_by, Books.is_opened, Books.kept_holds, Books.kept_opens, Books.kept_emptied, Books.kept_states, Books.kept_ran}
use Rattle.audit.specs.{declared.audits.Report.Report, Audits.book_of, Audits.RanOnMemory, Audits.AllRan, Audits.SettledIn, Cases.Case, Cases.opening_in, Cases.standing_in, Cases.again, Cases.begun, Cases.ended, Found.Found, Found.places_fit, declared.totals.Totals.Totals, Totals.SettledOne}

-- all that was answered was done
pub done_told : (answers : List Answer) → all_done answers ≡ list_all is_done (map reply_of answers)
done_told [] = refl
done_told (a ∷ answers) = ap (λ b. is_done (reply_of a) && b) (done_told answers)

-- how many places there are, where they fit
pub record Long (calls agents : ℕ) (found : Found) : Type 0 where
  pub answers : length found.answers ≡ calls
  pub answers_without : length found.answers_without ≡ calls
  pub statements : length found.statements ≡ agents
  pub statements_without : length found.statements_without ≡ agents
  pub statements_again : length found.statements_again ≡ agents

pub places_long : (calls agents : ℕ) (found : Found) → places_fit calls agents found ≡ true → Long calls agents found
places_long calls agents found fit =
    let one = and_parts (eqb (length found.answers) calls) _ fit in
    let two = and_parts (eqb (length found.answers_without) calls) _ one.1 in
    let three = and_parts (eqb (length found.statements) agents) _ two.1 in
    let four = and_parts (eqb (length found.statements_without) agents) _ three.1 in
    record {
      answers = eqb-true _ _ one.0;
      answers_without = eqb-true _ _ two.0;
      statements = eqb-true _ _ three.0;
      statements_without = eqb-true _ _ four.0;
      statements_again = eqb-true _ _ four.1;
    }

-- a case that is opened in memory of its agents
pub record Opens (case : Case) (m : Memory) : Type 0 where
  pub keeps : Keeps case.form
  pub agents : m.agents ≡ case.agents
  pub opens : open_fault case.figures m ≡ None

module _ {case : Case} {m : Memory} (lent : Opens case m) where
  -- ---- memory from one book to the next

  module _ (contracts : Bool) (requests : List Request) where
    -- as a run of these requests leaves it
    abbrev left : Kept
    left = ended contracts (record case { requests = requests }) m

    -- it can be opened anew
    pub opens_after : (m' : Memory) → m' ≡ left.memory → open_fault case.figures m' ≡ None
    opens_after m' is = ap (open_fault case.figures) is ∙ kept_opens case.form lent.keeps case.figures m lent.opens contracts requests

    -- and is opened to the same, so that another run ends as if it had begun in what was lent
    pub begun_after : (m' : Memory) → m' ≡ left.memory → begun m' ≡ begun m
    begun_after m' is = ap begun is ∙ ap (kept_of Open) (kept_emptied case.form lent.keeps case.figures m lent.opens contracts requests)

    -- and it gives every statement, where there is a place for each
    pub states_after : (g : MonthFigures) (k : Kept) → g ≡ case.figures → k ≡ left → (places : ℕ) → places ≡ length m.agents → statements_fault case.form g places k.memory ≡ None
    states_after g k same is places long =
        (λ t. statements_fault case.form (same t) places (is t).memory) ∙ kept_states case.form lent.keeps case.figures m lent.opens contracts requests places long

    -- the book was run as the rules say
    ran : (told : List Reply) (statements : List Statement) (balances : ℤ) → told ≡ told_by contracts requests (map reply_of (answers_to contracts case.form case.figures requests (begun m))) →
        statements ≡ statements_in case.figures left.memory → balances ≡ together (statements_in case.figures left.memory) →
        Ran case.form (opening_in case) (heard_by contracts requests) (book_of told statements balances)
    ran told statements balances said stated summed =
        subst (λ (x : List Agent × Book). Ran case.form (opening_of case.figures x.0) (heard_by contracts requests) x.1)
        (λ t. (lent.agents t, book_of (sym said t) (sym stated t) (sym summed t)))
        (kept_ran case.form lent.keeps case.figures m lent.opens contracts requests)

  -- ---- what the first leaves

  abbrev standing : List Agent → Standing
  standing agents = standing_in (record case { agents = agents })

  pub left_places : (ended true case m).memory.contracts ≡ (standing_in case).places
  left_places = (kept_holds case.form lent.keeps case.figures m lent.opens true case.requests).memory.contracts ∙ (λ t. (standing (lent.agents t)).places)

  pub left_state : (ended true case m).state ≡ (standing_in case).state
  left_state = (kept_holds case.form lent.keeps case.figures m lent.opens true case.requests).state ∙ (λ t. (standing (lent.agents t)).state)

  -- ---- the law

  -- the month was opened
  case_opened : Opened (opening_in case)
  case_opened = subst (λ agents. Opened (opening_of case.figures agents)) lent.agents (is_opened case.figures m lent.opens)

  pub law_holds : (found : Found) (report : Report) → AllRan case m found →
      report.balances ≡ together (statements_in case.figures (ended true case m).memory) →
      report.balances_without ≡ together (statements_in case.figures (ended false case m).memory) →
      report.balances_again ≡ together (statements_in case.figures (ended true (again case) m).memory) →
      report.residue ≡ residue_after (opening_in case) (standing_in case) → SettledIn case m found report
  law_holds found report all one two three residue =
      settled case.form lent.keeps (opening_in case) case_opened case.requests _ _ _ _
      (ran true case.requests _ _ _ (ap (map reply_of) all.first.told) all.first.stated one)
      (ran false case.requests _ _ _ (ap (λ answers. told_without case.requests (map reply_of answers)) all.second.told) all.second.stated two)
      (ran true (again case).requests _ _ _ refl all.third.stated three)
      residue

  -- and where the first alone was run
  pub law_of_one : (answers : List Answer) (statements : List Statement) (totals : Totals) → RanOnMemory true case m answers statements →
      totals.balances ≡ together (statements_in case.figures (ended true case m).memory) →
      totals.residue ≡ residue_after (opening_in case) (standing_in case) → SettledOne case m answers statements totals
  law_of_one answers statements totals first sum residue =
      settled case.form lent.keeps (opening_in case) case_opened case.requests _ _ _ _
      (ran true case.requests _ _ _ (ap (map reply_of) first.told) first.stated sum)
      (ran false case.requests _ _ _ refl refl refl)
      (ran true (again case).requests _ _ _ refl refl refl)
      residue
