use Rattle.std.proofs.Common.{◌≡◌, true, false, List, length, sym, refl, ap, ◌∙◌, subst, rules, arith, w64, to_z, of_z}
use Rattle.std.proofs.lemmas.Int.{wraps}
use Rattle.book.specs.Memory.{Memory}
use Rattle.law.proofs.Soundness.{sound_after}
use Rattle.runs.specs.{Lent.memory_in, Reading.Answer, Runs.Kept, Runs.answers_to, Runs.kept_after, Runs.all_done, Runs.statements_in, Runs.together}
use Rattle.runs.proofs.Books.{agents_long}
use Rattle.audit.specs.{declared.audits.Report.Report, Audits.AllRan, Audits.SettledIn, Cases.Case, Cases.opening_in, Cases.standing_in, Cases.again, Cases.begun, Cases.ended, Cases.FirstAnswers, Compared.Compared, Found.Found, Found.found_in, Reading.case_in}
use Rattle.audit.proofs.{Agreed.agrees, Audited.Opens, Audited.places_long, Audited.opens_after, Audited.begun_after, Audited.states_after, Audited.left_places, Audited.left_state, Audited.law_holds, audits.settle_books.Goals.After-settle_calls-first, audits.settle_books.Goals.After-settle_calls-second, audits.settle_books.Goals.After-hear_standing-month, audits.settle_books.Goals.After-conclude-third}
use Rattle.audit.proofs.audits.settle_books.Goals as goal
use Rattle.audit.proofs.audits.settle_books.Given as given

module _ (g : given.Over) (c : After-settle_calls-first g) where
  -- what is audited
  abbrev case : Case
  case = case_in (g.F.ContractForm.meaning c.args.case.now.form.now) c.args.case.now

  -- it is opened in the memory that is lent
  lent : Opens case (memory_in c.args.lent.now)
  lent = record { keeps = g.met.F.ContractForm.keeps c.args.case.now.form.now; agents = sym c.requires.agents; opens = c.requires.opens }

  -- the answers of the first book are its run's
  first_told : (answers : List Answer) → answers ≡ c.settle_calls-first.new.answers → FirstAnswers case answers
  first_told answers same = record { memory = memory_in c.args.lent.now; agents = lent.agents; opens = lent.opens; told = same ∙ c.settle_calls-first.ensures.told }

  -- and its places are those that stand
  first_places : (m : Memory) → m ≡ memory_in c.settle_calls-first.new.lent → m.contracts ≡ (standing_in case).places
  first_places m is = ap (λ (x : Memory). x.contracts) (is ∙ c.settle_calls-first.ensures.memory) ∙ left_places lent

  -- memory after it is opened to what it was opened to
  first_begun : begun (memory_in c.settle_calls-first.new.lent) ≡ begun (memory_in c.args.lent.now)
  first_begun = begun_after lent true case.requests _ c.settle_calls-first.ensures.memory

  -- and memory after the second as well
  second_opens : (m : Memory) → m ≡ (ended false case (memory_in c.settle_calls-first.new.lent)).memory → m ≡ (ended false case (memory_in c.args.lent.now)).memory
  second_opens m is = is ∙ ap (λ k. (kept_after false case.form case.figures case.requests k).memory) first_begun

  second_begun : (m : Memory) → m ≡ (ended false case (memory_in c.settle_calls-first.new.lent)).memory → begun m ≡ begun (memory_in c.args.lent.now)
  second_begun m is = begun_after lent false case.requests m (second_opens m is)

pub residue-residue-requires-clause-first : goal.residue-residue-requires-clause-first
residue-residue-requires-clause-first g c = first_told g (goal.at.residue-residue-requires-clause-first g c).After-settle_calls-first _ c.first_answers.ensures

pub copy_from_slice-requires : goal.copy_from_slice-requires
copy_from_slice-requires g c =
    let first = (goal.at.copy_from_slice-requires g c).After-settle_calls-first in
    let stood : Case = case g first in
    omega (arith, ap length (first_places g first _ c.view.ensures), (sound_after stood.form (opening_in stood) stood.requests).long)

pub settle_calls-second-requires-clause-opens : goal.settle_calls-second-requires-clause-opens
settle_calls-second-requires-clause-opens g c =
    let first = (goal.at.settle_calls-second-requires-clause-opens g c).After-settle_calls-first in
    opens_after (lent g first) true (case g first).requests _ c.settle_calls-first.ensures.memory

pub hear_standing-month-requires-clause-opens : goal.hear_standing-month-requires-clause-opens
hear_standing-month-requires-clause-opens g c =
    let first = (goal.at.hear_standing-month-requires-clause-opens g c).After-settle_calls-first in
    opens_after (lent g first) false (case g first).requests _ (second_opens g first _ c.settle_calls-second.ensures.memory)

pub hear_standing-month-requires-clause-left : goal.hear_standing-month-requires-clause-left
hear_standing-month-requires-clause-left g c =
    let first = (goal.at.hear_standing-month-requires-clause-left g c).After-settle_calls-first in
    record {
      answers = first_told g first _ c.first_answers-2.ensures;
      places = c.copy_from_slice.ensures.after ∙ first_places g first _ c.view.ensures;
      state = c.settle_calls-first.ensures.came.state ∙ left_state (lent g first);
    }

pub conclude-third-requires : goal.conclude-third-requires
conclude-third-requires g c =
    let first = (goal.at.conclude-third-requires g c).After-settle_calls-first in
    let asked : Case = again (case g first) in
    states_after (lent g first) true asked.requests _ _ c.hear_standing-month.ensures.figures
    (c.hear_standing-month.ensures.kept ∙ ap (kept_after true asked.form asked.figures asked.requests) (second_begun g first _ c.settle_calls-second.ensures.memory)) _
    ((places_long _ _ (found_in c.args.findings.now) c.requires.places).statements_again ∙ ap length c.requires.agents)

pub returns : goal.returns
returns g c =
    let first = (goal.at.returns g c).After-settle_calls-first in
    let heard : Case = case g first in
    let asked : Case = again heard in
    let m = memory_in c.args.lent.now in
    let begun_second = first_begun g first in
    let begun_third = second_begun g first _ c.settle_calls-second.ensures.memory in
    let second = ap (kept_after false heard.form heard.figures heard.requests) begun_second in
    let third = c.hear_standing-month.ensures.kept ∙ ap (kept_after true asked.form asked.figures asked.requests) begun_third in
    let found : Found = record {
      answers = c.settle_calls-first.new.answers;
      answers_without = c.settle_calls-second.new.answers;
      statements = c.settle_calls-first.new.statements;
      statements_without = c.settle_calls-second.new.statements;
      statements_again = c.conclude-third.new.statements;
    } in
    let report : Report = record {
      balances = to_z w64 (of_z w64 c.settle_calls-first.result.balances);
      balances_without = to_z w64 (of_z w64 c.settle_calls-second.result.balances);
      balances_again = to_z w64 (of_z w64 c.conclude-third.result.balances);
      residue = to_z w64 (of_z w64 c.residue-residue.result);
      repeated = c.hear_standing-month.result.done;
      comparison = c.compare-comparison.result;
    } in
    let one : report.balances ≡ c.settle_calls-first.result.balances = search (rules, wraps) in
    let two : report.balances_without ≡ c.settle_calls-second.result.balances = search (rules, wraps) in
    let three : report.balances_again ≡ c.conclude-third.result.balances = search (rules, wraps) in
    let residue : report.residue ≡ c.residue-residue.result = search (rules, wraps) in
    let ran : AllRan heard m found = record {
      first = record { told = c.settle_calls-first.ensures.told; stated = c.settle_calls-first.ensures.came.stated };
      second = record {
        told = c.settle_calls-second.ensures.told ∙ ap (answers_to false heard.form heard.figures heard.requests) begun_second;
        stated = c.settle_calls-second.ensures.came.stated ∙ (λ t. statements_in heard.figures (second t).memory);
      };
      third = record { told = refl; stated = c.conclude-third.ensures.stated ∙ (λ t. statements_in (c.hear_standing-month.ensures.figures t) (third t).memory) };
    } in
    let law : SettledIn heard m found report =
    law_holds (lent g first) found report ran
    (one ∙ c.settle_calls-first.ensures.came.balances)
    (two ∙ c.settle_calls-second.ensures.came.balances ∙ (λ t. together (statements_in heard.figures (second t).memory)))
    (three ∙ c.conclude-third.ensures.balances ∙ (λ t. together (statements_in (c.hear_standing-month.ensures.figures t) (third t).memory)))
    (residue ∙ c.residue-residue.ensures) in
    let long = places_long _ _ (found_in c.args.findings.now) c.requires.places in
    let count : length heard.agents ≡ heard.figures.agents = ap length c.requires.agents ∙ agents_long heard.figures m c.requires.opens in
    record {
      lent = search rules;
      places = search rules;
      memory = ap (λ (k : Kept). k.memory) third;
      ran = ran;
      settled = law;
      agrees =
          agrees heard.form heard.figures heard.agents c.args.case.now.calls.now m found report law
          (subst (λ stood. Compared heard.figures.agents c.args.case.now.calls.now stood found report.comparison) (c.copy_from_slice.ensures.after ∙ first_places g first _ c.view.ensures) c.compare-comparison.ensures)
          count (omega (arith, long.answers)) (omega (arith, long.answers_without)) (omega (arith, long.statements, count)) (omega (arith, long.statements_without, count))
          (c.hear_standing-month.ensures.done ∙ ap (λ k. all_done (answers_to true asked.form asked.figures asked.requests k)) begun_third);
    }
