-- What the counts of an audit come to where the law holds. Assumes nothing.
use Rattle.std.proofs.Common.{◌≡◌, ℕ, zero, suc, ◌+◌, ◌<◌, Bool, true, false, cond, not, ◌&&◌, eqb, List, [], ◌∷◌, map, length, get_or, Option, sym, refl, ap, ◌∙◌, arith}
use Rattle.std.specs.List.{filter, zip, range_with_len}
use Rattle.std.proofs.lemmas.{Bool.eq-eqb, Bool.and_from, List.FromFn.get_or-map-range_with_len}
use Rattle.std.proofs.Math.ListN.{get_or-map}
use Rattle.forms.specs.{declared.Contract.Contract, Meaning.Meaning}
use Rattle.settlement.specs.{declared.agents.Agent.Agent, Faults.number_of, Faults.place_of}
use Rattle.book.specs.{declared.months.MonthFigures.MonthFigures, Memory.Memory, declared.statements.Statement.Statement}
use Rattle.law.specs.{Parties.is_stranger, Replies.Reply, Replies.manner_of, Requests.count_in, Requests.about_contracts, Requests.without_contracts, Requests.told_without, Turns.Manner, Turns.was_done, Turns.was_refused, Turns.was_skipped, Worked.Worked}
use Rattle.runs.specs.{declared.calls.Call.Call, Reading.request_of, Reading.Answer, Reading.reply_of, Reading.worked_in, Runs.no_statement, Runs.all_done}
use Rattle.audit.specs.{declared.audits.Report.Report, Audits.SettledIn, Cases.Case, Cases.case_of, Cases.opening_in, Cases.standing_in, Cases.again, Cases.answered, Found.Found, Compared.same_manner, Compared.same_answer, Compared.heard_by_both, Compared.heard_in, Compared.alike_in, Compared.same_statement, Compared.same_number, Compared.same_lines, Compared.same_in, Compared.Compared, Compared.Agrees}
use Rattle.audit.proofs.Audited.{done_told}

-- ---- answers

-- a manner is that manner
same_itself : (how : Manner) → same_manner how how ≡ true
same_itself was_done = refl
same_itself (was_refused fault) =
    and_from (eqb (number_of fault) (number_of fault)) (eqb (place_of fault) (place_of fault)) (eq-eqb (number_of fault) (number_of fault) refl) (eq-eqb (place_of fault) (place_of fault) refl)
same_itself was_skipped = refl

-- the calls that both heard are those that are not about contracts
pub heard_without : (calls : List Call) → heard_in calls ≡ length (without_contracts (map request_of calls))
heard_without [] = refl
heard_without (c ∷ calls) = by (about_contracts (request_of c)) (heard_without calls)
  where
    by : (about : Bool) → heard_in calls ≡ length (without_contracts (map request_of calls)) →
        length (cond (not about) (c ∷ filter heard_by_both calls) (filter heard_by_both calls)) ≡
        length (cond about (without_contracts (map request_of calls)) (request_of c ∷ without_contracts (map request_of calls)))
    by true rest = rest
    by false rest = ap suc rest

-- where all that both heard was answered alike, as many were
pub alike_heard : (calls : List Call) (answers without : List Answer) → length answers ≡ length calls → length without ≡ length calls →
    map manner_of (told_without (map request_of calls) (map reply_of answers)) ≡ map manner_of (told_without (map request_of calls) (map reply_of without)) →
    alike_in calls answers without ≡ heard_in calls
alike_heard [] answers without long also = λ alike. refl
alike_heard (c ∷ calls) [] without long also = absurd (omega arith)
alike_heard (c ∷ calls) (a ∷ answers) [] long also = absurd (omega arith)
alike_heard (c ∷ calls) (a ∷ answers) (b ∷ without) long also = by (about_contracts (request_of c)) (alike_heard calls answers without (omega arith) (omega arith))
  where
    alike_by : List (Call × (Answer × Answer)) → List (Call × (Answer × Answer))
    alike_by = filter (λ call. heard_by_both call.0 && same_answer call.1.0 call.1.1)

    told : List Reply
    told = told_without (map request_of calls) (map reply_of answers)

    others : List Reply
    others = told_without (map request_of calls) (map reply_of without)

    by : (about : Bool) → (map manner_of told ≡ map manner_of others → alike_in calls answers without ≡ heard_in calls) →
        map manner_of (cond about told (reply_of a ∷ told)) ≡ map manner_of (cond about others (reply_of b ∷ others)) →
        length (cond (not about && same_answer a b) ((c, (a, b)) ∷ alike_by (zip calls (zip answers without))) (alike_by (zip calls (zip answers without)))) ≡
        length (cond (not about) (c ∷ filter heard_by_both calls) (filter heard_by_both calls))
    by true rest alike = rest alike
    by false rest alike =
        let here : manner_of (reply_of a) ≡ manner_of (reply_of b) = cc alike in
        let same : same_answer a b ≡ true = ap (λ how. same_manner how (manner_of (reply_of b))) here ∙ same_itself (manner_of (reply_of b)) in
        (λ t. length (cond (same t) ((c, (a, b)) ∷ alike_by (zip calls (zip answers without))) (alike_by (zip calls (zip answers without)))))
        ∙ ap suc (rest (cc alike))

-- ---- statements

-- statements with the same numbers are the same
same_worked : (x y : Statement) → worked_in x ≡ worked_in y → same_statement x y ≡ true
same_worked x y same =
    let counted : (n : ℕ) → eqb n n ≡ true = λ n. eq-eqb n n refl in
    let worked : Worked → Worked → Bool = λ v w. same_lines v.lines w.lines && (same_number v.balance w.balance && (eqb v.injected w.injected && (eqb v.withdrawn w.withdrawn && (eqb v.peak.kwh w.peak.kwh && eqb v.peak.hour w.peak.hour)))) in
    ap (worked (worked_in x)) (sym same) ∙ simp counted

-- where all agents have the same numbers in two books, as many have the same statement
pub all_same : (one other : List Statement) → map worked_in other ≡ map worked_in one → same_in one other ≡ length one
all_same [] other same = refl
all_same (x ∷ one) [] same = cc
all_same (x ∷ one) (y ∷ other) same =
    let here : worked_in x ≡ worked_in y = cc same in
    (λ t. length (cond (same_worked x y here t) ((x, y) ∷ filter (λ pair. same_statement pair.0 pair.1) (zip one other)) (filter (λ pair. same_statement pair.0 pair.1) (zip one other))))
    ∙ ap suc (all_same one other (cc same))

-- where all strangers of the n agents from one on have, as many strangers have the same statement
strangers_agree : (places : List (Option Contract)) (start n : ℕ) (one other : List Statement) → length one ≡ n → length other ≡ n →
    ((k : ℕ) → k < n → is_stranger (start + k) places ≡ true → worked_in (get_or one k no_statement) ≡ worked_in (get_or other k no_statement)) →
    length (filter (λ agent. is_stranger agent.0 places && same_statement agent.1.0 agent.1.1) (zip (range_with_len start n) (zip one other))) ≡
    length (filter (λ i. is_stranger i places) (range_with_len start n))
strangers_agree places start zero one other long also each = refl
strangers_agree places start (suc n) [] other long also each = absurd (omega arith)
strangers_agree places start (suc n) (x ∷ one) [] long also each = absurd (omega arith)
strangers_agree places start (suc n) (x ∷ one) (y ∷ other) long also each =
    by (is_stranger start places) refl
    (strangers_agree places (start + 1) n one other (omega arith) (omega arith)
    (λ k below stranger. each (suc k) (omega arith) (let place : start + suc k ≡ start + 1 + k = omega arith in ap (λ i. is_stranger i places) place ∙ stranger)))
  where
    same_by : List (ℕ × (Statement × Statement)) → List (ℕ × (Statement × Statement))
    same_by = filter (λ agent. is_stranger agent.0 places && same_statement agent.1.0 agent.1.1)

    by : (stranger : Bool) → is_stranger start places ≡ stranger →
        length (same_by (zip (range_with_len (start + 1) n) (zip one other))) ≡ length (filter (λ i. is_stranger i places) (range_with_len (start + 1) n)) →
        length (cond (stranger && same_statement x y) ((start, (x, y)) ∷ same_by (zip (range_with_len (start + 1) n) (zip one other))) (same_by (zip (range_with_len (start + 1) n) (zip one other)))) ≡
        length (cond stranger (start ∷ filter (λ i. is_stranger i places) (range_with_len (start + 1) n)) (filter (λ i. is_stranger i places) (range_with_len (start + 1) n)))
    by false is others = others
    by true is others =
        let first : start + 0 ≡ start = omega arith in
        let here : same_statement x y ≡ true = same_worked x y (each 0 (omega arith) (ap (λ i. is_stranger i places) first ∙ is)) in
        (λ t. length (cond (here t) ((start, (x, y)) ∷ same_by (zip (range_with_len (start + 1) n) (zip one other))) (same_by (zip (range_with_len (start + 1) n) (zip one other)))))
        ∙ ap suc others

-- ---- an audit

-- the statement of an agent, of statements that are worked from what stands
statement_at : (statements : List Statement) (f : ℕ → Worked) (n : ℕ) → map worked_in statements ≡ map f (range_with_len 0 n) → (i : ℕ) → i < n → worked_in (get_or statements i no_statement) ≡ f i
statement_at statements f n worked i below =
    sym (get_or-map worked_in statements i no_statement) ∙ ap (λ ws. get_or ws i (worked_in no_statement)) worked ∙ get_or-map-range_with_len f 0 n i i (worked_in no_statement) below (omega arith)

module _ (form : Meaning) (f : MonthFigures) (agents : List Agent) (calls : List Call) (m : Memory) (found : Found) (report : Report) where
  abbrev case : Case
  case = case_of form f agents calls

  pub agrees : SettledIn case m found report → Compared f.agents calls (standing_in case).places found report.comparison → length agents ≡ f.agents →
      length found.answers ≡ length calls → length found.answers_without ≡ length calls →
      length found.statements ≡ f.agents → length found.statements_without ≡ f.agents → report.repeated ≡ all_done (answered true (again case) m) → Agrees case report
  agrees law compared count answers answers_without statements statements_without repeated = record {
    heard = compared.heard ∙ heard_without calls;
    alike = compared.alike ∙ alike_heard calls found.answers found.answers_without answers answers_without law.answers.alike ∙ sym compared.heard;
    strangers = compared.strangers;
    strangers_same =
        compared.strangers_same
        ∙ strangers_agree (standing_in case).places 0 f.agents found.statements found.statements_without statements statements_without
        (λ k below stranger.
        let agent : k < count_in (opening_in case) = omega (arith, count) in
        let place : 0 + k ≡ k = omega arith in
        statement_at found.statements _ _ law.run.stands k agent
        ∙ sym (law.strangers.same k agent (sym (ap (λ i. is_stranger i (standing_in case).places) place) ∙ stranger))
        ∙ sym (statement_at found.statements_without _ _ law.run_without.stands k agent))
        ∙ sym compared.strangers;
    same = compared.same ∙ all_same found.statements found.statements_again law.again.same ∙ statements;
    repeated = repeated ∙ done_told (answered true (again case) m) ∙ law.again.accepted;
  }
