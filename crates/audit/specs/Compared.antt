-- What an audit compares: answers of the first two books, and statements of all three. Assumes nothing.
use Rattle.std.specs.Prelude.{◌≡◌, ℕ, Bool, true, false, not, ◌&&◌, List, length, ℤ, Option, ◌==◌}
use Rattle.std.specs.{Int.w64, List.filter, List.list_all, List.zip, List.range_with_len}
use Rattle.std.proofs.Common.{of_z}
use Rattle.forms.specs.declared.Contract.{Contract}
use Rattle.tally.specs.{declared.money.TheConstants.MoneyLine.ALL, Lines.Lines, Lines.line_on, Money.lines_of}
use Rattle.settlement.specs.Faults.{number_of, place_of}
use Rattle.book.specs.declared.statements.Statement.{Statement}
use Rattle.law.specs.{Requests.about_contracts, Requests.without_contracts, Parties.is_stranger, Replies.manner_of, Turns.Manner, Turns.was_done, Turns.was_refused, Turns.was_skipped}
use Rattle.runs.specs.{declared.calls.Call.Call, Reading.request_of, Reading.Answer, Reading.reply_of}
use Rattle.audit.specs.{declared.audits.Report.Report, declared.comparisons.Comparison.Comparison, Cases.Case, Cases.standing_in, Found.Found}

-- two calls were answered alike: both done, both refused with the same number and place, or both skipped
abbrev pub same_manner : Manner → Manner → Bool
same_manner was_done was_done = true
same_manner (was_refused fault) (was_refused other) =
    number_of fault == number_of other && place_of fault == place_of other
same_manner was_skipped was_skipped = true
same_manner _ _ = false

abbrev pub same_answer : Answer → Answer → Bool
same_answer one other = same_manner (manner_of (reply_of one)) (manner_of (reply_of other))

-- whether both books heard a call
abbrev pub heard_by_both : Call → Bool
heard_by_both call = not (about_contracts (request_of call))

-- how many calls both heard, and how many of those they answered alike
abbrev pub heard_in : List Call → ℕ
heard_in calls = length (filter heard_by_both calls)

abbrev pub alike_in : List Call → (answers without : List Answer) → ℕ
alike_in calls answers without =
    let alike = λ (call : Call × (Answer × Answer)).
    heard_by_both call.0 && same_answer call.1.0 call.1.1 in
    length (filter alike (zip calls (zip answers without)))

-- two whole numbers are equal, as 64 bits hold them
abbrev pub same_number : ℤ → ℤ → Bool
same_number x y = of_z w64 x == of_z w64 y

-- two statements are the same, number by number, and so line by line
abbrev pub same_lines : Lines → Lines → Bool
same_lines x y = list_all (λ line. same_number (line_on line x) (line_on line y)) ALL

abbrev pub same_statement : Statement → Statement → Bool
same_statement x y =
    same_lines (lines_of x.lines) (lines_of y.lines)
    && (same_number x.balance y.balance && (x.energy.injected == y.energy.injected
    && (x.energy.withdrawn == y.energy.withdrawn
    && (x.peak.kwh == y.peak.kwh && x.peak.hour == y.peak.hour))))

-- how many agents have the same statement in two books
abbrev pub same_in : (one other : List Statement) → ℕ
same_in one other = length (filter (λ pair. same_statement pair.0 pair.1) (zip one other))

-- how many of so many agents are party to no standing contract, and how many of those have the same statement in two books
abbrev pub strangers_in : (count : ℕ) → List (Option Contract) → ℕ
strangers_in count places = length (filter (λ i. is_stranger i places) (range_with_len 0 count))

abbrev pub strangers_same : (count : ℕ) → List (Option Contract) → (one other : List Statement) → ℕ
strangers_same count places one other =
    let same = λ (agent : ℕ × (Statement × Statement)).
    is_stranger agent.0 places && same_statement agent.1.0 agent.1.1 in
    length (filter same (zip (range_with_len 0 count) (zip one other)))

-- how the answers and statements that were found of so many agents and these calls compare, over the contracts standing in the first book
pub record Compared (count : ℕ) (calls : List Call) (places : List (Option Contract))
    (found : Found) (comparison : Comparison) : Type 0 where
  pub heard : comparison.heard ≡ heard_in calls
  pub alike : comparison.alike ≡ alike_in calls found.answers found.answers_without
  pub strangers : comparison.strangers ≡ strangers_in count places
  pub strangers_same : comparison.strangers_same ≡
      strangers_same count places found.statements found.statements_without
  pub same : comparison.same ≡ same_in found.statements found.statements_again

-- what they come to: all that both books heard was answered alike, all strangers have the same statement in the first two, all agents have the
-- same statement in the first and the third, and the third did all that it was asked
pub record Agrees (case : Case) (report : Report) : Type 0 where
  pub heard : report.comparison.heard ≡ length (without_contracts case.requests)
  pub alike : report.comparison.alike ≡ report.comparison.heard
  pub strangers : report.comparison.strangers ≡
      strangers_in case.figures.agents (standing_in case).places
  pub strangers_same : report.comparison.strangers_same ≡ report.comparison.strangers
  pub same : report.comparison.same ≡ case.figures.agents
  pub repeated : report.repeated ≡ true
