-- What an audit finds in the places that a host lends. Assumes nothing.
use Rattle.std.specs.Prelude.{◌≡◌, ℕ, Bool, ◌&&◌, List, length, ◌==◌}
use Rattle.book.specs.declared.statements.Statement.{Statement}
use Rattle.runs.specs.Reading.{Answer}
use Rattle.audit.specs.declared.findings.Findings.{Findings}

-- the answers of the two books that hear calls, and every agent's statement in all three
pub record Found : Type 0 where
  pub answers : List Answer
  pub answers_without : List Answer
  pub statements : List Statement
  pub statements_without : List Statement
  pub statements_again : List Statement

abbrev pub found_in : Findings → Found
found_in findings = record {
  answers = findings.answers.now;
  answers_without = findings.answers_without.now;
  statements = findings.statements.now;
  statements_without = findings.statements_without.now;
  statements_again = findings.statements_again.now;
}

-- there is a place for each answer, and one for each statement
abbrev pub places_fit : (calls agents : ℕ) → Found → Bool
places_fit calls agents found =
    length found.answers == calls && (length found.answers_without == calls
    && (length found.statements == agents && (length found.statements_without == agents
    && length found.statements_again == agents)))

-- the findings lend the same places as before
abbrev pub SamePlaces : (before after : Findings) → Type 0
SamePlaces before after =
    (after.answers.ghost_name ≡ before.answers.ghost_name)
    × (after.answers_without.ghost_name ≡ before.answers_without.ghost_name)
    × (after.statements.ghost_name ≡ before.statements.ghost_name)
    × (after.statements_without.ghost_name ≡ before.statements_without.ghost_name)
    × (after.statements_again.ghost_name ≡ before.statements_again.ghost_name)
