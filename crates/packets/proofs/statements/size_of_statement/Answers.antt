use Rattle.std.proofs.Common.{◌≡◌, Ok, Err, take, drop, ap, ◌∙◌, sym, rules}
use Rattle.packets.specs.{Formats.and_then, Formats.sized, Formats.row, Formats.closed, StatementPackets.opening_limits, StatementPackets.closing_limits, StatementPackets.statement_figures}
use Rattle.packets.proofs.StatementSteps.{sized_statement}
use Rattle.packets.proofs.statements.size_of_statement.Goals as goal

pub returns-in_err-middle : goal.returns-in_err-middle
returns-in_err-middle c =
    let s = c.args.figures.now in
    let is : c.from_residual.result ≡ Err c.in_err-middle.field-0.0 = search rules in
    let opening : sized (row opening_limits closed) (take 6 (statement_figures s)) 0 ≡ Err c.in_err-middle.field-0.0 =
    ap (λ vs. sized (row opening_limits closed) vs 0) (sym c.opening-opening.ensures) ∙ sym c.check_row.ensures.value ∙ c.in_err-middle.was in
    is ∙ sym (sized_statement s ∙ ap (λ r. and_then r (λ middle. sized (row (closing_limits (take 6 (statement_figures s))) closed) (drop 6 (statement_figures s)) middle)) opening)

pub returns : goal.returns
returns c =
    let s = c.args.figures.now in
    let middle = c.in_ok-middle.middle in
    let opening : sized (row opening_limits closed) (take 6 (statement_figures s)) 0 ≡ Ok middle =
    ap (λ vs. sized (row opening_limits closed) vs 0) (sym c.opening-opening.ensures) ∙ sym c.check_row.ensures.value ∙ c.in_ok-middle.was in
    c.check_row-2.ensures.value
    ∙ ap (λ limits. sized (row limits closed) c.closing-2.result middle) (c.closing.ensures ∙ ap closing_limits c.opening-opening.ensures)
    ∙ ap (λ vs. sized (row (closing_limits (take 6 (statement_figures s))) closed) vs middle) c.closing-2.ensures
    ∙ sym (sized_statement s ∙ ap (λ r. and_then r (λ middle. sized (row (closing_limits (take 6 (statement_figures s))) closed) (drop 6 (statement_figures s)) middle)) opening)
