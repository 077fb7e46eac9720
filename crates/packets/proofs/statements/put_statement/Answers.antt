use Rattle.std.proofs.Common.{◌≡◌, ◌-◌, length, take, drop, ap, ◌∙◌, sym}
use Rattle.std.proofs.lemmas.Grind.{flat_map-append}
use Rattle.packets.specs.{Numbers.spelled, Numbers.overwritten, Formats.spelled_all, StatementPackets.statement_figures}
use Rattle.packets.proofs.RowSteps.{over_next}
use Rattle.packets.proofs.statements.put_statement.Goals as goal

pub returns : goal.returns
returns c =
    let output = c.args.output.now in
    let old = c.write_row-at.new.output in
    let at = c.write_row-at.result in
    let opening = take 6 (statement_figures c.args.figures.now) in
    let closing = drop 6 (statement_figures c.args.figures.now) in
    let was : old ≡ overwritten (spelled_all opening) output = c.write_row-at.ensures.output ∙ ap (λ vs. overwritten (spelled_all vs) output) c.opening.ensures in
    let place : at ≡ length (spelled_all opening) = c.write_row-at.ensures.value ∙ ap (λ vs. length (spelled_all vs)) c.opening.ensures in
    let now = c.write_row.ensures.output ∙ ap (λ vs. overwritten (spelled_all vs) (take (length old - at) (drop at old))) c.closing.ensures in
    over_next (spelled_all opening) (spelled_all closing) output old c.write_row.new.output at was place now ∙ ap (λ bytes. overwritten bytes output) (sym (flat_map-append spelled opening closing))
