use Rattle.std.proofs.Common.{take, ap, ◌∙◌, sym, arith}
use Rattle.packets.specs.StatementPackets.{statement_format, statement_figures, statement_read}
use Rattle.packets.proofs.{Formats.sized_end, Formats.output_ok, StatementSteps.statement_reads}
use Rattle.packets.proofs.statements.write_statement.Goals as goal

pub put_statement-requires : goal.put_statement-requires
put_statement-requires c =
    omega (arith, sized_end statement_format (statement_figures c.args.figures.now) 0 c.in_ok-end.end (sym c.size_of_statement.ensures ∙ c.in_ok-end.was))

pub returns-clause-back : goal.returns-clause-back
returns-clause-back c =
    ap (λ output. statement_read (take c.in_ok-end.end output)) c.put_statement.ensures
    ∙ statement_reads c.args.figures.now c.args.output.now c.in_ok-end.end (sym c.size_of_statement.ensures ∙ c.in_ok-end.was)

pub returns-clause-output : goal.returns-clause-output
returns-clause-output c =
    let s = c.args.figures.now in
    c.put_statement.ensures ∙ sym (output_ok statement_format (statement_figures s) c.args.output.now c.in_ok-end.end (sym c.size_of_statement.ensures ∙ c.in_ok-end.was) c.if-output-end.false)
