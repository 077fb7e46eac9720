use Rattle.std.proofs.Common.{◌≡◌, ℕ, Result, Ok, Err, List, ◌++◌, ap, ◌∙◌, sym, subst, arith, rules}
use Rattle.std.proofs.lemmas.List.{length-append}
use Rattle.packets.specs.{declared.faults.ByteFault.ByteFault, declared.rows.Limits.Limits, declared.statements.StatementFigures.StatementFigures, Formats.and_then, Formats.whole, Formats.RowRead, Formats.Spells, StatementPackets.statement_format, StatementPackets.statement_figures, StatementPackets.statement_of}
use Rattle.packets.proofs.{Formats.spells, Formats.left_over, Formats.none_left, StatementSteps.statement_opening, StatementSteps.statement_closing, StatementSteps.figures_back}
use Rattle.packets.proofs.statements.read_statement.Goals as goal

-- the statement of figures that were read, or the fault of the bytes
abbrev stated : Result (List ℕ) ByteFault → Result StatementFigures ByteFault
stated w = and_then w (λ figures. Ok (statement_of figures))

-- a row of which the limits are known by an equation
row_by : {limits other : List Limits} (bytes : List ℕ) (at : ℕ) (figures : List ℕ) (r : Result ℕ ByteFault) → other ≡ limits → RowRead other bytes at figures r → RowRead limits bytes at figures r
row_by bytes at figures r is read = subst (λ ls. RowRead ls bytes at figures r) is read

pub returns-in_err-middle-clause-value : goal.returns-in_err-middle-clause-value
returns-in_err-middle-clause-value c =
    let is : c.from_residual.result ≡ Err c.in_err-middle.field-0.0 = search rules in
    is ∙ sym (ap stated (statement_opening c.args.bytes.now _ _ c.in_err-middle.ensures.read))

pub returns-in_err-end-clause-value : goal.returns-in_err-end-clause-value
returns-in_err-end-clause-value c =
    let is : c.from_residual-in_err-end.result ≡ Err c.in_err-end.field-0.0 = search rules in
    let second = row_by c.args.bytes.now _ _ _ c.closing.ensures c.in_err-end.ensures.read in
    is ∙ sym (ap stated (statement_closing c.args.bytes.now _ _ _ _ c.in_ok-middle.ensures.read second))

pub returns-then-end-bytes-clause-value : goal.returns-then-end-bytes-clause-value
returns-then-end-bytes-clause-value c =
    let second = row_by c.args.bytes.now _ _ _ c.closing.ensures c.in_ok-end.ensures.read in
    sym (ap stated (statement_closing c.args.bytes.now _ _ _ _ c.in_ok-middle.ensures.read second ∙ left_over c.args.bytes.now _ _ _ c.if-end-bytes.true))

-- all of the packet
known : (c : goal.After-of) → whole statement_format c.args.bytes.now 0 ≡ Ok (c.read_row.new.figures ++ c.read_row-2.new.figures)
known c =
    let second = row_by c.args.bytes.now _ _ _ c.closing.ensures c.in_ok-end.ensures.read in
    statement_closing c.args.bytes.now _ _ _ _ c.in_ok-middle.ensures.read second ∙ none_left c.args.bytes.now _ _ _ c.if-end-bytes.false

pub returns-clause-value : goal.returns-clause-value
returns-clause-value c = ap Ok c.of.ensures ∙ sym (ap stated (known c))

pub returns-clause-once : goal.returns-clause-once
returns-clause-once c =
    let figures = c.read_row.new.figures ++ c.read_row-2.new.figures in
    let P : List ℕ → Type 0 = λ vs. Spells statement_format vs c.args.bytes.now in
    let same : statement_figures c.of.result ≡ figures = ap statement_figures c.of.ensures ∙ figures_back figures (omega (arith, length-append c.read_row.new.figures c.read_row-2.new.figures)) in
    subst P (sym same) (spells statement_format figures c.args.bytes.now c.type_inv.bytes (known c))
