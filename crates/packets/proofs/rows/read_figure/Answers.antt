use Rattle.std.proofs.Common.{◌≡◌, None, Some, drop, ap, ◌∙◌, sym, arith}
use Rattle.std.proofs.lemmas.List.{take_rest, length-drop}
use Rattle.packets.specs.Numbers.{at_most, number_in}
use Rattle.packets.proofs.{Spelling.at_most_some, Spelling.read_ten, Spelling.size_le, Formats.figure_ok, RowSteps.figure_some, RowSteps.figure_low, RowSteps.figure_none}
use Rattle.packets.proofs.rows.read_figure.Goals as goal

pub returns-in_default-clause-value : goal.returns-in_default-clause-value
returns-in_default-clause-value c =
    let bytes = c.args.bytes.now in
    let none : at_most c.args.limits.most (number_in (drop c.args.at bytes)) ≡ None = ap (λ xs. at_most c.args.limits.most (number_in xs)) (sym (take_rest bytes c.args.at)) ∙ sym c.read_number.ensures ∙ c.in_default.is in
    sym (figure_none c.args.limits bytes c.args.at none)

pub returns-then-number-limits-clause-value : goal.returns-then-number-limits-clause-value
returns-then-number-limits-clause-value c =
    let bytes = c.args.bytes.now in
    let some : at_most c.args.limits.most (number_in (drop c.args.at bytes)) ≡ Some c.in-Some.number = ap (λ xs. at_most c.args.limits.most (number_in xs)) (sym (take_rest bytes c.args.at)) ∙ sym c.read_number.ensures ∙ c.in-Some.is in
    sym (figure_low c.args.limits bytes c.args.at c.in-Some.number some c.if-number-limits.true)

pub returns-clause-value : goal.returns-clause-value
returns-clause-value c =
    let bytes = c.args.bytes.now in
    let some : at_most c.args.limits.most (number_in (drop c.args.at bytes)) ≡ Some c.in-Some.number = ap (λ xs. at_most c.args.limits.most (number_in xs)) (sym (take_rest bytes c.args.at)) ∙ sym c.read_number.ensures ∙ c.in-Some.is in
    sym (figure_some c.args.limits bytes c.args.at c.in-Some.number some c.if-number-limits.false)

pub returns-clause-among : goal.returns-clause-among
returns-clause-among c =
    let bytes = c.args.bytes.now in
    omega (arith, size_le (drop c.args.at bytes) c.in-Some.number (figure_ok c.args.limits bytes c.args.at c.in-Some.number (sym (returns-clause-value c))).0, length-drop c.args.at bytes)

pub returns-clause-near : goal.returns-clause-near
returns-clause-near c =
    let some = at_most_some c.args.limits.most (number_in _) c.in-Some.number (sym c.read_number.ensures ∙ c.in-Some.is) in
    read_ten _ c.in-Some.number (omega arith) some
