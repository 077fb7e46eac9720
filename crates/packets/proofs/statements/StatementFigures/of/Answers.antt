use Rattle.std.proofs.Common.{get_or, sym, ◌∙◌, arith, w64}
use Rattle.std.proofs.lemmas.Int.{to_z-of_z}
use Rattle.packets.proofs.StatementSteps.{same_parts, statement_joined}
use Rattle.packets.proofs.statements.StatementFigures.of.Goals as goal

pub returns : goal.returns
returns c =
    let r = c.args.opening.now in
    let q = c.args.closing.now in
    same_parts (get_or r 0 0) (get_or r 1 0) (get_or q 1 0) (get_or q 2 0) (get_or q 3 0) (get_or q 4 0)
    (to_z-of_z w64 c.unfold_sign.result (record { sfits = c.unfold_sign.type_inv }) ∙ c.unfold_sign.ensures)
    (to_z-of_z w64 c.unfold_sign-2.result (record { sfits = c.unfold_sign-2.type_inv }) ∙ c.unfold_sign-2.ensures)
    (to_z-of_z w64 c.unfold_sign-3.result (record { sfits = c.unfold_sign-3.type_inv }) ∙ c.unfold_sign-3.ensures)
    (to_z-of_z w64 c.unfold_sign-4.result (record { sfits = c.unfold_sign-4.type_inv }) ∙ c.unfold_sign-4.ensures)
    (to_z-of_z w64 c.unfold_sign-5.result (record { sfits = c.unfold_sign-5.type_inv }) ∙ c.unfold_sign-5.ensures)
    ∙ sym (statement_joined r q (omega arith) (omega arith))
