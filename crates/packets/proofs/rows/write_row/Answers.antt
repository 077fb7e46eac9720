use Rattle.std.proofs.Common.{ℕ, List, get_or, length, take, ap, ◌∙◌, sym, arith}
use Rattle.std.proofs.lemmas.List.{length-take, length-drop, length-append, Folds.length-flat_map-take}
use Rattle.packets.specs.{Numbers.spelled, Numbers.overwritten, Formats.spelled_all}
use Rattle.packets.proofs.RowSteps.{over_next, pieces_next}
use Rattle.packets.proofs.rows.write_row.Goals as goal

pub write_number-requires : goal.write_number-requires
write_number-requires c =
    omega (arith, length-flat_map-take spelled c.args.figures.now c.loop-figure.figure-index 0 c.loop-figure-test.true, length-take {A = ℕ}, length-drop {A = ℕ})

pub loop-figure-preserved : goal.loop-figure-preserved
loop-figure-preserved c =
    let i = c.loop-figure.figure-index in
    let figures : List ℕ = c.args.figures.now in
    let done = spelled_all (take i figures) in
    let next = spelled (get_or figures i 0) in
    let more = pieces_next spelled figures i 0 c.loop-figure-test.true in
    record {
      at = omega (arith, ap length more, length-append done next);
      output = over_next done next c.args.output.now c.loop-figure.output c.write_number.new.output c.loop-figure.at c.loop-figure.invariant.output c.loop-figure.invariant.at c.write_number.ensures
          ∙ ap (λ xs. overwritten xs c.args.output.now) (sym more);
    }
