use Rattle.std.proofs.Common.{length, ℕ, ap, arith, length-set}
use Rattle.std.proofs.lemmas.List.{length-take, length-drop}
use Rattle.packets.proofs.Spelling.{spelled_more, over_low, over_more}
use Rattle.packets.proofs.numbers.+write_number.Goals as goal

pub slice_bounds-write_number-count : goal.slice_bounds-write_number-count
slice_bounds-write_number-count t c = omega (arith, ap length (spelled_more c.args.value c.if-value-lt128.false), length-set {A = ℕ})

pub slice_bounds-write_number-start : goal.slice_bounds-write_number-start
slice_bounds-write_number-start t c = omega (arith, ap length (spelled_more c.args.value c.if-value-lt128.false), length-set {A = ℕ})

pub write_number-requires : goal.write_number-requires
write_number-requires t c = (omega arith, omega (arith, ap length (spelled_more c.args.value c.if-value-lt128.false), length-set {A = ℕ}, length-take {A = ℕ}, length-drop {A = ℕ}))

pub returns-then-value-lt128 : goal.returns-then-value-lt128
returns-then-value-lt128 t c = over_low c.args.value c.args.output.now c.if-value-lt128.true c.requires

pub returns-else-value-lt128 : goal.returns-else-value-lt128
returns-else-value-lt128 t c = over_more c.args.value c.args.output.now c.write_number.new.output c.if-value-lt128.false c.requires c.write_number.ensures
