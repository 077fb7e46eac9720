use Rattle.std.proofs.Common.{ℕ, ◌-◌, ◌/◌, ◌<◌, List, length, take, drop, sym, ap, ◌∙◌, arith}
use Rattle.std.proofs.lemmas.{Bool.Decides.nat_tests, List.length-take, List.length-drop}
use Rattle.packets.specs.Numbers.{at_most, continued, number_in}
use Rattle.packets.proofs.Spelling.{read_empty, first_low, first_more, capped, capped_under, at_most_some, continued_zero, continued_some, size_le}
use Rattle.packets.proofs.numbers.+read_number.Goals as goal

pub returns-in_default : goal.returns-in_default
returns-in_default t c = ap (at_most c.args.most) (sym (read_empty c.args.bytes.now c.in_default.len_below))

pub returns-then-group-lt128 : goal.returns-then-group-lt128
returns-then-group-lt128 t c =
    let e = first_low c.args.bytes.now c.from-group.result c.in-len1-up.len_at_least c.from-group.ensures c.if-group-lt128.true in
    rw e (grind (arith, nat_tests))

pub returns-then-most-lt128 : goal.returns-then-most-lt128
returns-then-most-lt128 t c =
    let e = first_more c.args.bytes.now c.from-group.result c.in-len1-up.len_at_least c.from-group.ensures c.if-group-lt128.false in
    rw e (sym (capped c.args.most c.from-group.result _ c.if-most-lt128.true))

pub returns-in_err-high : goal.returns-in_err-high
returns-in_err-high t c =
    let e = first_more c.args.bytes.now c.from-group.result c.in-len1-up.len_at_least c.from-group.ensures c.if-group-lt128.false in
    let k = capped_under c.args.most c.from-group.result _ c.if-group-lt128.false (sym c.read_number.ensures ∙ (cc)) in
    rw e (cc)

pub returns-then-high-eq0 : goal.returns-then-high-eq0
returns-then-high-eq0 t c =
    let e = first_more c.args.bytes.now c.from-group.result c.in-len1-up.len_at_least c.from-group.ensures c.if-group-lt128.false in
    let high = at_most_some (c.args.most / 128) _ c.in_ok-high.high (sym c.read_number.ensures ∙ c.in_ok-high.was) in
    let k = continued_zero c.from-group.result c.in_ok-high.high c.if-high-eq0.true in
    rw e (sym (ap (λ n. at_most c.args.most (continued c.from-group.result n)) high ∙ ap (at_most c.args.most) k))

pub overflow_add-size : goal.overflow_add-size
overflow_add-size t c =
    let rest : List ℕ = take (length c.args.bytes.now - 1) (drop 1 c.args.bytes.now) in
    let high = at_most_some (c.args.most / 128) (number_in rest) c.in_ok-high.high (sym c.read_number.ensures ∙ c.in_ok-high.was) in
    record { fits = omega (arith, size_le rest c.in_ok-high.high high, length-take {A = ℕ}, length-drop {A = ℕ}) }

pub returns : goal.returns
returns t c =
    let some : 0 < c.in_ok-high.high.value = omega arith in
    let e = first_more c.args.bytes.now c.from-group.result c.in-len1-up.len_at_least c.from-group.ensures c.if-group-lt128.false in
    let high = at_most_some (c.args.most / 128) _ c.in_ok-high.high (sym c.read_number.ensures ∙ c.in_ok-high.was) in
    let k = continued_some c.from-group.result c.in_ok-high.high some in
    rw e (grind (arith, nat_tests) ∙ sym (ap (λ n. at_most c.args.most (continued c.from-group.result n)) high ∙ ap (at_most c.args.most) k))
