use Rattle.std.proofs.Common.{ℕ, ◌+◌, ◌≤◌, cond, eqb, List, get_or, take, ℤ, pos, nat_abs, sym, ap, ◌∙◌, arith, w64}
use Rattle.std.proofs.lemmas.{Int.to_z-of_z, Slice.Zip.get_or-zip}
use Rattle.tally.{specs.Sums.int_sum_by, proofs.Numbers.fits_abs, proofs.Numbers.int_sum_by_more}
use Rattle.forms.specs.{Limits.most_leg, Parties.party_numbers, Parties.points_of, Parties.legs_by_party}
use Rattle.settlement.{specs.Holdings.Holding, specs.Holdings.no_holding, specs.Holdings.with_points, proofs.Points.points_none, proofs.Points.points_more}
use Rattle.settlement.proofs.legs.put_legs.Goals as goal

pub loop-number-init : goal.loop-number-init
loop-number-init c i within = sym (points_none (get_or c.args.fresh.now i no_holding))

pub put_leg-requires : goal.put_leg-requires
put_leg-requires c =
    let k = c.loop-number.number-index in
    let within = c.loop-number-test.true in
    let known = c.requires.known k 0 within in
    rw (c.legs_by_party.ensures, get_or-zip (party_numbers c.args.contract) (points_of c.args.legs) k (0, pos 0) within within)
    (record { some = known.0; known = omega (arith, known.1, c.loop-number.auto.fresh) })

pub loop-number-preserved : goal.loop-number-preserved
loop-number-preserved c i within =
    let k = c.loop-number.number-index in
    let legs : List (ℕ × ℤ) = legs_by_party c.args.contract c.args.legs in
    let old : Holding = get_or c.args.fresh.now i no_holding in
    let one : ℕ × ℤ → ℤ = λ leg. cond (eqb leg.0 (i + 1)) leg.1 (pos 0) in
    let none : ℕ × ℤ = (0, pos 0) in
    let leg : ℕ × ℤ = get_or legs k none in
    let at = get_or-zip (party_numbers c.args.contract) (points_of c.args.legs) k none c.loop-number-test.true c.loop-number-test.true in
    let small : nat_abs leg.1 ≤ most_leg = rw at (c.requires.balanced.within k (pos 0) c.loop-number-test.true) in
    let put = c.put_leg.ensures i (omega (arith, c.loop-number.auto.fresh)) in
    (rw (c.legs_by_party.ensures, to_z-of_z w64 leg.1 (fits_abs leg.1 (omega arith))) at put)
    ∙ ap (with_points (one leg)) (c.loop-number.invariant i within)
    ∙ points_more (int_sum_by one (take k legs)) (one leg) old
    ∙ ap (λ z. with_points z old) (sym (int_sum_by_more one legs k none c.loop-number-test.true))
