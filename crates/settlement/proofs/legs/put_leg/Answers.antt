use Rattle.std.proofs.Common.{◌≡◌, ◌-◌, get_or, set, sym, ap, ◌∙◌, arith, w64}
use Rattle.std.proofs.lemmas.{List.get_or_read, Int.to_z-of_z}
use Rattle.settlement.{specs.Holdings.no_holding, specs.Holdings.with_points, proofs.Points.points_placed}
use Rattle.settlement.proofs.legs.put_leg.Goals as goal

pub returns : goal.returns
returns c i within =
    let fresh = c.args.fresh.now in
    let place = c.args.number - 1 in
    let old : c.index-fresh-number.result ≡ get_or fresh place no_holding = get_or_read fresh place c.index-fresh-number.result (omega (arith, c.requires.known, c.requires.some)) c.index-fresh-number.is no_holding in
    let put : c.put_points.new.entry ≡ with_points c.args.points (get_or fresh place no_holding) =
    c.put_points.ensures ∙ (λ t. with_points (to_z-of_z w64 c.args.points c.ranges.points t) ((sym c.index-fresh-number.is ∙ old) t)) in
    ap (λ entry. get_or (set fresh place entry) i no_holding) put ∙ points_placed fresh c.args.number c.args.points i c.requires.some c.requires.known within
