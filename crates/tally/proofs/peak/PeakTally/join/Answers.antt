use Rattle.std.proofs.Common.{◌≡◌, ◌∙◌, arith, rules, tests}
use Rattle.std.proofs.lemmas.{Bool.Decides.nat_tests, Fn.always_returns_same}
use Rattle.std.specs.Ordering.{ord_max, ordering_then, nat_cmp}
use Rattle.tally.specs.{declared.peak.Peak.Peak, Peak.peak_joined, PeakLaws.peak_same}
use Rattle.tally.proofs.peak.PeakTally.join.Goals as goal

-- the larger by kWh, and of equal kWh by the earlier hour, is the two joined
larger : (x y : Peak) → ord_max (λ (a b : Peak). ordering_then (nat_cmp a.kwh b.kwh) (nat_cmp b.hour a.hour)) x y ≡ peak_joined x y
larger x y = peak_same _ _ (grind (arith, nat_tests)) (grind (arith, nat_tests))

pub returns : goal.returns
returns c =
    c.max_by_key.ensures (λ (p : Peak). (p.kwh, record { 0 = p.hour })) (always_returns_same _ _ _ (λ a r q k. search (rules, tests)))
    ∙ larger c.args.self c.args.other
