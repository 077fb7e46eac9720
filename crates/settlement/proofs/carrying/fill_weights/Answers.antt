use Rattle.std.proofs.Common.{arith}
use Rattle.std.proofs.lemmas.List.FromFn.{fill_by_all}
use Rattle.settlement.proofs.carrying.fill_weights.Goals as goal

pub returns : goal.returns
returns g c =
    fill_by_all (g.C.Carried.weight c.args.carried.now) c.loop-i.weights (g.C.Carried.agents c.args.carried.now) 0 (omega arith)
    (λ k within. c.loop-i.invariant k (omega arith))
