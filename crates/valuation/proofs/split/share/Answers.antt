-- At the end the list is all the parts, and the laws of sharing hold of it.
use Rattle.std.proofs.Common.{◌≡◌, arith}
use Rattle.std.proofs.lemmas.List.FromFn.{fill_by_all}
use Rattle.valuation.specs.Sharing.{parts_of}
use Rattle.valuation.proofs.Sharing.{sum-parts_of, parts_of_fair, parts_of_within, parts_of_none}
use Rattle.valuation.proofs.split.share.Goals as goal

pub returns : goal.returns
returns c =
    let value : c.loop-i.parts ≡ parts_of c.args.points c.args.weights.now =
    fill_by_all _ _ _ 0 (omega arith) (λ k within. c.loop-i.invariant.filled k (omega arith)) in
    record {
      value = value;
      adds_up = rw value (sum-parts_of c.args.points c.args.weights.now);
      fair = rw value (parts_of_fair c.args.points c.args.weights.now);
      within = rw value (parts_of_within c.args.points c.args.weights.now);
      none = rw value (parts_of_none c.args.points c.args.weights.now);
    }
