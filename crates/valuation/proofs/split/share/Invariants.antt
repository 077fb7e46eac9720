-- The parts so far stand in their places, and the sharing has come as far as the weights.
use Rattle.std.proofs.Common.{◌≡◌, ℕ, ◌<◌, get_or, take, sum}
use Rattle.valuation.specs.Sharing.{part_of}
use Rattle.valuation.proofs.split.share.Given as goal

abbrev pub invariant-loop-i : goal.invariant-loop-i
invariant-loop-i l = record {
  points : l.split.points ≡ l.points;
  total : l.split.total ≡ sum l.weights;
  before : l.split.before ≡ sum (take l.i l.weights);
  filled : (k : ℕ) → k < l.i → get_or l.parts k 0 ≡ part_of l.points l.weights k;
}
