use Rattle.std.proofs.Common.{◌≡◌, ◌*◌, ◌≤◌}
use Rattle.tally.specs.Sums.{sum_to}
use Rattle.valuation.specs.Limits.{most_amount}
use Rattle.settlement.specs.{Hour.injected_amount, Hour.withdrawn_amount, Posting.line_at, Posting.posting_of}
use Rattle.audit.proofs.cases.posting_residue.Given as goal

abbrev pub invariant-loop-line : goal.invariant-loop-line
invariant-loop-line l =
    let p = posting_of l.posting in
    record {
      withdrawn : l.withdrawn ≡ sum_to l.line-index (λ j. withdrawn_amount p.price (line_at p.lines j));
      withdrawn_small : l.withdrawn ≤ l.line-index * most_amount;
      injected : l.injected ≡ sum_to l.line-index (λ j. injected_amount p.price (line_at p.lines j));
      injected_small : l.injected ≤ l.line-index * most_amount;
    }
