use Rattle.std.proofs.Common.{◌≡◌, ◌+◌, length, ◌∙◌, sym, arith}
use Rattle.tally.proofs.Numbers.{sum_to_more}
use Rattle.settlement.specs.{Hour.injected_amount, Hour.withdrawn_amount, Posting.line_at, Posting.posting_of}
use Rattle.settlement.proofs.Differences.{difference}
use Rattle.audit.proofs.cases.posting_residue.Goals as goal

pub returns-clause-value : goal.returns-clause-value
returns-clause-value c =
    let all : c.loop-line.line-index ≡ length c.args.posting.now.lines.now = omega arith in
    let small = c.loop-line.invariant in
    rw (← all)
    (difference c.loop-line.withdrawn c.loop-line.injected _ _ small.withdrawn small.injected (omega (arith, small.withdrawn_small, c.requires.few_lines)) (omega (arith, small.injected_small, c.requires.few_lines)))

pub loop-line-preserved : goal.loop-line-preserved
loop-line-preserved c =
    let i = c.loop-line.line-index in
    let p = posting_of c.args.posting.now in
    let small = c.loop-line.invariant in
    let withdrawn : c.amount-withdrawn.result ≡ withdrawn_amount p.price (line_at p.lines i) = c.amount-withdrawn.ensures.value in
    let injected : c.amount-injected.result ≡ injected_amount p.price (line_at p.lines i) = c.amount-injected.ensures.value in
    record {
      withdrawn = (λ t. small.withdrawn t + withdrawn t) ∙ sym (sum_to_more i (λ j. withdrawn_amount p.price (line_at p.lines j)));
      withdrawn_small = omega (arith, small.withdrawn_small, c.amount-withdrawn.ensures.bound);
      injected = (λ t. small.injected t + injected t) ∙ sym (sum_to_more i (λ j. injected_amount p.price (line_at p.lines j)));
      injected_small = omega (arith, small.injected_small, c.amount-injected.ensures.bound);
    }
