use Rattle.std.proofs.Common.{◌≡◌, true, sum_by, ◌∙◌, arith, rules}
use Rattle.std.proofs.lemmas.Iterator.{YieldsList-from_slice, Adapters.serves_from_places}
use Rattle.settlement.{specs.Hour.obligated_on, specs.Lines.line_within, specs.Lines.no_line, specs.Posting.Posting, specs.Posting.posting_of, proofs.Bounds.item_within, proofs.Bounds.obligated_le}
use Rattle.tally.proofs.Numbers.{sum_by_list}
use Rattle.settlement.proofs.postings.CheckedPosting.obligated_excess.Goals as goal

pub sum-requires-clause-can : goal.sum-requires-clause-can
sum-requires-clause-can c =
    let p : Posting = posting_of c.args.self.now.posting in (
      tt,
      serves_from_places (YieldsList-from_slice p.lines cc) (λ x q k. search rules) (λ x k below is.
          let within : line_within x.now ≡ true = item_within p c.args.self.now.fits k x.now below is in search rules),
    )

pub returns-clause-value : goal.returns-clause-value
returns-clause-value c =
    let p : Posting = posting_of c.args.self.now.posting in
    let sum : c.sum.result ≡ sum_by (obligated_on p.price) p.lines = search rules in
    sum ∙ sum_by_list (obligated_on p.price) p.lines no_line

pub returns-clause-bound : goal.returns-clause-bound
returns-clause-bound c =
    omega (arith, returns-clause-value c, obligated_le (posting_of c.args.self.now.posting) c.args.self.now.fits)
