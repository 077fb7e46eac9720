use Rattle.std.proofs.Common.{◌≡◌, ◌+◌, not, List, length, position, sym, ap, ◌∙◌, refl, rules}
use borrow.Author.Tests.{tests}
use Rattle.std.{specs.Option.option_map, proofs.lemmas.Iterator.YieldsList-from_slice, proofs.lemmas.Iterator.Search.position_from_yields_List}
use Rattle.tally.{specs.Failing.first_failing, proofs.Failing.first_is}
use Rattle.settlement.specs.{declared.faults.LineFault.TheVariants.OutsideLimit, declared.lines.Line.Line, Lines.line_within, Lines.no_line, Posting.line_at}
use Rattle.settlement.proofs.postings.PostedLines.check_limits.Goals as goal

-- the first line with a figure outside its limit, by its place
first_outside : (lines : List Line) → position (λ (l : Line). not (line_within l)) lines ≡ first_failing (λ i. line_within (line_at lines i)) 0 (length lines)
first_outside lines = first_is (λ (l : Line). not (line_within l)) (λ i. line_within (line_at lines i)) lines no_line (λ i within. refl)

pub returns-in-Some : goal.returns-in-Some
returns-in-Some c =
    ap (option_map (λ i. OutsideLimit (i + 1))) (sym c.in-Some.is
    ∙ position_from_yields_List (λ (l : Line). not (line_within l)) _ _ c.position-first.result c.position-first.ensures.ran (YieldsList-from_slice c.args.self.now.lines.now cc) (λ x b q k. search (rules, tests))
    ∙ first_outside c.args.self.now.lines.now)

pub returns-in-None : goal.returns-in-None
returns-in-None c =
    ap (option_map (λ i. OutsideLimit (i + 1))) (sym c.in-None.is
    ∙ position_from_yields_List (λ (l : Line). not (line_within l)) _ _ c.position-first.result c.position-first.ensures.ran (YieldsList-from_slice c.args.self.now.lines.now cc) (λ x b q k. search (rules, tests))
    ∙ first_outside c.args.self.now.lines.now)
