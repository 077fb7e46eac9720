use Rattle.std.proofs.Common.{◌≡◌, sum_by, ◌∙◌, rules}
use Rattle.settlement.specs.{declared.lines.Line.Line, Lines.no_line}
use Rattle.tally.proofs.Numbers.{sum_by_list}
use Rattle.settlement.proofs.postings.PostedLines.energy_together.Goals as goal

pub returns : goal.returns
returns c =
    let lines = c.args.self.now.lines.now in
    let injected : c.sum-injected.result ≡ sum_by (λ (l : Line). l.injected) lines = search rules in
    let withdrawn : c.sum-withdrawn.result ≡ sum_by (λ (l : Line). l.withdrawn) lines = search rules in
    record {
      injected = injected ∙ sum_by_list (λ (l : Line). l.injected) lines no_line;
      withdrawn = withdrawn ∙ sum_by_list (λ (l : Line). l.withdrawn) lines no_line;
    }
