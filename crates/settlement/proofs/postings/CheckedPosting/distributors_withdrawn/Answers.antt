use Rattle.std.proofs.Common.{◌≡◌, ℕ, sum_by, ◌∙◌, arith, rules}
use Rattle.std.{specs.List.zip, proofs.lemmas.Iterator.YieldsList-from_slice, proofs.lemmas.Iterator.YieldsList-from_zip, proofs.lemmas.Iterator.YieldsList-from_map, proofs.lemmas.Iterator.Consumers.sum_by_from_yields_List}
use Rattle.settlement.{specs.declared.agents.Agent.Agent, specs.declared.lines.Line.Line, specs.Agents.no_agent, specs.Agents.counted, specs.Lines.no_line, proofs.Settles.distributors_le}
use Rattle.forms.specs.Roles.{distributes}
use Rattle.tally.proofs.Numbers.{sum_by_zip}
use Rattle.settlement.proofs.postings.CheckedPosting.distributors_withdrawn.Goals as goal

-- what the agent of a line withdrew, if it is a distributor
abbrev distributed : Line × Agent → ℕ
distributed p = counted distributes p.1.role p.0.withdrawn

pub returns : goal.returns
returns c =
    let checked = c.args.self.now in
    let sum : c.sum-all.result ≡ sum_by distributed (zip checked.posting.lines.now checked.agents.now) =
    sum_by_from_yields_List distributed _ c.map.result c.sum-all.result c.sum-all.ensures.ran
    (YieldsList-from_map _ distributed (YieldsList-from_zip (YieldsList-from_slice checked.posting.lines.now cc) (YieldsList-from_slice checked.agents.now cc)) c.map.ensures.closure (λ x r q k. search rules)) in
    sum ∙ sum_by_zip distributed checked.posting.lines.now checked.agents.now no_line no_agent checked.agents_long

pub overflow_cast-result : goal.overflow_cast-result
overflow_cast-result c =
    let checked = c.args.self.now in
    let sum : c.sum-all.result ≡ sum_by distributed (zip checked.posting.lines.now checked.agents.now) =
    sum_by_from_yields_List distributed _ c.map.result c.sum-all.result c.sum-all.ensures.ran
    (YieldsList-from_map _ distributed (YieldsList-from_zip (YieldsList-from_slice checked.posting.lines.now cc) (YieldsList-from_slice checked.agents.now cc)) c.map.ensures.closure (λ x r q k. search rules)) in
    let all = sum ∙ sum_by_zip distributed checked.posting.lines.now checked.agents.now no_line no_agent checked.agents_long in
    record { fits = omega (arith, distributors_le checked.agents.now checked.posting.lines.now, checked.fits.withdrawn_within) }
