use Rattle.std.proofs.Common.{◌≡◌, ℕ, ◌+◌, Bool, not, List, length, position, sym, ap, ◌∙◌, arith, rules}
use borrow.Author.Tests.{tests}
use Rattle.std.{specs.List.zip, specs.Option.option_map, proofs.lemmas.Iterator.YieldsList-from_slice, proofs.lemmas.Iterator.YieldsList-from_zip, proofs.lemmas.Iterator.Search.position_from_yields_List, proofs.lemmas.Slice.Zip.length-zip, proofs.lemmas.Slice.Zip.get_or-zip}
use Rattle.tally.{specs.Failing.first_failing, proofs.Failing.first_is}
use Rattle.settlement.specs.{declared.agents.Agent.Agent, declared.faults.LineFault.TheVariants.BreaksRule, declared.lines.Line.Line, Agents.no_agent, Lines.line_kept, Lines.no_line, PostingFaults.kept_at}
use Rattle.forms.specs.Roles.{role_of}
use Rattle.settlement.proofs.postings.PostedLines.check_rules.Goals as goal

-- a line of an agent that breaks the rule of its class
abbrev broken : ℕ → Line × Agent → Bool
broken count p = not (line_kept count (role_of p.1.role) p.0)

-- the first of them, by its place
first_broken : (agents : List Agent) (lines : List Line) → length lines ≡ length agents →
    position (broken (length agents)) (zip lines agents) ≡ first_failing (kept_at agents lines) 0 (length lines)
first_broken agents lines long =
    let pairs : length (zip lines agents) ≡ length lines = length-zip lines agents ∙ omega arith in
    first_is (broken (length agents)) (kept_at agents lines) (zip lines agents) (no_line, no_agent)
    (λ i within. ap (broken (length agents)) (get_or-zip lines agents i (no_line, no_agent) (omega arith) (omega arith)))
    ∙ ap (first_failing (kept_at agents lines) 0) pairs

pub returns-in-Some : goal.returns-in-Some
returns-in-Some c =
    let lines = c.args.self.now.lines.now in
    let agents = c.args.self.now.agents.now in
    ap (option_map (λ i. BreaksRule (i + 1))) (sym c.in-Some.is
    ∙ position_from_yields_List (broken (length agents)) c.position.new.self _ c.position.result c.position.ensures.ran (YieldsList-from_zip (YieldsList-from_slice lines cc) (YieldsList-from_slice agents cc)) (λ x b q k. search (rules, tests))
    ∙ first_broken agents lines c.args.self.now.each_has_one)

pub returns-in-None : goal.returns-in-None
returns-in-None c =
    let lines = c.args.self.now.lines.now in
    let agents = c.args.self.now.agents.now in
    ap (option_map (λ i. BreaksRule (i + 1))) (sym c.in-None.is
    ∙ position_from_yields_List (broken (length agents)) c.position.new.self _ c.position.result c.position.ensures.ran (YieldsList-from_zip (YieldsList-from_slice lines cc) (YieldsList-from_slice agents cc)) (λ x b q k. search (rules, tests))
    ∙ first_broken agents lines c.args.self.now.each_has_one)
