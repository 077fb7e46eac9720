use Rattle.std.proofs.Common.{◌≡◌, ℕ, ◌*◌, length, get_or, sum_by, min, ◌∙◌, arith, rules}
use Rattle.std.proofs.lemmas.Iterator.{YieldsList-from_slice, YieldsList-from_map, Consumers.sum_by_from_yields_List}
use Rattle.settlement.specs.{declared.agents.Agent.Agent, Agents.no_agent, Limits.points_per_kw, Limits.most_credit}
use Rattle.tally.proofs.Numbers.{sum_by_list, sum_to_le}
use Rattle.settlement.proofs.power.MonthPowerCarried.points.Goals as goal

-- a credit, which is at most that of the highest power that a figure can be
abbrev credit : Agent → ℕ
credit a = min (points_per_kw * a.power) most_credit

pub returns-clause-value : goal.returns-clause-value
returns-clause-value c =
    let sum : c.sum.result ≡ sum_by (λ (a : Agent). points_per_kw * a.power) c.args.self.now.agents.now = search rules in
    sum ∙ sum_by_list (λ (a : Agent). points_per_kw * a.power) c.args.self.now.agents.now no_agent

pub returns-clause-bound : goal.returns-clause-bound
returns-clause-bound c =
    let agents = c.args.self.now.agents.now in
    let sum : c.sum.result ≡ sum_by credit agents =
    sum_by_from_yields_List credit agents c.map.result c.sum.result c.sum.ensures.ran
    (YieldsList-from_map _ credit (YieldsList-from_slice agents cc) c.map.ensures.closure (λ x r q k. search rules)) in
    let most = sum_to_le (length agents) (λ i. credit (get_or agents i no_agent)) most_credit (λ i below. omega arith) in
    omega (arith, sum ∙ sum_by_list credit agents no_agent, c.args.self.now.few)
