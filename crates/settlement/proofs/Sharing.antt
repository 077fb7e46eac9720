-- Energy that counts by roles, and the weights of an hour's sharing. Assumes nothing.
use Rattle.std.proofs.Common.{◌≡◌, get_or, ap, ◌∙◌, ℕ, ◌≤◌, Bool, List, length, sum, arith}
use Rattle.std.proofs.lemmas.Bool.Decides.{nat_tests}
use Rattle.forms.specs.{declared.roles.Role.Role, Roles.carries}
use Rattle.settlement.specs.{declared.agents.Agent.Agent, declared.lines.Line.Line, Agents.agent_at, Agents.counted, Hour.weight_at, Hour.weights_of, Posting.line_at, PostingFaults.withdrawn_together}
use Rattle.valuation.{specs.Sharing.part_of, specs.Sharing.parts_of, proofs.Sharing.slice_index_or-parts_of}
use Rattle.tally.proofs.Numbers.{sum_to_mono, sum_counting}

-- what counts is at most all of it
pub counted_le : (such : Role → Bool) (code energy : ℕ) → counted such code energy ≤ energy
counted_le such code energy = grind (arith, nat_tests)

-- where the parts stand, the one that a place carries
pub part_read : (points : ℕ) (weights parts : List ℕ) (i : ℕ) →
    parts ≡ parts_of points weights → get_or parts i 0 ≡ part_of points weights i
part_read points weights parts i shared = ap (λ ps. get_or ps i 0) shared ∙ slice_index_or-parts_of points weights i

-- and so all weights together
pub weights_le : (agents : List Agent) (lines : List Line) → sum (weights_of agents lines) ≤ withdrawn_together lines
weights_le agents lines =
    let each = sum_to_mono (length lines) (weight_at agents lines) (λ i. (line_at lines i).withdrawn)
    (λ i within. counted_le carries (agent_at agents i).role (line_at lines i).withdrawn) in
    omega (arith, sum_counting (weight_at agents lines) (length lines))
