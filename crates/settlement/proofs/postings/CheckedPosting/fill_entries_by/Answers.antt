use Rattle.std.proofs.Common.{◌≡◌, ℕ, ◌<◌, ◌≢◌, List, length, get_or, pos, ◌∙◌, arith, below_more}
use Rattle.std.proofs.lemmas.List.{FromFn.fill_by_all, get_or-set_same, get_or-set_other}
use Rattle.settlement.{specs.declared.agents.Agent.Agent, specs.Holdings.no_holding, specs.Holdings.entry_of, specs.Hour.figures_with, specs.Hour.own_of, specs.Hour.obligated_sum, specs.Hour.weights_of, specs.Posting.Posting, specs.Posting.posting_of, proofs.Bounds.carried_le, proofs.Sharing.part_read, proofs.Sharing.weights_le}
use Rattle.settlement.proofs.postings.CheckedPosting.fill_entries_by.Goals as goal

pub fill_parts-requires-clause-limit : goal.fill_parts-requires-clause-limit
fill_parts-requires-clause-limit c =
    let checked = c.args.self.now in
    omega (arith, weights_le checked.agents.now checked.posting.lines.now, checked.fits.withdrawn_within)

pub entry-requires : goal.entry-requires
entry-requires c =
    let checked = c.args.self.now in
    let p : Posting = posting_of checked.posting in
    let read = part_read (obligated_sum p) (weights_of checked.agents.now p.lines) c.fill_parts.new.parts c.loop-i.i c.fill_parts.ensures.value in
    let most = carried_le p checked.fits checked.agents.now c.loop-i.i c.loop-i-test.true in
    record { caused_within = c.caused_excess.ensures.bound; carried_within = omega arith }

pub loop-i-preserved : goal.loop-i-preserved
loop-i-preserved c =
    let i = c.loop-i.i in
    let agents : List Agent = c.args.self.now.agents.now in
    let p : Posting = posting_of c.args.self.now.posting in
    let read = part_read (obligated_sum p) (weights_of agents p.lines) c.fill_parts.new.parts i c.fill_parts.ensures.value in
    let made : c.entry.result ≡ entry_of (own_of agents p i) = c.entry.ensures ∙ (λ t.
    entry_of (figures_with (c.priced.ensures.price t) (c.priced.ensures.line t) (pos 0) (c.caused_excess.ensures.value t) (read t))) in
    below_more _ _
    (λ k h. let ne : k ≢ i = omega arith in rw get_or-set_other (c.loop-i.invariant k h))
    (let lt : i < length c.loop-i.fresh = omega arith in get_or-set_same c.loop-i.fresh i c.entry.result no_holding lt ∙ made)

pub returns : goal.returns
returns c =
    let checked = c.args.self.now in
    fill_by_all (λ i. entry_of (own_of checked.agents.now (posting_of checked.posting) i)) c.loop-i.fresh (length checked.posting.lines.now) no_holding (omega (arith, c.loop-i.auto.fresh))
    (λ k within. c.loop-i.invariant k (omega arith))
