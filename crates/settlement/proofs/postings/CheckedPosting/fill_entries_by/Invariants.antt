use Rattle.std.proofs.Common.{◌≡◌, ℕ, ◌<◌, get_or}
use Rattle.settlement.specs.{Holdings.no_holding, Holdings.entry_of, Hour.own_of, Posting.posting_of}
use Rattle.settlement.proofs.postings.CheckedPosting.fill_entries_by.Given as goal

abbrev pub invariant-loop-i : goal.invariant-loop-i
invariant-loop-i l =
    (k : ℕ) → k < l.i → get_or l.fresh k no_holding ≡ entry_of (own_of l.self.agents.now (posting_of l.self.posting) k)
