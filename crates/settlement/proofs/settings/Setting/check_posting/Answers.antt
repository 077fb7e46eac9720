use Rattle.std.proofs.Common.{length, sym}
use Rattle.settlement.{specs.Posting.Posting, specs.Posting.posting_of, proofs.Checked.head_long, proofs.Checked.posting_fits}
use Rattle.settlement.proofs.settings.Setting.check_posting.Goals as goal

pub invariant_of-result : goal.invariant_of-result
invariant_of-result g c =
    let count = length c.args.self.now.agents.now in
    let p : Posting = posting_of c.args.posting.now in
    let head = c.in_ok-check_head.ensures in
    record {
      stamped = c.in_ok-stamp.ensures.hour;
      fits = posting_fits count p head c.requires c.in_ok-check_limits.ensures c.in_ok-check_together.ensures;
      agents_long = sym (head_long count p head);
    }
