use Rattle.std.proofs.Common.{◌≡◌, ℕ, ◌+◌, ◌<◌, length, get_or, set, sym, ap, ◌∙◌, subst, arith}
use Rattle.std.proofs.lemmas.List.{get_or_read}
use Rattle.book.specs.Rewriting.{entry_place, account_with}
use Rattle.settlement.specs.Holdings.{Holding, no_holding}
use Rattle.calendar.specs.Limits.{hours_of}
use Rattle.book.proofs.Columns.{place_within, Rewritten, Settled, account_after, rewritten_more, rewritten_old, rewritten_all, settled_more, settled_old, settled_all}
use Rattle.book.proofs.rewrites.replace_hour.Goals as goal

pub bounds-entries-at : goal.bounds-entries-at
bounds-entries-at c =
    let stamp = c.args.stamp in
    omega (
      arith,
      c.place-at.ensures,
      c.requires.entries_long,
      c.loop-i.auto.entries,
      place_within (hours_of stamp.days) stamp.hour (length c.args.fresh.now) c.loop-i.i stamp.within c.loop-i-test.true,
    )

pub loop-i-preserved : goal.loop-i-preserved
loop-i-preserved c =
    let stamp = c.args.stamp in
    let hours = hours_of stamp.days in
    let hour = stamp.hour in
    let fresh = c.args.fresh.now in
    let before = c.args.entries.now in
    let old = c.args.accounts.now in
    let i = c.loop-i.i in
    let at : entry_place hours i hour < length before =
    omega (arith, c.requires.entries_long, place_within hours hour (length fresh) i stamp.within c.loop-i-test.true) in
    let here : i < length old = omega (arith, c.requires.accounts_long) in
    let new_is : c.index-fresh-i.result ≡ get_or fresh i no_holding = get_or_read fresh i c.index-fresh-i.result c.loop-i-test.true c.index-fresh-i.is no_holding in
    let old_is : c.index-entries-at.result ≡ get_or before (entry_place hours i hour) no_holding =
    get_or_read c.loop-i.entries c.place-at.result c.index-entries-at.result (omega (arith, c.place-at.ensures, c.loop-i.auto.entries)) c.index-entries-at.is no_holding
    ∙ ap (λ n. get_or c.loop-i.entries n no_holding) c.place-at.ensures
    ∙ rewritten_old hours hour stamp.within fresh before i c.loop-i.entries at c.loop-i.invariant.0 in
    let account_is : c.index-accounts-i.result ≡ get_or old i no_holding =
    get_or_read c.loop-i.accounts i c.index-accounts-i.result (omega (arith, c.loop-i.auto.accounts)) c.index-accounts-i.is no_holding
    ∙ settled_old hours hour stamp.within fresh before old i c.loop-i.accounts here c.loop-i.invariant.1 in
    let updated : c.replace_entry.new.account ≡ account_after hours hour stamp.within fresh before old i =
    c.replace_entry.ensures.account
    ∙ (λ k. account_with ((sym c.index-accounts-i.is ∙ account_is) k) ((sym c.index-entries-at.is ∙ old_is) k) (new_is k)) in (
      subst (λ (x : ℕ × Holding). Rewritten hours hour stamp.within fresh before (i + 1) (set c.loop-i.entries x.0 x.1)) (λ k. (sym c.place-at.ensures k, sym (c.replace_entry.ensures.entry ∙ new_is) k))
          (rewritten_more hours hour stamp.within fresh before i c.loop-i.entries c.loop-i.auto.entries at c.loop-i.invariant.0),
      subst (λ x. Settled hours hour stamp.within fresh before old (i + 1) (set c.loop-i.accounts i x)) (sym updated)
          (settled_more hours hour stamp.within fresh before old i c.loop-i.accounts c.loop-i.auto.accounts here c.loop-i.invariant.1),
    )

pub returns : goal.returns
returns c =
    let stamp = c.args.stamp in
    let n = length c.args.fresh.now in
    let done : c.loop-i.i ≡ n = omega arith in
    record {
      entries =
          rewritten_all (hours_of stamp.days) stamp.hour stamp.within c.args.fresh.now c.args.entries.now n c.loop-i.entries c.loop-i.auto.entries c.requires.entries_long
          (subst (λ i. Rewritten (hours_of stamp.days) stamp.hour stamp.within c.args.fresh.now c.args.entries.now i c.loop-i.entries) done c.loop-i.invariant.0);
      accounts =
          settled_all (hours_of stamp.days) stamp.hour stamp.within c.args.fresh.now c.args.entries.now c.args.accounts.now n c.loop-i.accounts c.loop-i.auto.accounts c.requires.accounts_long
          (subst (λ i. Settled (hours_of stamp.days) stamp.hour stamp.within c.args.fresh.now c.args.entries.now c.args.accounts.now i c.loop-i.accounts) done c.loop-i.invariant.1);
    }
