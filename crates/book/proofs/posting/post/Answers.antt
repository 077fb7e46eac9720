use Rattle.std.proofs.Common.{◌≡◌, None, set, sym, refl, ap, ◌∙◌}
use Rattle.std.specs.List.{list_all}
use Rattle.std.proofs.lemmas.Result.{err_from_is_err_and}
use Rattle.calendar.specs.Limits.{hours_of}
use Rattle.forms.specs.Meaning.{Meaning}
use Rattle.settlement.specs.{ContractFaults.place_fits, Faults.met_if, Faults.of_posting, Holdings.entry_of, Legs.hour_of, Posting.posting_of, PostingFaults.line_fault, PostingFaults.uncarried, Setting.Setting, Setting.setting_of, declared.faults.BookFault.TheVariants.NoCarrier}
use Rattle.book.specs.{Lent.memory_in, Memory.Memory, Memory.memory_fault, Memory.setting_in, Months.figures_of, Months.setting_with, Rewriting.rewritten}
use Rattle.book.proofs.Tables.{memory_fits, next_row, this_row, refused, accepted}
use Rattle.book.proofs.posting.post.Goals.{After-setting-setting}
use Rattle.book.proofs.posting.post.Goals as goal
use Rattle.book.proofs.posting.post.Given as given

module _ (g : given.Over) (c : After-setting-setting g) where
  abbrev form : Meaning
  form = g.F.ContractForm.meaning c.args.form.now

  abbrev m : Memory
  m = memory_in c.args.pool.now c.args.ledger.now

  -- memory was met with no fault
  sound : None ≡ memory_fault form (figures_of c.args.month.now) m
  sound = c.in_ok-check.ensures ∙ (λ t. memory_fault form (c.extent-month.ensures t) (c.view.ensures t))

  -- the hour is settled with what stands in it
  setting : setting_of (g.F.ContractForm.meaning c.setting-setting.result.form.now) c.setting-setting.result ≡ setting_in form (figures_of c.args.month.now) m
  setting = c.setting-setting.ensures ∙ (λ t. setting_with form (c.extent-month.ensures t) m.agents m.contracts)

pub returns-in_err-check-clause-value : goal.returns-in_err-check-clause-value
returns-in_err-check-clause-value g c =
    let form = g.F.ContractForm.meaning c.args.form.now in
    let p = err_from_is_err_and c.from_residual.result c.from_residual.ensures.1 in
    rw (p.1, p.2) (refused _ _ _ _ _ (this_row _ _ _ (c.in_err-check.ensures ∙ (λ t. memory_fault form (c.extent-month.ensures t) (c.view.ensures t)))))

pub returns-in_err-checked-clause-value : goal.returns-in_err-checked-clause-value
returns-in_err-checked-clause-value g c =
    let at = (goal.at.returns-in_err-checked-clause-value g c).After-setting-setting in
    let p = err_from_is_err_and c.from_residual-in_err-checked.result c.from_residual-in_err-checked.ensures.1 in
    rw (p.1, p.2)
    (refused _ _ _ _ _
    (next_row _ _ _ (sound g at)
    (this_row _ _ _ (ap of_posting (c.in_err-checked.ensures.fault ∙ (λ t. line_fault (setting g at t) (posting_of c.args.posting.now)))))))

pub returns-in_err-check_carriers-clause-value : goal.returns-in_err-check_carriers-clause-value
returns-in_err-check_carriers-clause-value g c =
    let at = (goal.at.returns-in_err-check_carriers-clause-value g c).After-setting-setting in
    let agents = c.in_ok-checked.ensures.agents ∙ ap (λ (s : Setting). s.agents) (setting g at) in
    let p = err_from_is_err_and c.from_residual-in_err-check_carriers.result c.from_residual-in_err-check_carriers.ensures.1 in
    rw (p.1, p.2)
    (refused _ _ _ _ _
    (next_row _ _ _ (sound g at)
    (next_row _ _ _ (ap of_posting (c.in_ok-checked.ensures.fault ∙ (λ t. line_fault (setting g at t) (posting_of c.args.posting.now))))
    (this_row _ _ _ (c.in_err-check_carriers.ensures ∙ (λ t. met_if (uncarried (agents t) (c.in_ok-checked.ensures.posting t)) NoCarrier))))))

pub write_posting-requires-clause-fit : goal.write_posting-requires-clause-fit
write_posting-requires-clause-fit g c =
    let at = (goal.at.write_posting-requires-clause-fit g c).After-setting-setting in
    (λ t. list_all (place_fits (setting g at t)) (setting g at t).places) ∙ (memory_fits (form g at) (figures_of c.args.month.now) (m g at) (sound g at)).contracts_fit

pub returns-clause-value : goal.returns-clause-value
returns-clause-value g c =
    let at = (goal.at.returns-clause-value g c).After-setting-setting in
    let before : Memory = m g at in
    let stood = setting g at in
    let posting = c.in_ok-checked.ensures.posting in
    let agents = c.in_ok-checked.ensures.agents ∙ ap (λ (s : Setting). s.agents) stood in
    accepted _ _ _ _ _
    (next_row _ _ _ (sound g at)
    (next_row _ _ _ (ap of_posting (c.in_ok-checked.ensures.fault ∙ (λ t. line_fault (stood t) (posting_of c.args.posting.now))))
    (next_row _ _ _ (c.in_ok-check_carriers.ensures ∙ (λ t. met_if (uncarried (agents t) (posting t)) NoCarrier)) refl)))
    ((λ t. record before { accounts = c.write_posting.ensures.accounts t; marks = set before.marks (sym posting t).hour 1; entries = c.write_posting.ensures.entries t })
    ∙ (λ t. rewritten (hours_of (stood t).days) (posting t).hour 1 (λ i. entry_of (hour_of (stood t) (posting t) i)) before))
