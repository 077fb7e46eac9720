-- What a posting that meets no fault is known to be. Assumes nothing.
use Rattle.std.proofs.Common.{◌≡◌, ℕ, ◌<◌, ◌≤◌, true, false, not, eqb, ltb, length, None, sym, ap, ◌∙◌, arith}
use Rattle.std.proofs.lemmas.Bool.{or_parts, not-false, eqb-true, leb-false, ltb-false}
use Rattle.tally.proofs.Failing.{each_passed}
use Rattle.forms.specs.Limits.{most_agents}
use Rattle.valuation.specs.Limits.{most_energy, most_price}
use Rattle.settlement.{specs.Posting.Posting, specs.PostingFaults.head_fault, specs.PostingFaults.within_at, specs.PostingFaults.limit_fault, specs.PostingFaults.kept_at, specs.PostingFaults.together_fault, specs.PostingFaults.line_faults, specs.PostingFaults.line_fault, specs.PostingFaults.injected_together, specs.PostingFaults.withdrawn_together, specs.PostingFaults.uncarried, specs.PostingFaults.posting_faults, specs.PostingFaults.posting_fault, specs.PostingFaults.PostingFits, specs.Setting.Setting, specs.Setting.hours_in, proofs.FaultTables.unmet, proofs.FaultTables.NoneMet, proofs.FaultTables.first_met_none, proofs.FaultTables.mapped_none, proofs.FaultTables.of_posting_none}

module _ (count : ℕ) (p : Posting) (head : None ≡ head_fault count p) where
  heads : ((not (eqb (length p.lines) count)) ≡ false) × (ltb most_price p.price ≡ false)
  heads = or_parts (not (eqb (length p.lines) count)) (ltb most_price p.price) (unmet _ _ head)

  -- as many lines as agents
  pub head_long : length p.lines ≡ count
  head_long = eqb-true _ _ (not-false _ heads.0)

  -- a posting that faults 5 to 7 let pass fits
  pub posting_fits : count ≤ most_agents → None ≡ limit_fault p.lines → None ≡ together_fault p.lines → PostingFits p
  posting_fits few limit together =
      let sums = or_parts (ltb most_energy (injected_together p.lines)) (ltb most_energy (withdrawn_together p.lines)) (unmet _ _ together) in
      record {
        few_lines = omega (arith, head_long);
        price_within = ltb-false _ _ heads.1;
        each_within = λ i within. ap (within_at p.lines) (omega arith) ∙ each_passed (within_at p.lines) 0 (length p.lines) (mapped_none _ _ limit) i within;
        withdrawn_within = ltb-false _ _ sums.1;
      }

-- all that is known
pub record Checked (setting : Setting) (p : Posting) : Type 0 where
  pub long : length p.lines ≡ length setting.agents
  pub fits : PostingFits p
  pub kept : (i : ℕ) → i < length p.lines → kept_at setting.agents p.lines i ≡ true
  pub carried : uncarried setting.agents p ≡ false

module _ (setting : Setting) (p : Posting) (faultless : posting_fault setting p ≡ None) where
  all_none : NoneMet (posting_faults setting p)
  all_none = first_met_none (posting_faults setting p) faultless

  own_none : NoneMet (line_faults setting p)
  own_none = first_met_none (line_faults setting p) (of_posting_none (line_fault setting p) all_none.0)

  -- its hour is one of the month
  pub hour_within : p.hour < hours_in setting
  hour_within = leb-false (hours_in setting) p.hour (unmet _ _ (sym own_none.0))

  -- all its injected energy is within the limit of an hour, as all its withdrawn energy is
  pub injected_within : injected_together p.lines ≤ most_energy
  injected_within = ltb-false most_energy (injected_together p.lines) (or_parts _ _ (unmet _ _ (sym own_none.1.1.1.1.0))).0

  pub checked : length setting.agents ≤ most_agents → Checked setting p
  checked few =
      let head = sym own_none.1.0 in
      record {
        long = head_long (length setting.agents) p head;
        fits = posting_fits (length setting.agents) p head few (sym own_none.1.1.0) (sym own_none.1.1.1.1.0);
        kept = λ i below.
            ap (kept_at setting.agents p.lines) (omega arith)
            ∙ each_passed (kept_at setting.agents p.lines) 0 (length p.lines) (mapped_none _ _ (sym own_none.1.1.1.0)) i below;
        carried = unmet _ _ (sym all_none.1.0);
      }
