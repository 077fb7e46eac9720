-- The statement that memory gives is the one worked from what stands: nothing wraps. Assumes nothing.
use Rattle.std.proofs.Common.{◌≡◌, ℕ, ◌%◌, ◌^◌, ◌<◌, get_or, ap, ◌∙◌, mod-eq_of_lt, arith, w64}
use Rattle.std.specs.Int.{int_wrap}
use Rattle.std.proofs.lemmas.Int.{int_wrap_fits}
use Rattle.tally.specs.{Lines.balance_of, Money.lines_of, Peak.no_peak, Peak.peak_of, Peak.peak_joined, Total.total}
use Rattle.tally.proofs.{Lines.lines_fit, Lines.lines_of_money, Numbers.map_counting_same, Numbers.fits_abs}
use Rattle.forms.specs.Meaning.{Meaning, Keeps}
use Rattle.settlement.specs.Holdings.{no_holding}
use Rattle.book.specs.{Memory.Memory, Rewriting.entry_place, Statements.peak_over, Statements.statement_in}
use Rattle.law.specs.{Limits.most_line_of_a_month, Requests.Opening, Requests.count_in, Requests.hours_in, Standing.Standing, Standing.setting_in, Worked.agent_lines, Worked.worked, Worked.peak_for}
use Rattle.law.proofs.{Bounds.figures_energies, Bounds.energies_le, Bounds.injected_of_le, Bounds.lines_within, Bounds.balance_abs, Sound.Opened, Sound.Sound}
use Rattle.runs.specs.Reading.{worked_in}
use Rattle.runs.proofs.{Holds.Held, Keeps.withdrawn_read}

module _ (form : Meaning) (keeps : Keeps form) (o : Opening) (opened : Opened o) (s : Standing) (sound : Sound form o s) (m : Memory) (held : Held form o s m) (i : ℕ) (agent : i < count_in o) where
  -- the peak of an agent's entries is that of what it withdrew
  peak_step : peak_over (hours_in o) (λ hour. get_or m.entries (entry_place (hours_in o) i hour) no_holding) ≡ peak_for o s i
  peak_step =
      ap (total no_peak peak_joined)
      (map_counting_same (hours_in o) _ _
      (λ hour within.
      ap (λ kwh. peak_of kwh hour)
      (ap (λ entry. entry.second.withdrawn) (held.entries i hour agent within)
      ∙ ap (λ kwh. kwh % 2 ^ 64) (figures_energies (setting_in form o s) i (s.posted hour)).1
      ∙ mod-eq_of_lt (omega (arith, energies_le form keeps o opened s sound i hour agent within)))))

  -- the statement, number by number
  pub statements_step : worked_in (statement_in (hours_in o) i m) ≡ worked form o s i
  statements_step =
      let account = held.accounts i agent in
      let lines : lines_of (get_or m.accounts i no_holding).first ≡ agent_lines form o s i =
      ap (λ a. lines_of a.first) account
      ∙ lines_of_money (agent_lines form o s i) (lines_fit most_line_of_a_month (agent_lines form o s i) (lines_within form keeps o opened s sound i agent) (omega arith)) in
      let balance = ap (λ l. int_wrap w64 (balance_of l)) lines ∙ int_wrap_fits w64 _ (fits_abs _ (omega (arith, balance_abs form keeps o opened s sound i agent))) in
      let injected = ap (λ a. a.second.injected) account ∙ mod-eq_of_lt (omega (arith, injected_of_le form keeps o opened s sound i agent)) in
      λ t. record {
        lines = lines t;
        balance = balance t;
        injected = injected t;
        withdrawn = withdrawn_read form keeps o opened s sound m held i agent t;
        peak = peak_step t;
      }
