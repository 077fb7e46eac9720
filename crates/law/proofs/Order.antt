-- What leaves the same standing gives every agent the same statement, by whichever form of the same meaning. Assumes nothing.
use Rattle.std.proofs.Common.{◌≡◌, ℕ, ◌<◌, sym, refl, ap, ◌∙◌, arith}
use Rattle.tally.specs.LinesLaws.{lines_lawful}
use Rattle.tally.proofs.Sums.{total_over_same}
use Rattle.forms.specs.Meaning.{Meaning, Keeps, Alike}
use Rattle.settlement.specs.{Posting.line_at, Power.power_line, Legs.is_number, Hour.caused_sum, Hour.carried_by, Hour.figures_with}
use Rattle.law.specs.{Requests.Opening, Requests.hours_in, Standing.Standing, Standing.setting_in, Level.Level, Worked.figures_from, Worked.figures_at, Worked.power_in, Worked.worked}
use Rattle.law.proofs.{Accepted.at_standing, Legs.contract_points_level, Postings.withdrawn_same, Postings.worked_same, Sound.Opened, Sound.Sound}

module _ (form : Meaning) (keeps : Keeps form) (o : Opening) (opened : Opened o) (s : Standing) (sound : Sound form o s) (same : Meaning) (alike : Alike form same) (t : Standing) (level : Level o s t) (i : ℕ) where
  -- equal figures at each hour, as an accepted posting gives an agent the same
  figures_same : (hour : ℕ) → hour < hours_in o → figures_at same o t i hour ≡ figures_at form o s i hour
  figures_same hour within =
      sym (ap (figures_from (setting_in same o t) i) (level.hours hour within))
      ∙ at_standing form o opened s sound (λ h q. figures_from (setting_in same o t) i q ≡ figures_from (setting_in form o s) i q) (λ h. refl)
      (λ p sane.
      ap (λ contract. figures_with p.price (line_at p.lines i) contract (caused_sum p i) (carried_by o.agents p i))
      (sym (contract_points_level (setting_in form o s) keeps p sane sound.contracts same alike t.places level.contracts (is_number i))))
      hour within

  -- and equal power lines, and so equal statements
  pub order : worked same o t i ≡ worked form o s i
  order =
      worked_same same form o t s (λ hour within. sym (level.hours hour within)) i
      (total_over_same lines_lawful 0 (hours_in o) (λ hour. (figures_at same o t i hour).lines) (λ hour. (figures_at form o s i hour).lines)
      (λ hour low within. ap (λ f. f.lines) (figures_same hour (omega arith))))
      (sym (λ x. power_in (level.state x) (power_line o.agents (λ j. withdrawn_same o s t level.hours j x) i)))
