-- What stands at an hour: no posting, or one that met no fault. Assumes nothing.
use Rattle.std.proofs.Common.{◌≡◌, ℕ, ◌<◌, length, Some, None, Option, refl, subst, arith}
use Rattle.forms.specs.Meaning.{Meaning}
use Rattle.settlement.specs.{Posting.Posting, Posting.line_at, Setting.Setting}
use Rattle.settlement.proofs.{Bounds.Within, Bounds.within_limits, Checked.Checked, Checked.checked}
use Rattle.law.specs.{Requests.Opening, Requests.hours_in, Standing.Standing, Standing.setting_in}
use Rattle.law.proofs.Sound.{Opened, Sound}

-- the line of each agent is within its limits
pub line_within_at : (setting : Setting) (p : Posting) → Checked setting p → (i : ℕ) → i < length setting.agents → Within (line_at p.lines i)
line_within_at setting p sane i below = within_limits (line_at p.lines i) (sane.fits.each_within i (omega (arith, sane.long)))

-- what is so of no posting and of every one that met no fault is so of what stands at an hour
pub at_standing : (form : Meaning) (o : Opening) → Opened o → (s : Standing) → Sound form o s → (P : ℕ → Option Posting → Type 0) → ((hour : ℕ) → P hour None) →
    ((p : Posting) → Checked (setting_in form o s) p → P p.hour (Some p)) → (hour : ℕ) → hour < hours_in o → P hour (s.posted hour)
at_standing form o opened s sound P free posted hour within = stands (s.posted hour) refl
  where
    stands : (q : Option Posting) → s.posted hour ≡ q → P hour q
    stands None is = free hour
    stands (Some p) is =
        let may = sound.postings hour p within is in
        subst (λ h. P h (Some p)) may.at (posted p (checked (setting_in form o s) p may.faultless opened.few_agents))
