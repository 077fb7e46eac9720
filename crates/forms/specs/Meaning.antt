-- What a contract form means, what it keeps, and when two forms are alike. Assumes nothing.
use Rattle.std.specs.Prelude.{◌≡◌, ℕ, ◌≤◌, Bool, IsTrue, pos, nat_abs, All}
use Rattle.std.specs.List.{list_all}
use Rattle.forms.specs.{Limits.most_leg, Measured.Measured, Parties.members_of, Parties.points_of, Parties.points_together, Terms.Valid, Terms.party_fits, declared.Contract.Contract, declared.Facts.Facts, declared.Legs.Legs, declared.Parties.Parties}
use Rattle.valuation.specs.Limits.{most_energy}

-- The three functions that a form's answers are: whether it takes terms, the energy of an hour, and the legs of so much energy.
pub record Meaning : Type 0 where
  pub takes : Contract → Parties → Bool
  pub quantity : Contract → Parties → Facts → ℕ
  pub legs : Contract → Parties → Facts → ℕ → Legs

-- Quantities and legs may be asked for under terms that are taken and valid, by facts that are measured.
pub record Askable (answer : Bool) (terms : Contract) (parties : Parties) (facts : Facts) : Type 0 where
  pub taken : IsTrue answer
  pub valid : Valid terms parties
  pub measured : Measured parties facts

-- The same of a form, where it is the one that takes the terms.
abbrev pub MayAsk : Meaning → Contract → Parties → Facts → Type 0
MayAsk form terms parties facts = Askable (form.takes terms parties) terms parties facts

-- Each leg is within its limit, and together they cancel.
pub record Balanced (legs : Legs) : Type 0 where
  pub within : All (λ points. nat_abs points ≤ most_leg) (points_of legs)
  pub cancel : points_together (points_of legs) ≡ pos 0

-- What every form keeps: a quantity is within its limit, and the legs of any quantity are balanced.
pub record Keeps (form : Meaning) : Type 0 where
  pub quantity : (terms : Contract) (parties : Parties) (facts : Facts) →
      MayAsk form terms parties facts → form.quantity terms parties facts ≤ most_energy
  pub legs : (terms : Contract) (parties : Parties) (facts : Facts) (quantity : ℕ) →
      MayAsk form terms parties facts → quantity ≤ most_energy → Balanced (form.legs terms parties facts quantity)

-- Two forms are alike: they take the same terms between parties that agents may be, and give the same quantities and legs wherever
-- they may be asked for them.
pub record Alike (form other : Meaning) : Type 0 where
  pub takes : (terms : Contract) (parties : Parties) →
      IsTrue (list_all party_fits (members_of parties)) → form.takes terms parties ≡ other.takes terms parties
  pub quantity : (terms : Contract) (parties : Parties) (facts : Facts) →
      MayAsk form terms parties facts → form.quantity terms parties facts ≡ other.quantity terms parties facts
  pub legs : (terms : Contract) (parties : Parties) (facts : Facts) (quantity : ℕ) →
      MayAsk form terms parties facts → quantity ≤ most_energy →
      form.legs terms parties facts quantity ≡ other.legs terms parties facts quantity

-- The legs of an hour: those of the hour's quantity.
abbrev pub hour_legs : Meaning → Contract → Parties → Facts → Legs
hour_legs form terms parties facts =
    form.legs terms parties facts (form.quantity terms parties facts)
