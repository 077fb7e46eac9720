-- The daily profile. Assumes nothing.
use Rattle.std.specs.Prelude.{ℕ, ◌/◌, ◌&&◌, pos, neg_ℤ, ◌==◌}
use Rattle.calendar.specs.declared.bands.Band.{Band, TheVariants.Peak, TheVariants.Medium, TheVariants.Base}
use Rattle.forms.specs.{Market.cost_of, Meaning.Meaning, declared.Legs.Legs}

-- The base quantity in base hours, a half of it in medium hours and a quarter in peak hours, rounded down.
abbrev pub profiled : Band → ℕ → ℕ
profiled Peak base = base / 4
profiled Medium base = base / 2
profiled Base base = base

-- The seller gets so many points, and the buyer pays them.
abbrev pub paid : ℕ → Legs
paid points = record { seller = pos points; buyer = neg_ℤ (pos points) }

-- A profile has kind 3, a base quantity alone, and no margin; the buyer pays the seller the energy's cost.
abbrev pub profile : Meaning
profile = record {
  takes = λ terms parties. (terms.kind == 3) && (terms.peak == 0 && (terms.medium == 0 && terms.margin == 0));
  quantity = λ terms parties facts. profiled facts.band terms.base;
  legs = λ terms parties facts quantity. paid (cost_of terms quantity);
}
