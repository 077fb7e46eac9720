-- How long a month may be. Assumes nothing.
use Rattle.std.specs.Prelude.{ℕ, ◌*◌}

-- The most days of a month.
abbrev pub most_days : ℕ
most_days = 31

-- The hours of so many days.
abbrev pub hours_of : (days : ℕ) → ℕ
hours_of days = 24 * days

-- The most hours of a month.
abbrev pub most_hours : ℕ
most_hours = hours_of most_days
