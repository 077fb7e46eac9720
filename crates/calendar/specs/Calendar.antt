-- What the bands of a month follow from. Assumes nothing.
use Rattle.std.specs.Prelude.{ℕ, ◌+◌, ◌/◌, ◌%◌, Bool, is_some}
use Rattle.calendar.specs.{Bands.band_of, Weekdays.weekday_at, Weekdays.weekday_of, declared.bands.Band.Band, declared.calendars.Calendar.Calendar, declared.weekdays.Weekday.Weekday}

-- A calendar of a month's figures: its first day is one of the seven, 0 for Monday to 6 for Sunday.
abbrev pub calendar_fits : Calendar → Bool
calendar_fits calendar = is_some (weekday_of calendar.weekday)

-- The weekday of the hour that begins so many hours after the first midnight.
abbrev pub weekday_in : Calendar → (hour : ℕ) → Weekday
weekday_in calendar hour = weekday_at ((calendar.weekday + hour / 24) % 7)

-- The band of that hour.
abbrev pub band_in : Calendar → (hour : ℕ) → Band
band_in calendar hour = band_of (weekday_in calendar hour) (hour % 24)
