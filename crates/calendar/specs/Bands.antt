-- The band of an hour, by its weekday and by when it begins. Assumes nothing.
use Rattle.std.specs.Prelude.{ℕ, zero, suc, ◌/◌, ◌%◌, Bool, true, false, if◌then◌else◌, ◌&&◌, List, nat_le, slice_index_or}
use Rattle.calendar.specs.{Weekdays.workday, Weekdays.weekday_at, declared.bands.Band.Band, declared.bands.Band.TheVariants.Peak, declared.bands.Band.TheVariants.Medium, declared.bands.Band.TheVariants.Base, declared.weekdays.Weekday.Weekday}

-- An hour begins at `from` to `to`.
abbrev pub begins : (from to hour : ℕ) → Bool
begins from to hour = nat_le from hour && nat_le hour to

-- Hours that begin at 17 to 21 are peak on every day; those at 7 to 16 from Monday to Friday are medium; the others are base.
abbrev pub band_of : (weekday : Weekday) (hour : ℕ) → Band
band_of weekday hour =
    if begins 17 21 hour then Peak
    else (if begins 7 16 hour && workday weekday then Medium else Base)

-- The band of the hour at a place of the week, from 0 for Monday's midnight to 167.
abbrev pub band_at : ℕ → Band
band_at place = band_of (weekday_at (place / 24)) (place % 24)

-- Two bands are the same.
abbrev pub same : Band → Band → Bool
same Peak Peak = true
same Medium Medium = true
same Base Base = true
same _ _ = false

-- A table has the right band at each of its first n places.
abbrev pub right_below : List Band → ℕ → Bool
right_below table zero = true
right_below table (suc n) = same (slice_index_or table n Peak) (band_at n) && right_below table n

-- A table has the right band at each of the 168 places of the week: the one test of the table, which is computed.
abbrev pub table_is_right : List Band → Bool
table_is_right table = right_below table 168
