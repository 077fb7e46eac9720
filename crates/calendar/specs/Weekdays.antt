-- The days of the week. Assumes nothing.
use Rattle.std.specs.Prelude.{ℕ, Bool, if◌then◌else◌, Some, None, Option, Result, ◌==◌, nat_lt, List, ◌++◌, codes}
use Rattle.std.specs.{Fmt.decimal, Option.ok_or}
use Rattle.calendar.specs.declared.weekdays.{NoSuchWeekday.NoSuchWeekday, Weekday.Weekday, Weekday.TheVariants.Monday, Weekday.TheVariants.Tuesday, Weekday.TheVariants.Wednesday, Weekday.TheVariants.Thursday, Weekday.TheVariants.Friday, Weekday.TheVariants.Saturday, Weekday.TheVariants.Sunday}

-- A weekday's number, from 0 for Monday to 6 for Sunday.
abbrev pub number_of : Weekday → ℕ
number_of Monday = 0
number_of Tuesday = 1
number_of Wednesday = 2
number_of Thursday = 3
number_of Friday = 4
number_of Saturday = 5
number_of Sunday = 6

-- The weekday with this number, from 0 to 6.
abbrev pub weekday_at : ℕ → Weekday
weekday_at n =
    if n == 0 then Monday
    else (if n == 1 then Tuesday
    else (if n == 2 then Wednesday
    else (if n == 3 then Thursday
    else (if n == 4 then Friday
    else (if n == 5 then Saturday else Sunday)))))

-- The weekday with this number, if there is one.
abbrev pub weekday_of : ℕ → Option Weekday
weekday_of n = if nat_lt n 7 then Some (weekday_at n) else None

-- The same, or the number that no weekday has.
abbrev pub weekday_or : ℕ → Result Weekday NoSuchWeekday
weekday_or n = ok_or (weekday_of n) (record { number = n })

-- From Monday to Friday.
abbrev pub workday : Weekday → Bool
workday weekday = nat_lt (number_of weekday) 5

-- What is printed of a number that no weekday has.
abbrev pub no_such_weekday_text : NoSuchWeekday → List ℕ
no_such_weekday_text refused = codes "no weekday has the number " ++ decimal refused.number
