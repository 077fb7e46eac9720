-- How large a line and a balance can be at most, in points. Assumes nothing.
use Rattle.std.specs.Prelude.{ℕ, ◌*◌}
use Rattle.calendar.specs.Limits.{most_hours}
use Rattle.forms.specs.Limits.{most_leg, most_contracts}

-- a line of an hour: a leg of each contract, which is more than any hour gives on another line
abbrev pub most_line_of_an_hour : ℕ
most_line_of_an_hour = most_contracts * most_leg

-- a line of a month
abbrev pub most_line_of_a_month : ℕ
most_line_of_a_month = most_hours * most_line_of_an_hour

-- a balance: four lines
abbrev pub most_balance : ℕ
most_balance = 4 * most_line_of_a_month
