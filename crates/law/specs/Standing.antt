-- What stands: postings, contracts, and whether the month is open. Nothing here knows of memory. Assumes nothing.
use Rattle.std.specs.Prelude.{ℕ, ◌-◌, List, replicate, is_some, None, Option, ◌==◌, slice_set, Bool, if◌then◌else◌}
use Rattle.forms.specs.{declared.Contract.Contract, Meaning.Meaning, Limits.most_contracts}
use Rattle.settlement.specs.{declared.states.State.State, declared.states.State.TheVariants.Open, Posting.Posting, Setting.Setting}
use Rattle.law.specs.Requests.{Opening}

-- what stands: at each hour a posting, or none; in each place a contract, or none; and the month is open or closed
pub record Standing : Type 0 where
  pub posted : ℕ → Option Posting
  pub places : List (Option Contract)
  pub state : State

-- at an opening nothing stands
abbrev pub nothing_stands : Standing
nothing_stands = record { posted = λ hour. None; places = replicate most_contracts None; state = Open }

-- from now on this stands at an hour, and at the others what stood there
abbrev pub standing_with : ℕ → Option Posting → Standing → Standing
standing_with hour p s = record s { posted = λ h. if h == hour then p else s.posted h }

-- from now on this stands under a contract number
abbrev pub placed_with : ℕ → Option Contract → Standing → Standing
placed_with number c s = record s { places = slice_set s.places (number - 1) c }

-- whether a posting stands at an hour
abbrev pub stands : Standing → ℕ → Bool
stands s hour = is_some (s.posted hour)

-- what the hours of the month are settled with while this stands
abbrev pub setting_in : Meaning → Opening → Standing → Setting
setting_in form o s = record { form = form; calendar = o.calendar; days = o.days; agents = o.agents; places = s.places }
