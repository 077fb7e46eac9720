-- How a request is answered, and what then stands. Assumes nothing.
use Rattle.std.specs.Prelude.{if◌then◌else◌, List, [], ◌∷◌, Some, None, Option}
use Rattle.forms.specs.Meaning.{Meaning}
use Rattle.settlement.specs.declared.{faults.BookFault.BookFault, states.State.TheVariants.Closed}
use Rattle.law.specs.{Requests.Opening, Requests.Request, Requests.posting, Requests.withdrawal, Requests.entering, Requests.cancelling, Requests.closing, Requests.can_ask, Standing.Standing, Standing.nothing_stands, Standing.standing_with, Standing.placed_with, Faults.fault_met}

-- the manner in which a request is answered: it is done, or refused for a fault, or skipped
pub data Manner : Type 0 where
  was_done : Manner
  was_refused : BookFault → Manner
  was_skipped : Manner

-- what meets no fault is done
abbrev pub judged : Option BookFault → Manner
judged None = was_done
judged (Some fault) = was_refused fault

-- what there is no way to ask is skipped
abbrev pub manner : Meaning → Opening → Standing → Request → Manner
manner form o s r = if can_ask s.state r then judged (fault_met form o s r) else was_skipped

-- what a request changes that is done: a posting stands at its hour, in the place of one that stood there; a withdrawal leaves
-- the hour free; a contract stands from its entry to its cancelling; a closing closes the month; any other changes nothing
abbrev pub changed : Request → Standing → Standing
changed (posting p) s = standing_with p.hour (Some p) s
changed (withdrawal hour) s = standing_with hour None s
changed (entering number c) s = placed_with number (Some c) s
changed (cancelling number) s = placed_with number None s
changed closing s = record s { state = Closed }
changed _ s = s

-- what is refused or skipped changes nothing
abbrev pub left_by : Manner → Request → Standing → Standing
left_by was_done r s = changed r s
left_by _ r s = s

-- what stands after a request
abbrev pub next : Meaning → Opening → Standing → Request → Standing
next form o s r = left_by (manner form o s r) r s

-- after a list of them
abbrev pub standing_after : Meaning → Opening → Standing → List Request → Standing
standing_after form o s [] = s
standing_after form o s (r ∷ rs) = standing_after form o (next form o s r) rs

-- and after a list of them from an opening on
abbrev pub after : Meaning → Opening → List Request → Standing
after form o requests = standing_after form o nothing_stands requests
