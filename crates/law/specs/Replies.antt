-- What a host is told. Assumes nothing.
use Rattle.std.specs.Prelude.{◌-◌, Bool, true, false, List, [], ◌∷◌}
use Rattle.forms.specs.Meaning.{Meaning}
use Rattle.settlement.specs.declared.faults.BookFault.{BookFault}
use Rattle.law.specs.{Requests.Opening, Requests.Request, Requests.statement, Standing.Standing, Standing.nothing_stands, Turns.Manner, Turns.was_done, Turns.was_refused, Turns.was_skipped, Turns.manner, Turns.next, Worked.Worked, Worked.worked}

-- what a host is told: done; the statement; refused for a fault; or that there was no way to ask it
pub data Reply : Type 0 where
  accepted : Reply
  stated : Worked → Reply
  refused : BookFault → Reply
  skipped : Reply

-- what is told of a request that is done: a statement is the one worked from what stands
abbrev pub done : Meaning → Opening → Standing → Request → Reply
done form o s (statement agent) = stated (worked form o s (agent - 1))
done form o s _ = accepted

-- what is told of one that is answered in this manner
abbrev pub told_as : Meaning → Opening → Standing → Request → Manner → Reply
told_as form o s r was_done = done form o s r
told_as form o s r (was_refused fault) = refused fault
told_as form o s r was_skipped = skipped

-- so a request is told by the manner in which it is answered
abbrev pub reply : Meaning → Opening → Standing → Request → Reply
reply form o s r = told_as form o s r (manner form o s r)

-- what a host is told from a standing on
abbrev pub replies_from : Meaning → Opening → Standing → List Request → List Reply
replies_from form o s [] = []
replies_from form o s (r ∷ rs) = reply form o s r ∷ replies_from form o (next form o s r) rs

-- and from an opening on
abbrev pub replies_to : Meaning → Opening → List Request → List Reply
replies_to form o requests = replies_from form o nothing_stands requests

-- how a request was answered, whatever a statement says
abbrev pub manner_of : Reply → Manner
manner_of (refused fault) = was_refused fault
manner_of skipped = was_skipped
manner_of _ = was_done

-- a request was done
abbrev pub is_done : Reply → Bool
is_done (refused fault) = false
is_done skipped = false
is_done _ = true
