-- What is audited, what stands at its end, and the three books that it is settled in. Assumes nothing.
use Rattle.std.specs.Prelude.{◌≡◌, ℕ, Bool, true, false, List, map, None, Option, ◌==◌}
use Rattle.std.specs.Option.{option_map}
use Rattle.forms.specs.Meaning.{Meaning}
use Rattle.settlement.specs.declared.{agents.Agent.Agent, states.State.TheVariants.Open}
use Rattle.book.specs.{declared.months.MonthFigures.MonthFigures, Memory.Memory, Opening.open_fault, Opening.emptied}
use Rattle.law.specs.{Requests.Opening, Requests.Request, Requests.posting, Only.only_standing, Standing.Standing, Turns.after}
use Rattle.runs.specs.{declared.calls.Call.Call, Reading.opening_of, Reading.request_of, Reading.Answer, Runs.Kept, Runs.kept_of, Runs.answers_to, Runs.kept_after}

-- what is audited: the form, the figures that each book is opened with, its agents, and what is asked of it
pub record Case : Type 0 where
  pub form : Meaning
  pub figures : MonthFigures
  pub agents : List Agent
  pub requests : List Request

-- what a list of calls asks
abbrev pub case_of : Meaning → MonthFigures → List Agent → List Call → Case
case_of form figures agents calls = record {
  form = form;
  figures = figures;
  agents = agents;
  requests = map request_of calls;
}

-- what all three books are opened with
abbrev pub opening_in : Case → Opening
opening_in case = opening_of case.figures case.agents

-- what stands in the first book at the end
abbrev pub standing_in : Case → Standing
standing_in case = after case.form (opening_in case) case.requests

-- what the third book hears: only what stands in the first at the end
abbrev pub again : Case → Case
again case = record case { requests = only_standing (opening_in case) (standing_in case) }

-- ---- on memory

-- a book as it is opened in this memory
abbrev pub begun : Memory → Kept
begun m = kept_of Open (emptied m)

-- and as a run leaves it, which hears requests about contracts or does not
abbrev pub ended : (contracts : Bool) → Case → Memory → Kept
ended contracts case m = kept_after contracts case.form case.figures case.requests (begun m)

-- what it is answered
abbrev pub answered : (contracts : Bool) → Case → Memory → List Answer
answered contracts case m = answers_to contracts case.form case.figures case.requests (begun m)

-- these are the answers of the first book: those of a run in memory of its agents, in which it can be opened
pub record FirstAnswers (case : Case) (answers : List Answer) : Type 0 where
  pub memory : Memory
  pub agents : memory.agents ≡ case.agents
  pub opens : open_fault case.figures memory ≡ None
  pub told : answers ≡ answered true case memory

-- ---- an hour

-- whether a request posts this hour
abbrev pub posts_at : (hour : ℕ) → Request → Bool
posts_at hour (posting p) = p.hour == hour
posts_at hour _ = false

-- this call, if any, posts what stands at an hour
abbrev pub Posts : (hour : ℕ) → Option Call → Standing → Type 0
Posts hour call s = option_map request_of call ≡ option_map posting (s.posted hour)
