-- A posting: an hour, its price and its lines, one for each agent, counted from 0. Assumes nothing.
use Rattle.std.specs.Prelude.{ℕ, List, slice_index_or}
use Rattle.settlement.specs.{declared.lines.Line.Line, declared.postings.Posting.Posting as LentPosting, Lines.no_line}

pub record Posting : Type 0 where
  pub hour : ℕ
  pub price : ℕ
  pub lines : List Line

-- the posting whose lines lie in memory that is lent
abbrev pub posting_of : LentPosting → Posting
posting_of p = record { hour = p.hour; price = p.price; lines = p.lines.now }

-- the line of the agent at a place
abbrev pub line_at : List Line → ℕ → Line
line_at lines i = slice_index_or lines i no_line
