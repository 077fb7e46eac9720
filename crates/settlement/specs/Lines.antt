-- The lines of a posting: their limits and their rules. Assumes nothing.
use Rattle.std.specs.Prelude.{ℕ, Bool, false, if◌then◌else◌, ◌&&◌, Some, None, Option, ◌==◌, nat_le}
use Rattle.forms.specs.{declared.roles.Role.Role, Roles.generates}
use Rattle.settlement.specs.declared.lines.{Class.Class, Class.TheVariants.Normal, Class.TheVariants.Obligated, Class.TheVariants.Forced, Line.Line}
use Rattle.valuation.specs.Limits.{most_energy, most_price, least_factor, most_factor}

-- 1 is normal, 2 obligated, 3 forced
abbrev pub class_of : ℕ → Option Class
class_of code =
    if code == 1 then Some Normal
    else (if code == 2 then Some Obligated
    else (if code == 3 then Some Forced else None))

-- energies, node factor and cost are within their limits
abbrev pub line_within : Line → Bool
line_within l =
    nat_le l.injected most_energy && (nat_le l.withdrawn most_energy && (nat_le l.gross most_energy
    && (nat_le least_factor l.factor && (nat_le l.factor most_factor && nat_le l.cost most_price))))

-- an obligated or forced line is a generator's, with a gross of at least the injected energy
abbrev pub must_run : Option Role → Line → Bool
must_run None l = false
must_run (Some role) l = generates role && nat_le l.injected l.gross

-- the rule of each class: a normal line has no gross, cost or cause; an obligated one no cause; a forced one has an agent of the book for its cause
abbrev pub class_kept : ℕ → Option Role → Line → Option Class → Bool
class_kept count role l None = false
class_kept count role l (Some Normal) = l.gross == 0 && (l.cost == 0 && l.cause == 0)
class_kept count role l (Some Obligated) = must_run role l && l.cause == 0
class_kept count role l (Some Forced) = must_run role l && (nat_le 1 l.cause && nat_le l.cause count)

-- a line of an agent with this role keeps the rule of its class, in a book of so many agents
abbrev pub line_kept : ℕ → Option Role → Line → Bool
line_kept count role l = class_kept count role l (class_of l.class)

-- what stands past the last line: nothing at all
abbrev pub no_line : Line
no_line = record {
  class = 0;
  cause = 0;
  injected = 0;
  withdrawn = 0;
  gross = 0;
  factor = 0;
  cost = 0;
}
