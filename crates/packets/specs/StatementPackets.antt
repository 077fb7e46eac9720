-- Statement packets: their format, and the statement that they hold. Assumes nothing.
use Rattle.std.specs.Prelude.{ℕ, ◌+◌, ◌*◌, ◌/◌, ◌%◌, ◌^◌, ◌-◌, if◌then◌else◌, ℤ, pos, negsuc, ◌+ℤ◌, List, [], ◌∷◌, Result, Ok, ◌==◌, slice_index}
use Rattle.std.specs.Int.{int_wrap, w64}
use Rattle.packets.specs.{declared.faults.ByteFault.ByteFault, declared.faults.PacketFault.PacketFault, declared.rows.Limits.Limits, declared.statements.StatementFigures.StatementFigures, Formats.Format, Formats.and_then, Formats.whole, Formats.row, Formats.closed, Formats.spelled_all, Formats.written, Formats.output_with, Formats.Spells}

-- a signed number v as a number: 2 v, or below zero -2 v - 1, which is 2 n + 1 at v = -1 - n
abbrev pub unsigned_of : ℤ → ℕ
unsigned_of (pos n) = 2 * n
unsigned_of (negsuc n) = 2 * n + 1

-- the signed number that a number stands for
abbrev pub signed_of : ℕ → ℤ
signed_of v = if v % 2 == 0 then pos (v / 2) else negsuc (v / 2)

-- any number of 64 bits
abbrev pub wide : Limits
wide = record { least = 0; most = 2 ^ 64 - 1 }

-- one number and no other
abbrev pub just : ℕ → Limits
just v = record { least = v; most = v }

-- the state, 0 for open and 1 for closed; the agent, 1 to 64; the four lines
abbrev pub opening_limits : List Limits
opening_limits =
    record { least = 0; most = 1 } ∷ record { least = 1; most = 64 }
    ∷ wide ∷ wide ∷ wide ∷ wide ∷ []

-- the sum of the four lines, in 64 bits
abbrev pub balance_of : List ℕ → ℤ
balance_of opening =
    let line : ℕ → ℤ = λ k. signed_of (slice_index opening (2 + k)) in
    int_wrap w64 (line 0 +ℤ line 1 +ℤ line 2 +ℤ line 3)

-- the balance, which is the sum of the lines; injected and withdrawn energy; the peak and its hour
abbrev pub closing_limits : List ℕ → List Limits
closing_limits opening = just (unsigned_of (balance_of opening)) ∷ wide ∷ wide ∷ wide ∷ wide ∷ []

-- a statement packet
unfoldable pub statement_format : Format
statement_format = row opening_limits (λ opening. row (closing_limits opening) closed)

-- the figures of a statement
abbrev pub statement_figures : StatementFigures → List ℕ
statement_figures s =
    s.state ∷ s.agent
    ∷ unsigned_of s.market ∷ unsigned_of s.contract ∷ unsigned_of s.overcost ∷ unsigned_of s.power
    ∷ unsigned_of s.balance ∷ s.injected ∷ s.withdrawn ∷ s.peak_kwh ∷ s.peak_hour ∷ []

-- the bytes of a statement
abbrev pub statement_bytes : StatementFigures → List ℕ
statement_bytes s = spelled_all (statement_figures s)

-- the statement of these figures
abbrev pub statement_of : List ℕ → StatementFigures
statement_of figures = record {
  state = slice_index figures 0;
  agent = slice_index figures 1;
  market = signed_of (slice_index figures 2);
  contract = signed_of (slice_index figures 3);
  overcost = signed_of (slice_index figures 4);
  power = signed_of (slice_index figures 5);
  balance = signed_of (slice_index figures 6);
  injected = slice_index figures 7;
  withdrawn = slice_index figures 8;
  peak_kwh = slice_index figures 9;
  peak_hour = slice_index figures 10;
}

-- what reading a packet answers
abbrev pub statement_read : List ℕ → Result StatementFigures ByteFault
statement_read bytes =
    and_then (whole statement_format bytes 0) (λ figures. Ok (statement_of figures))

-- what writing a statement answers, and what it leaves of an output
abbrev pub statement_written : StatementFigures → (output : List ℕ) → Result ℕ PacketFault
statement_written s output = written statement_format (statement_figures s) output

abbrev pub statement_output : StatementFigures → (output : List ℕ) → List ℕ
statement_output s output = output_with statement_format (statement_figures s) output

-- bytes are the only ones that are written for a statement
abbrev pub StatementSpelledOnce : StatementFigures → List ℕ → Type 0
StatementSpelledOnce figures bytes = Spells statement_format (statement_figures figures) bytes
