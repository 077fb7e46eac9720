-- Hour packets: their format, and the hour that they say. Assumes nothing.
use Rattle.std.specs.Prelude.{ℕ, zero, suc, ◌≡◌, ◌≤◌, ◌-◌, ◌^◌, if◌then◌else◌, List, [], ◌∷◌, length, take, drop, replicate, Result, Ok, Err, nat_lt, slice_index}
use Rattle.std.specs.List.{flat_map}
use Rattle.packets.specs.{declared.faults.ByteFault.ByteFault, declared.faults.PacketFault.PacketFault, declared.faults.PacketFault.TheVariants.WrongSize, declared.rows.Limits.Limits, declared.hours.PacketLine.PacketLine, declared.hours.HourHeading.HourHeading, Faults.of_bytes, Formats.Format, Formats.Over, Formats.and_then, Formats.before, Formats.whole, Formats.row, Formats.spelled_all, Formats.written, Formats.output_with, Formats.Spells, Numbers.overwritten, Hours.PacketHour, Hours.packet_hour, Hours.most_lines}

-- a number of 32 bits
abbrev pub narrow : Limits
narrow = record { least = 0; most = 2 ^ 32 - 1 }

-- the hour, the price, and how many lines follow
abbrev pub heading_limits : List Limits
heading_limits = narrow ∷ narrow ∷ record { least = 1; most = most_lines } ∷ []

-- the seven numbers of a line
abbrev pub line_limits : List Limits
line_limits = replicate 7 narrow

-- so many lines, and nothing more
unfoldable pub lines_format : (count : ℕ) → Format
lines_format zero = Over
lines_format (suc n) = row line_limits (λ line. lines_format n)

-- an hour packet: its heading, and as many lines as that says
unfoldable pub hour_format : Format
hour_format = row heading_limits (λ heading. lines_format (slice_index heading 2))

-- the figures of a line: class, cause, injected, withdrawn, gross, factor, cost
abbrev pub line_figures : PacketLine → List ℕ
line_figures l = l.class ∷ l.cause ∷ l.injected ∷ l.withdrawn ∷ l.gross ∷ l.factor ∷ l.cost ∷ []

-- the line of these figures
abbrev pub line_of : List ℕ → PacketLine
line_of figures = record {
  class = slice_index figures 0;
  cause = slice_index figures 1;
  injected = slice_index figures 2;
  withdrawn = slice_index figures 3;
  gross = slice_index figures 4;
  factor = slice_index figures 5;
  cost = slice_index figures 6;
}

-- the figures of lines, one line after another
abbrev pub lines_figures : List PacketLine → List ℕ
lines_figures lines = flat_map line_figures lines

-- so many lines of figures, seven figures each
unfoldable pub lines_of : (count : ℕ) → (figures : List ℕ) → List PacketLine
lines_of zero figures = []
lines_of (suc n) figures = line_of figures ∷ lines_of n (drop 7 figures)

-- Lines were read from a place on, or a fault was met there: the figures from there to the end of
-- the bytes are those of the lines.
pub record LinesRead (bytes : List ℕ) (at : ℕ) (lines : List PacketLine) (end : Result ℕ ByteFault)
    : Type 0 where
  pub goes_on : whole (lines_format (length lines)) bytes at
      ≡ and_then end (λ k. and_then (whole Over bytes k) (before (lines_figures lines)))

-- the figures of a packet
abbrev pub hour_figures : PacketHour → List ℕ
hour_figures h = h.hour ∷ h.price ∷ length h.lines ∷ lines_figures h.lines

-- the bytes of a packet
abbrev pub hour_bytes : PacketHour → List ℕ
hour_bytes h = spelled_all (hour_figures h)

-- the hour of a packet's figures
abbrev pub hour_of : List ℕ → PacketHour
hour_of figures = record {
  hour = slice_index figures 0;
  price = slice_index figures 1;
  lines = lines_of (slice_index figures 2) (drop 3 figures);
}

-- the hour of the packet that bytes are
abbrev pub hour_in : (bytes : List ℕ) → Result PacketHour ByteFault
hour_in bytes = and_then (whole hour_format bytes 0) (λ figures. Ok (hour_of figures))

-- what is read where these places for lines are lent: as many as a packet may have lines, or more
abbrev pub hour_read : (bytes : List ℕ) → (places : List PacketLine) → Result PacketHour PacketFault
hour_read bytes places =
    if nat_lt (length places) most_lines then Err WrongSize else of_bytes (hour_in bytes)

-- what an hour has before its lines, and how many those are
abbrev pub heading_of : PacketHour → HourHeading
heading_of h = record { hour = h.hour; price = h.price; count = length h.lines }

-- what a reading answers
abbrev pub heading_read : Result PacketHour PacketFault → Result HourHeading PacketFault
heading_read read = and_then read (λ h. Ok (heading_of h))

-- the places for lines after a reading: the lines are over the first of them
abbrev pub places_with : Result PacketHour PacketFault → List PacketLine → List PacketLine
places_with (Ok h) places = overwritten h.lines places
places_with (Err fault) places = places

-- the hour of which this is the heading, and the first of the places are the lines
abbrev pub hour_with : HourHeading → (places : List PacketLine) → PacketHour
hour_with heading places = packet_hour heading.hour heading.price (take heading.count places)

-- what writing an hour answers, and what it leaves of an output
abbrev pub hour_written : PacketHour → (output : List ℕ) → Result ℕ PacketFault
hour_written h output = written hour_format (hour_figures h) output

abbrev pub hour_output : PacketHour → (output : List ℕ) → List ℕ
hour_output h output = output_with hour_format (hour_figures h) output

-- bytes read back as an hour, whatever places for lines it is read into
pub record HourReadsBack (h : PacketHour) (bytes : List ℕ) : Type 0 where
  pub alone : hour_in bytes ≡ Ok h
  pub places : (places : List PacketLine) → most_lines ≤ length places →
      hour_read bytes places ≡ Ok h

-- bytes are the only ones that are written for an hour
abbrev pub HourSpelledOnce : PacketHour → (bytes : List ℕ) → Type 0
HourSpelledOnce h bytes = Spells hour_format (hour_figures h) bytes
