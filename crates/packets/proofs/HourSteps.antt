-- An hour packet's heading and lines, read, checked and written. Assumes nothing.
use Rattle.std.proofs.Common.{◌≡◌, ℕ, suc, ◌+◌, ◌-◌, ◌<◌, ◌≤◌, true, cond, ltb, List, [], ◌∷◌, ◌++◌, length, take, drop, get_or, set, slice_index, Result, Ok, Err, refl, sym, ap, ◌∙◌, arith}
use Rattle.std.specs.List.{flat_map}
use Rattle.std.proofs.lemmas.{Grind.flat_map-append, List.take_more_set, List.append_assoc, List.drop_all, List.at_drop_more, Bool.Decides.nat_tests}
use Rattle.packets.specs.{declared.faults.ByteFault.ByteFault, declared.faults.ByteFault.TheVariants.Malformed, declared.faults.PacketFault.PacketFault, declared.faults.PacketFault.TheVariants.WrongSize, declared.hours.PacketLine.PacketLine, declared.rows.Limits.Limits, Faults.of_bytes, Formats.Over, Formats.and_then, Formats.before, Formats.whole, Formats.sized, Formats.spelled_all, Formats.row, Formats.closed, Formats.RowRead, Formats.within, Hours.PacketHour, Hours.packet_hour, Hours.most_lines, HourPackets.narrow, HourPackets.heading_limits, HourPackets.line_limits, HourPackets.lines_format, HourPackets.hour_format, HourPackets.LinesRead, HourPackets.line_figures, HourPackets.lines_figures, HourPackets.hour_figures, HourPackets.hour_of, HourPackets.hour_in, HourPackets.lines_of, HourPackets.hour_read, HourPackets.HourReadsBack, Numbers.spelled}
use Rattle.packets.proofs.{Formats.before_before, Formats.cond_ok, Formats.none_left, RowSteps.sized_row, RowSteps.pieces_next, RowSteps.listed}

-- ---- reading

-- a line more is read
pub lines_more : (n i : ℕ) (lines : List PacketLine) (bytes : List ℕ) (at end : ℕ) (l : PacketLine) → i < n → i < length lines → RowRead line_limits bytes at (line_figures l) (Ok end) →
    and_then (whole (lines_format (n - i)) bytes at) (before (lines_figures (take i lines))) ≡ and_then (whole (lines_format (n - (i + 1))) bytes end) (before (lines_figures (take (i + 1) (set lines i l))))
unfolding lines_format
lines_more n i lines bytes at end l lt lf read =
    let one : n - i ≡ suc (n - (i + 1)) = omega arith in
    let rest = whole (lines_format (n - (i + 1))) bytes end in
    let done = take i lines in
    ap (λ k. and_then (whole (lines_format k) bytes at) (before (lines_figures done))) one
    ∙ ap (λ w. and_then w (before (lines_figures done))) (read.goes_on (λ line. lines_format (n - (i + 1))))
    ∙ before_before rest (lines_figures done) (line_figures l)
    ∙ ap (λ vs. and_then rest (before vs)) (sym (ap lines_figures (take_more_set lines i l lf) ∙ flat_map-append line_figures done (l ∷ [])))

-- the next line is not there
pub lines_fault : (n i : ℕ) (lines : List PacketLine) (figures bytes : List ℕ) (at : ℕ) (fault : ByteFault) → i < n → RowRead line_limits bytes at figures (Err fault) →
    and_then (whole (lines_format (n - i)) bytes at) (before (lines_figures lines)) ≡ Err fault
unfolding lines_format
lines_fault n i lines figures bytes at fault lt read =
    let one : n - i ≡ suc (n - (i + 1)) = omega arith in
    ap (λ k. and_then (whole (lines_format k) bytes at) (before (lines_figures lines))) one
    ∙ ap (λ w. and_then w (before (lines_figures lines))) (read.goes_on (λ line. lines_format (n - (i + 1))))

-- all lines were read
pub lines_done : (n i : ℕ) (lines : List PacketLine) (bytes : List ℕ) (at : ℕ) → n ≤ i →
    and_then (whole (lines_format (n - i)) bytes at) (before (lines_figures lines)) ≡ and_then (whole Over bytes at) (before (lines_figures lines))
unfolding lines_format
lines_done n i lines bytes at past =
    let none : n - i ≡ 0 = omega arith in
    ap (λ k. and_then (whole (lines_format k) bytes at) (before (lines_figures lines))) none

-- the heading of an hour was read, or a fault was met there
pub hour_head : (bytes heading : List ℕ) (r : Result ℕ ByteFault) → RowRead heading_limits bytes 0 heading r →
    whole hour_format bytes 0 ≡ and_then r (λ k. and_then (whole (lines_format (slice_index heading 2)) bytes k) (before heading))
unfolding hour_format
hour_head bytes heading r read = read.goes_on (λ heading. lines_format (slice_index heading 2))

-- the lines after it were read too, or a fault was met there
pub hour_lines : (bytes heading : List ℕ) (from : ℕ) (lines : List PacketLine) (r : Result ℕ ByteFault) → RowRead heading_limits bytes 0 heading (Ok from) → length lines ≡ slice_index heading 2 → LinesRead bytes from lines r →
    whole hour_format bytes 0 ≡ and_then (and_then r (λ k. and_then (whole Over bytes k) (before (lines_figures lines)))) (before heading)
hour_lines bytes heading from lines r head count read =
    hour_head bytes heading (Ok from) head
    ∙ ap (λ w. and_then w (before heading)) (ap (λ n. whole (lines_format n) bytes from) (sym count) ∙ read.goes_on)

-- all is read
pub hour_whole : (bytes heading : List ℕ) (from end : ℕ) (lines : List PacketLine) → RowRead heading_limits bytes 0 heading (Ok from) → length lines ≡ slice_index heading 2 → LinesRead bytes from lines (Ok end) → length bytes ≤ end → length heading ≡ 3 →
    whole hour_format bytes 0 ≡ Ok (hour_figures (packet_hour (slice_index heading 0) (slice_index heading 1) lines))
hour_whole bytes heading from end lines head count read none three =
    hour_lines bytes heading from lines (Ok end) head count read ∙ none_left bytes heading (lines_figures lines) end none
    ∙ ap (λ vs. Ok (vs ++ lines_figures lines)) (listed 3 heading three)
    ∙ ap (λ n. Ok (slice_index heading 0 ∷ slice_index heading 1 ∷ n ∷ lines_figures lines)) (sym count)

-- the lines of lines' figures
lines_back : (lines : List PacketLine) → lines_of (length lines) (lines_figures lines) ≡ lines
unfolding lines_of
lines_back [] = refl
lines_back (l ∷ lines) = ap (λ ls. l ∷ ls) (lines_back lines)

-- bytes that hold the figures of an hour are those of this hour
pub hour_is : (bytes : List ℕ) (h : PacketHour) → whole hour_format bytes 0 ≡ Ok (hour_figures h) → hour_in bytes ≡ Ok h
hour_is bytes h is = ap (λ w. and_then w (λ figures. Ok (hour_of figures))) is ∙ ap (λ ls. Ok (packet_hour h.hour h.price ls)) (lines_back h.lines)

-- what is read where places enough are lent
pub read_where_lent : (bytes : List ℕ) (places : List PacketLine) → most_lines ≤ length places → hour_read bytes places ≡ of_bytes (hour_in bytes)
read_where_lent bytes places enough = chosen (length places) (of_bytes (hour_in bytes)) enough
  where
    chosen : (n : ℕ) (r : Result PacketHour PacketFault) → most_lines ≤ n → cond (ltb n most_lines) (Err WrongSize) r ≡ r
    chosen n r h = grind (arith, nat_tests)

-- bytes that hold the figures of an hour read back as it
pub hour_back : (bytes : List ℕ) (h : PacketHour) → whole hour_format bytes 0 ≡ Ok (hour_figures h) → HourReadsBack h bytes
hour_back bytes h is = record {
  alone = hour_is bytes h is;
  places = λ places enough. read_where_lent bytes places enough ∙ ap of_bytes (hour_is bytes h is);
}

-- ---- checking

-- to check an hour packet is to check its heading, and then its lines
pub sized_hour : (h : PacketHour) (figures : List ℕ) (r : Result ℕ ByteFault) → figures ≡ h.hour ∷ h.price ∷ length h.lines ∷ [] → r ≡ sized (row heading_limits closed) figures 0 →
    sized hour_format (hour_figures h) 0 ≡ and_then r (λ end. sized (lines_format (length h.lines - 0)) (lines_figures h.lines) end)
unfolding hour_format
sized_hour h figures r is checked =
    let head : List ℕ = h.hour ∷ h.price ∷ length h.lines ∷ [] in
    let all : length h.lines ≡ length h.lines - 0 = omega arith in
    sized_row heading_limits (λ heading. lines_format (slice_index heading 2)) head (lines_figures h.lines) 0 refl
    ∙ ap (λ r. and_then r (λ end. sized (lines_format (length h.lines)) (lines_figures h.lines) end)) (ap (λ vs. sized (row heading_limits closed) vs 0) (sym is) ∙ sym checked)
    ∙ ap (λ n. and_then r (λ end. sized (lines_format n) (lines_figures h.lines) end)) all

within_le : (limits : Limits) (v : ℕ) → within limits v ≡ true → v ≤ limits.most
within_le limits v h = grind (arith, nat_tests)

-- a heading that can be written counts as many lines as a packet may have at most
pub count_le : (hour price count end : ℕ) → sized (row heading_limits closed) (hour ∷ price ∷ count ∷ []) 0 ≡ Ok end → count ≤ most_lines
unfolding sized row
count_le hour price count end h =
    let second = 0 + length (spelled hour) in
    let third = second + length (spelled price) in
    let few : Limits = record { least = 1; most = most_lines } in
    let last : Result ℕ ByteFault = cond (within few count) (Ok (third + length (spelled count))) (Err (Malformed third)) in
    let a = cond_ok (within narrow hour) (cond (within narrow price) last (Err (Malformed second))) (Malformed 0) end h in
    let b = cond_ok (within narrow price) last (Malformed second) end a.1 in
    within_le few count (cond_ok (within few count) (Ok (third + length (spelled count))) (Malformed third) end b.1).0

-- a line of no figures
abbrev pub no_line : PacketLine
no_line = record { class = 0; cause = 0; injected = 0; withdrawn = 0; gross = 0; factor = 0; cost = 0 }

-- a line more is checked
pub lines_checked : (lines : List PacketLine) (i at : ℕ) (figures : List ℕ) (r : Result ℕ ByteFault) → i < length lines → figures ≡ line_figures (get_or lines i no_line) → r ≡ sized (row line_limits closed) figures at →
    sized (lines_format (length lines - i)) (lines_figures (drop i lines)) at ≡ and_then r (λ end. sized (lines_format (length lines - (i + 1))) (lines_figures (drop (i + 1) lines)) end)
unfolding lines_format
lines_checked lines i at figures r lt is checked =
    let n = length lines - (i + 1) in
    let one : length lines - i ≡ suc n = omega arith in
    ap (λ k. sized (lines_format k) (lines_figures (drop i lines)) at) one
    ∙ at_drop_more (λ ls. sized (lines_format (suc n)) (lines_figures ls) at) lines i no_line lt
    ∙ sized_row line_limits (λ line. lines_format n) (line_figures (get_or lines i no_line)) (lines_figures (drop (i + 1) lines)) at refl
    ∙ ap (λ r. and_then r (λ end. sized (lines_format n) (lines_figures (drop (i + 1) lines)) end)) (ap (λ vs. sized (row line_limits closed) vs at) (sym is) ∙ sym checked)

-- all lines are checked
pub lines_checked_all : (lines : List PacketLine) (i end : ℕ) → length lines ≤ i → sized (lines_format (length lines - i)) (lines_figures (drop i lines)) end ≡ Ok end
unfolding lines_format sized
lines_checked_all lines i end past =
    let none : length lines - i ≡ 0 = omega arith in
    ap (λ k. sized (lines_format k) (lines_figures (drop i lines)) end) none ∙ ap (λ ls. sized Over (lines_figures ls) end) (drop_all i lines past)

-- ---- writing

-- the bytes of a line
abbrev pub line_bytes : PacketLine → List ℕ
line_bytes l = spelled_all (line_figures l)

-- the bytes of lines
lines_spelled : (lines : List PacketLine) → spelled_all (lines_figures lines) ≡ flat_map line_bytes lines
lines_spelled [] = refl
lines_spelled (l ∷ lines) = flat_map-append spelled (line_figures l) (lines_figures lines) ∙ ap (λ bytes. line_bytes l ++ bytes) (lines_spelled lines)

-- the bytes of an hour, up to a line
abbrev pub bytes_to : PacketHour → ℕ → List ℕ
bytes_to h i = spelled_all (h.hour ∷ h.price ∷ length h.lines ∷ []) ++ flat_map line_bytes (take i h.lines)

-- the bytes of an hour are those of its heading, and then those of its lines
pub hour_spelled : (h : PacketHour) → spelled_all (hour_figures h) ≡ spelled_all (h.hour ∷ h.price ∷ length h.lines ∷ []) ++ flat_map line_bytes h.lines
hour_spelled h =
    let head : List ℕ = h.hour ∷ h.price ∷ length h.lines ∷ [] in
    flat_map-append spelled head (lines_figures h.lines) ∙ ap (λ bytes. spelled_all head ++ bytes) (lines_spelled h.lines)

-- the bytes of one line more
pub bytes_next : (h : PacketHour) (i : ℕ) → i < length h.lines → bytes_to h (i + 1) ≡ bytes_to h i ++ line_bytes (get_or h.lines i no_line)
bytes_next h i lt =
    let head = spelled_all (h.hour ∷ h.price ∷ length h.lines ∷ []) in
    ap (λ bytes. head ++ bytes) (pieces_next line_bytes h.lines i no_line lt)
    ∙ sym (append_assoc head (flat_map line_bytes (take i h.lines)) (line_bytes (get_or h.lines i no_line)))
