-- A statement packet's two rows, and its figures. Assumes nothing.
use Rattle.std.proofs.Common.{◌≡◌, ℕ, ◌+◌, ◌*◌, ◌/◌, ◌%◌, Bool, true, false, cond, eqb, ℤ, pos, negsuc, List, ◌++◌, length, take, drop, get_or, Result, Ok, refl, ap, ◌∙◌, arith}
use Rattle.std.proofs.lemmas.Bool.Decides.{nat_tests}
use Rattle.packets.specs.{declared.faults.ByteFault.ByteFault, declared.statements.StatementFigures.StatementFigures, Numbers.overwritten, Formats.Over, Formats.and_then, Formats.before, Formats.whole, Formats.sized, Formats.spelled_all, Formats.row, Formats.closed, Formats.RowRead, StatementPackets.unsigned_of, StatementPackets.signed_of, StatementPackets.opening_limits, StatementPackets.closing_limits, StatementPackets.statement_format, StatementPackets.statement_figures, StatementPackets.statement_of, StatementPackets.statement_read}
use Rattle.packets.proofs.{Formats.whole_written, RowSteps.sized_row, RowSteps.listed, RowSteps.placed}

-- the opening of a statement was read, or a fault was met there
pub statement_opening : (bytes opening : List ℕ) (r : Result ℕ ByteFault) → RowRead opening_limits bytes 0 opening r →
    whole statement_format bytes 0 ≡ and_then r (λ k. and_then (whole (row (closing_limits opening) closed) bytes k) (before opening))
unfolding statement_format
statement_opening bytes opening r read = read.goes_on (λ opening. row (closing_limits opening) closed)

-- the closing after it was read too, or a fault was met there
pub statement_closing : (bytes opening closing : List ℕ) (middle : ℕ) (r : Result ℕ ByteFault) → RowRead opening_limits bytes 0 opening (Ok middle) → RowRead (closing_limits opening) bytes middle closing r →
    whole statement_format bytes 0 ≡ and_then (and_then r (λ k. and_then (whole Over bytes k) (before closing))) (before opening)
statement_closing bytes opening closing middle r first second =
    statement_opening bytes opening (Ok middle) first ∙ ap (λ w. and_then w (before opening)) (second.goes_on closed)

-- a signed number is the one that its number stands for
pub signed_back : (v : ℤ) → signed_of (unsigned_of v) ≡ v
signed_back (pos n) = even (2 * n) n (omega arith) (omega arith)
  where
    even : (v n : ℕ) → v % 2 ≡ 0 → v / 2 ≡ n → cond (eqb (v % 2) 0) (pos (v / 2)) (negsuc (v / 2)) ≡ pos n
    even v n h e = grind (arith, nat_tests)
signed_back (negsuc n) = odd (2 * n + 1) n (omega arith) (omega arith)
  where
    odd : (v n : ℕ) → v % 2 ≡ 1 → v / 2 ≡ n → cond (eqb (v % 2) 0) (pos (v / 2)) (negsuc (v / 2)) ≡ negsuc n
    odd v n h e = grind (arith, nat_tests)

-- a number is that of the signed number that it stands for
pub unsigned_back : (v : ℕ) → unsigned_of (signed_of v) ≡ v
unsigned_back v = halves (eqb (v % 2) 0) refl
  where
    halves : (t : Bool) → eqb (v % 2) 0 ≡ t → unsigned_of (cond t (pos (v / 2)) (negsuc (v / 2))) ≡ v
    halves true h = let even : v % 2 ≡ 0 = grind (arith, nat_tests) in omega arith
    halves false h = let odd : v % 2 ≡ 1 = grind (arith, nat_tests) in omega arith

-- a statement, part by part
abbrev pub parts : (state agent : ℕ) (market contract overcost power balance : ℤ) (injected withdrawn kwh hour : ℕ) → StatementFigures
parts state agent market contract overcost power balance injected withdrawn kwh hour = record {
  state = state;
  agent = agent;
  market = market;
  contract = contract;
  overcost = overcost;
  power = power;
  balance = balance;
  injected = injected;
  withdrawn = withdrawn;
  peak_kwh = kwh;
  peak_hour = hour;
}

-- equal signed parts make equal statements
pub same_parts : {a a' b b' c c' d d' e e' : ℤ} (state agent injected withdrawn kwh hour : ℕ) → a ≡ a' → b ≡ b' → c ≡ c' → d ≡ d' → e ≡ e' →
    parts state agent a b c d e injected withdrawn kwh hour ≡ parts state agent a' b' c' d' e' injected withdrawn kwh hour
same_parts {a} {a'} {b} {b'} {c} {c'} {d} {d'} {e} {e'} state agent injected withdrawn kwh hour ha hb hc hd he =
    ap (λ x. parts state agent x b c d e injected withdrawn kwh hour) ha
    ∙ ap (λ x. parts state agent a' x c d e injected withdrawn kwh hour) hb
    ∙ ap (λ x. parts state agent a' b' x d e injected withdrawn kwh hour) hc
    ∙ ap (λ x. parts state agent a' b' c' x e injected withdrawn kwh hour) hd
    ∙ ap (λ x. parts state agent a' b' c' d' x injected withdrawn kwh hour) he

-- a statement is that of its figures
pub statement_back : (s : StatementFigures) → statement_of (statement_figures s) ≡ s
statement_back s = same_parts s.state s.agent s.injected s.withdrawn s.peak_kwh s.peak_hour
    (signed_back s.market) (signed_back s.contract) (signed_back s.overcost) (signed_back s.power) (signed_back s.balance)

-- the statement of an opening and a closing
pub statement_joined : (r q : List ℕ) → length r ≡ 6 → length q ≡ 5 → statement_of (r ++ q) ≡
    parts (get_or r 0 0) (get_or r 1 0) (signed_of (get_or r 2 0)) (signed_of (get_or r 3 0)) (signed_of (get_or r 4 0)) (signed_of (get_or r 5 0))
    (signed_of (get_or q 0 0)) (get_or q 1 0) (get_or q 2 0) (get_or q 3 0) (get_or q 4 0)
statement_joined r q six five = ap (λ xs. statement_of (xs ++ q)) (listed 6 r six) ∙ ap (λ xs. statement_of (placed 6 0 r ++ xs)) (listed 5 q five)

-- figures are those of their statement
pub figures_back : (vs : List ℕ) → length vs ≡ 11 → statement_figures (statement_of vs) ≡ vs
figures_back vs h =
    let a = unsigned_back (get_or vs 2 0) in
    let b = unsigned_back (get_or vs 3 0) in
    let c = unsigned_back (get_or vs 4 0) in
    let d = unsigned_back (get_or vs 5 0) in
    let e = unsigned_back (get_or vs 6 0) in
    let all = listed 11 vs h in
    cc

-- to check a statement is to check its opening, and then its closing
pub sized_statement : (s : StatementFigures) → sized statement_format (statement_figures s) 0 ≡ and_then (sized (row opening_limits closed) (take 6 (statement_figures s)) 0) (λ middle. sized (row (closing_limits (take 6 (statement_figures s))) closed) (drop 6 (statement_figures s)) middle)
unfolding statement_format
sized_statement s = sized_row opening_limits (λ opening. row (closing_limits opening) closed) (take 6 (statement_figures s)) (drop 6 (statement_figures s)) 0 refl

-- a statement that was written reads back
pub statement_reads : (s : StatementFigures) (output : List ℕ) (end : ℕ) → sized statement_format (statement_figures s) 0 ≡ Ok end → statement_read (take end (overwritten (spelled_all (statement_figures s)) output)) ≡ Ok s
statement_reads s output end h = ap (λ w. and_then w (λ figures. Ok (statement_of figures))) (whole_written statement_format (statement_figures s) output end h) ∙ ap Ok (statement_back s)
