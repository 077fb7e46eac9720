use Rattle.std.proofs.Common.{◌≡◌, ℕ, ◌<◌, get_or}
use Rattle.tally.specs.Peak.{peak_of, no_peak}
use Rattle.settlement.specs.Holdings.{no_holding}
use Rattle.book.proofs.views.fill_peaks.Given as goal

abbrev pub invariant-loop-hour : goal.invariant-loop-hour
invariant-loop-hour l = (k : ℕ) → k < l.hour → get_or l.peaks k no_peak ≡ peak_of (get_or l.month k no_holding).second.withdrawn k
