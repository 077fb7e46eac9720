use Rattle.std.proofs.Common.{◌≡◌, ℕ, ◌+◌, ◌-◌, List, length, get_or, take, drop, ap, ◌∙◌, arith}
use Rattle.std.proofs.lemmas.List.{get_or-take, get_or-drop, length-take, length-drop}
use Rattle.tally.specs.{Total.total, Peak.peak_of, Peak.no_peak, Peak.peak_joined}
use Rattle.book.specs.Statements.{peak_over}
use Rattle.settlement.specs.Holdings.{Holding, no_holding}
use Rattle.tally.proofs.Numbers.{map_counting_same}
use Rattle.book.proofs.views.month_peak.Goals as goal

-- the peak of a part of the entries, by where the part lies
part_peak : (entries : List Holding) (first hours : ℕ) → length (take (first + hours - first) (drop first entries)) ≡ hours →
    peak_over (length (take (first + hours - first) (drop first entries))) (λ hour. get_or (take (first + hours - first) (drop first entries)) hour no_holding)
    ≡ peak_over hours (λ hour. get_or entries (first + hour) no_holding)
part_peak entries first hours long =
    ap (λ n. peak_over n (λ hour. get_or (take (first + hours - first) (drop first entries)) hour no_holding)) long
    ∙ ap (total no_peak peak_joined)
    (map_counting_same hours _ _
    (λ hour below. ap (λ (e : Holding). peak_of e.second.withdrawn hour)
    (get_or-take (first + hours - first) (drop first entries) hour no_holding (omega arith) ∙ get_or-drop first entries hour no_holding)))

pub returns : goal.returns
returns c =
    let entries = c.args.entries.now in
    let first = c.args.first in
    let hours = c.args.hours in
    c.fold.ensures ∙ ap (total no_peak peak_joined) c.fill_peaks.ensures
    ∙ part_peak entries first hours (omega (arith, length-take (first + hours - first) (drop first entries), length-drop first entries, c.requires.within))
