use Rattle.std.proofs.Common.{◌≡◌, ◌++◌, length, map, take, drop}
use Rattle.runs.specs.{Lent.SameLoan, Reading.request_of, Reading.figures_in, Runs.kept_in, Runs.answers_to, Runs.kept_after}
use Rattle.runs.proofs.runs.replay.Given as goal

abbrev pub invariant-loop-i : goal.invariant-loop-i
invariant-loop-i g l =
    let form = g.F.ContractForm.meaning l.form in
    let f = figures_in l.initial.month in
    let before = kept_in l.initial.month l.initial.lent in
    let k = kept_in l.month l.lent in
    let rest = map request_of (drop l.i l.heard) in
    record {
      lent : SameLoan l.initial.lent l.lent;
      figures : figures_in l.month ≡ f;
      long : length l.answers ≡ length l.initial.answers;
      told : take l.i l.answers ++ answers_to l.hears_contracts form f rest k ≡ answers_to l.hears_contracts form f (map request_of l.heard) before;
      others : drop (length l.heard) l.answers ≡ drop (length l.heard) l.initial.answers;
      kept : kept_after l.hears_contracts form f rest k ≡ kept_after l.hears_contracts form f (map request_of l.heard) before;
    }
