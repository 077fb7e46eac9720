use Rattle.std.proofs.Common.{◌≡◌, ℕ, ◌++◌, List, [], length, map, take, drop, min, ap, sym, ◌∙◌, arith}
use Rattle.std.proofs.lemmas.List.{take-map, take_min, drop_min, take-append-drop, length-take, append-nil}
use Rattle.std.proofs.Math.ListN.{drop_of_length-le}
use Rattle.runs.specs.{declared.calls.Call.Call, Reading.request_of, Reading.figures_in, Runs.answers_to, Runs.kept_in, Runs.kept_after}
use Rattle.runs.proofs.runs.replay.Goals as goal

-- of so many calls, those for which there are places
few_heard : (calls : List Call) (places n : ℕ) → n ≡ min (length calls) places → map request_of (take n calls) ≡ take places (map request_of calls)
few_heard calls places n is =
    let few : n ≡ min places (length calls) = omega (arith, is) in
    ap (λ k. map request_of (take k calls)) few ∙ ap (map request_of) (take_min places calls) ∙ sym (take-map request_of places calls)

-- and the places that are left
rest_left : {X : Type 0} (calls : List Call) (places : List X) (n : ℕ) → n ≡ min (length calls) (length places) → drop (length (take n calls)) places ≡ drop (length calls) places
rest_left calls places n is =
    let few : length (take n calls) ≡ min (length calls) (length places) = omega (arith, is, length-take n calls) in
    ap (λ k. drop k places) few ∙ drop_min (length calls) places

pub returns : goal.returns
returns g c =
    let form = g.F.ContractForm.meaning c.args.form.now in
    let f = figures_in c.args.month in
    let k = c.loop-i.invariant in
    let i : ℕ = c.loop-i.i in
    let hears = c.args.hears_contracts in
    let before = kept_in c.args.month c.args.lent.now in
    let heard : List Call = take c.min.result c.args.calls.now in
    let all : length heard ≡ i = omega arith in
    let few = few_heard c.args.calls.now (length c.args.answers.now) c.min.result c.min.ensures in
    let none : drop i heard ≡ [] = drop_of_length-le heard (omega arith) in
    let told = sym (append-nil (take i c.loop-i.answers)) ∙ ap (λ rest. take i c.loop-i.answers ++ answers_to hears form f (map request_of rest) (kept_in c.loop-i.month c.loop-i.lent)) (sym none) ∙ k.told ∙ ap (λ rs. answers_to hears form f rs before) few in
    let left = ap (λ n. drop n c.loop-i.answers) (sym all) ∙ k.others ∙ rest_left c.args.calls.now c.args.answers.now c.min.result c.min.ensures in
    record {
      lent = k.lent;
      told = sym (take-append-drop i c.loop-i.answers) ∙ (λ t. told t ++ left t);
      kept = ap (λ rest. kept_after hears form f (map request_of rest) (kept_in c.loop-i.month c.loop-i.lent)) (sym none) ∙ k.kept ∙ ap (λ rs. kept_after hears form f rs before) few;
      figures = k.figures;
    }
