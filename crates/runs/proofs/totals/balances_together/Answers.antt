use Rattle.std.proofs.Common.{◌≡◌, ◌+◌, ◌%◌, ◌^◌, ◌+ℤ◌, ap, sym, ◌∙◌, rules, w64, to_z, of_z}
use Rattle.std.specs.Int.{int_wrap}
use Rattle.std.proofs.lemmas.{Int.wraps, Int.int_wrap-add_left, List.get_or_read}
use Rattle.tally.specs.Sums.{sum_to_ℤ}
use Rattle.tally.proofs.Numbers.{sum_to_ℤ_more}
use Rattle.runs.specs.Runs.{no_statement, balance_at}
use Rattle.runs.proofs.totals.balances_together.Goals as goal

pub loop-statement-preserved : goal.loop-statement-preserved
loop-statement-preserved c =
    let i = c.loop-statement.statement-index in
    let balance = balance_at c.args.statements.now in
    let is : c.statement-item.result.balance ≡ balance i = ap (λ st. st.balance) (get_or_read c.args.statements.now i _ c.loop-statement-test.true c.statement-item.is no_statement) in
    let step : to_z w64 ((c.loop-statement.sum-bits + of_z w64 c.statement-item.result.balance) % 2 ^ 64) ≡ int_wrap w64 (to_z w64 c.loop-statement.sum-bits +ℤ c.statement-item.result.balance) = search (rules, wraps) in
    step ∙ (λ t. int_wrap w64 (c.loop-statement.invariant t +ℤ is t)) ∙ int_wrap-add_left w64 (sum_to_ℤ i balance) (balance i) ∙ ap (int_wrap w64) (sym (sum_to_ℤ_more i balance))
