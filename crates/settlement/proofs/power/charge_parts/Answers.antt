use Rattle.std.proofs.Common.{◌≡◌, ◌<◌, ◌≢◌, length, get_or, pos, ◌-ℤ◌, ◌∙◌, arith, below_more}
use Rattle.std.proofs.lemmas.List.{FromFn.fill_by_all, get_or_default, get_or-set_same, get_or-set_other}
use Rattle.settlement.{specs.Holdings.no_holding, specs.Holdings.holding_joined, specs.Holdings.withdrawn_on, specs.Holdings.power_points, specs.Power.power_due, specs.Power.power_weights, specs.Power.charged_at, proofs.Powers.power_part_le, proofs.Sharing.part_read}
use Rattle.settlement.proofs.power.charge_parts.Goals as goal

pub put_power-requires : goal.put_power-requires
put_power-requires c =
    let withdrawn = withdrawn_on c.args.accounts.now in
    let read = part_read (power_due c.args.agents.now) (power_weights c.args.agents.now withdrawn) c.args.parts.now c.loop-i.i c.requires.shared in
    let least = power_part_le c.args.agents.now withdrawn c.loop-i.i c.loop-i-test.true in
    record { credit_within = omega arith; debit_within = omega arith }

pub loop-i-preserved : goal.loop-i-preserved
loop-i-preserved c =
    let agents = c.args.agents.now in
    let accounts = c.args.accounts.now in
    let i = c.loop-i.i in
    let lt : i < length c.loop-i.accounts = omega (arith, c.loop-i.auto.accounts, c.requires.accounts_long, c.loop-i-test.true) in
    let read : get_or c.loop-i.accounts i c.index-accounts-i.result ≡ get_or accounts i no_holding =
    get_or_default c.loop-i.accounts i c.index-accounts-i.result no_holding lt ∙ c.loop-i.invariant.1 i (omega arith) in
    let part = part_read (power_due agents) (power_weights agents (withdrawn_on accounts)) c.args.parts.now i c.requires.shared in
    let made : c.put_power.new.account ≡ charged_at agents accounts i =
    c.put_power.ensures ∙ (λ t. holding_joined (read t) (power_points (pos (c.power_credit.ensures.value t) -ℤ pos (part t)))) in (
      below_more _ _
          (λ k h. let ne : k ≢ i = omega arith in rw get_or-set_other (c.loop-i.invariant.0 k h))
          (get_or-set_same c.loop-i.accounts i c.put_power.new.account no_holding lt ∙ made),
      (λ k h. let ne : k ≢ i = omega arith in rw get_or-set_other (c.loop-i.invariant.1 k (omega arith))),
    )

pub returns : goal.returns
returns c =
    fill_by_all (charged_at c.args.agents.now c.args.accounts.now) c.loop-i.accounts (length c.args.accounts.now) no_holding (omega (arith, c.loop-i.auto.accounts))
    (λ k within. c.loop-i.invariant.0 k (omega arith))
