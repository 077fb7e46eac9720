use Rattle.std.proofs.Common.{ap, ◌∙◌, rules}
use Rattle.std.proofs.lemmas.Int.{wraps}
use Rattle.tally.specs.{Money.money_joined, MoneyLaws.money_each, MoneyLaws.money_cancels}
use Rattle.tally.proofs.money.MoneyReversible.opposite.Goals as goal

pub returns : goal.returns
returns c =
    let negated = money_each _ _ (search (rules, wraps)) (search (rules, wraps)) (search (rules, wraps)) (search (rules, wraps)) in
    record {
      value = negated;
      cancels = ap (money_joined c.args.self) negated ∙ money_cancels c.args.self;
    }
