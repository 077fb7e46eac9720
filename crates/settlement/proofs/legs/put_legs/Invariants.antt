use Rattle.std.proofs.Common.{take}
use Rattle.forms.specs.Parties.{legs_by_party}
use Rattle.settlement.specs.{Holdings.EachGets, Legs.is_number, Legs.given_to}
use Rattle.settlement.proofs.legs.put_legs.Given as goal

abbrev pub invariant-loop-number : goal.invariant-loop-number
invariant-loop-number l =
    EachGets (λ i. given_to (is_number i) (take l.number-index (legs_by_party l.fn.contract l.fn.legs))) l.initial.fresh l.fresh
