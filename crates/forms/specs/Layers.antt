-- Forms made of forms. Assumes nothing.
use Rattle.std.specs.Prelude.{ℕ, ◌-◌, ◌≤◌, min, if◌then◌else◌, ◌==◌}
use Rattle.forms.specs.{Kinds.block, Kinds.share, Meaning.Meaning, declared.Contract.Contract, declared.Parties.Parties}

-- A rule for quantities: what is left of one.
abbrev pub Rule : Type 0
Rule = Contract → Parties → ℕ → ℕ

-- It leaves no more than there was.
abbrev pub NeverRaises : Rule → Type 0
NeverRaises rule =
    (terms : Contract) (parties : Parties) (quantity : ℕ) → rule terms parties quantity ≤ quantity

-- A form's quantity, by a rule; terms and legs pass through.
abbrev pub layered : Rule → Meaning → Meaning
layered rule form = record {
  takes = form.takes;
  quantity = λ terms parties facts. rule terms parties (form.quantity terms parties facts);
  legs = form.legs;
}

-- Less the contract's margin. It is at least 0, since natural subtraction stops there.
abbrev pub less_margin : Rule
less_margin terms parties quantity = quantity - terms.margin

-- At most the seller's capacity.
abbrev pub up_to_capacity : Rule
up_to_capacity terms parties quantity = min quantity parties.seller.capacity

-- The quantity lowered by the contract's margin.
abbrev pub lowered : Meaning → Meaning
lowered = layered less_margin

-- The quantity lowered to the seller's capacity.
abbrev pub capped : Meaning → Meaning
capped = layered up_to_capacity

-- Of two forms the one that terms go to: the first if they have the named kind, else the second.
abbrev pub picked : ℕ → Meaning → Meaning → Contract → Meaning
picked kind first second terms = if terms.kind == kind then first else second

-- Two forms as one: each question goes to the one that the terms go to.
abbrev pub by_kind : ℕ → Meaning → Meaning → Meaning
by_kind kind first second = record {
  takes = λ terms. (picked kind first second terms).takes terms;
  quantity = λ terms. (picked kind first second terms).quantity terms;
  legs = λ terms. (picked kind first second terms).legs terms;
}

-- The product: blocks of kind 1 up to the seller's capacity; shares of kind 2, lowered by the margin, up to it; no other kind.
abbrev pub product_meaning : Meaning
product_meaning = by_kind 1 (capped block) (capped (lowered share))
