-- A pair of values, joined and undone part by part. Assumes nothing.
use Rattle.tally.specs.declared.pair.Pair.{Pair}

-- the pair of two values
abbrev pub pair_of : {A B : Type 0} → A → B → Pair A B
pair_of a b = record { first = a; second = b }

-- part by part, the two together
abbrev pub pair_joined : {A B : Type 0} → (A → A → A) → (B → B → B) → Pair A B → Pair A B → Pair A B
pair_joined join_a join_b x y = pair_of (join_a x.first y.first) (join_b x.second y.second)

-- part by part, undone
abbrev pub pair_undone : {A B : Type 0} → (A → A) → (B → B) → Pair A B → Pair A B
pair_undone undo_a undo_b x = pair_of (undo_a x.first) (undo_b x.second)
