-- Tables of faults of which none is met. Assumes nothing.
use Rattle.std.proofs.Common.{◌≡◌, Bool, true, false, not, List, [], ◌∷◌, Some, None, Option, refl, sym}
use Rattle.std.specs.Prelude.{is_none}
use Rattle.std.{specs.Option.option_map, proofs.lemmas.Bool.not-false}
use Rattle.settlement.specs.{declared.faults.LineFault.LineFault, Faults.met_if, Faults.first_met, Faults.of_posting}

-- a fault that is not met: its test failed
pub unmet : {F : Type 0} (test : Bool) (fault : F) → None ≡ met_if test fault → test ≡ false
unmet true fault none = cc
unmet false fault none = refl

-- a test whose failing is a fault passed, if the fault is not met
pub kept : {F : Type 0} (test : Bool) (fault : F) → met_if (not test) fault ≡ None → test ≡ true
kept test fault none = not-false test (unmet (not test) fault (sym none))

-- no row of a table is met
abbrev pub NoneMet : {F : Type 0} → List (Option F) → Type 0
NoneMet [] = Unit {0}
NoneMet (row ∷ rows) = (row ≡ None) × NoneMet rows

-- where a table answers none
pub first_met_none : {F : Type 0} (rows : List (Option F)) → first_met rows ≡ None → NoneMet rows
first_met_none [] none = tt
first_met_none (None ∷ rows) none = (refl, first_met_none rows none)
first_met_none (Some fault ∷ rows) none = cc

-- where there is none, it is none
pub none_is : {X : Type 0} (o : Option X) → is_none o ≡ true → o ≡ None
none_is None none = refl
none_is (Some x) none = cc

-- none that is told of a place is no place
pub mapped_none : {X Y : Type 0} (f : X → Y) (o : Option X) → None ≡ option_map f o → o ≡ None
mapped_none f None none = refl
mapped_none f (Some x) none = cc

-- a fault of the book that is none was none of the posting
pub of_posting_none : (fault : Option LineFault) → of_posting fault ≡ None → fault ≡ None
of_posting_none None none = refl
of_posting_none (Some fault) none = cc
