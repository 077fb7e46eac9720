-- What a call came to that gives a month or a statement, or refuses to. Assumes nothing.
use Rattle.std.proofs.Common.{◌≡◌, Some, None, Ok, IfOk, Option, refl, ap}
use Rattle.std.specs.Result.{result_err}
use Rattle.settlement.specs.{declared.faults.BookFault.BookFault, Faults.answer_of}
use Rattle.book.specs.{declared.months.MonthFigures.MonthFigures, Outcomes.outcome, Outcomes.outcome_of, Memory.Memory}

-- one that gave a month met no fault
pub month_given : (met : Option BookFault) (f g : MonthFigures) (m m' after : Memory) → outcome_of (Ok g) m' ≡ outcome met f m after → (met ≡ None) × (g ≡ f) × (m' ≡ after)
month_given None f g m m' after came = let same = ap (λ x. x.answer) came in (refl, cc same, ap (λ x. x.memory) came)
month_given (Some fault) f g m m' after came = let never = ap (λ x. x.answer) came in (cc never, cc never, cc never)

-- one that answers x or a fault answers the fault that was met
pub answer_fault : {X : Type 0} (x : X) (met : Option BookFault) → result_err (answer_of x met) ≡ met
answer_fault x None = refl
answer_fault x (Some fault) = refl

-- and gives x otherwise
pub answer_value : {X : Type 0} (x : X) (met : Option BookFault) → IfOk (answer_of x met) (λ y. y ≡ x)
answer_value x None = refl
answer_value x (Some fault) = tt
