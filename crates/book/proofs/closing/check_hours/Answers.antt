use Rattle.std.proofs.Common.{◌≡◌, ℕ, eqb, length, sym, ap, ◌∙◌, rules}
use borrow.Author.Tests.{tests}
use Rattle.std.specs.Option.{option_map}
use Rattle.std.proofs.Math.Bool.{not-not}
use Rattle.std.proofs.lemmas.Iterator.{YieldsList-from_slice, Search.position_from_yields_List}
use Rattle.settlement.specs.declared.faults.BookFault.TheVariants.{MissingHour}
use Rattle.tally.specs.Failing.{first_failing}
use Rattle.tally.proofs.Failing.{first_is}
use Rattle.book.specs.Memory.{is_posted}
use Rattle.book.proofs.closing.check_hours.Goals.{After-position}
use Rattle.book.proofs.closing.check_hours.Goals as goal

-- the first free mark, by its place
found : (c : After-position) → c.position.result ≡ first_failing (is_posted c.args.marks.now) 0 (length c.args.marks.now)
found c =
    position_from_yields_List (λ (mark : ℕ). eqb mark 0) _ _ c.position.result c.position.ensures.ran (YieldsList-from_slice c.args.marks.now cc) (λ x b q k. search (rules, tests))
    ∙ first_is (λ mark. eqb mark 0) (is_posted c.args.marks.now) c.args.marks.now 0 (λ i within. sym (not-not _))

pub returns-in-Some : goal.returns-in-Some
returns-in-Some c = ap (option_map (λ hour. MissingHour hour)) (sym c.in-Some.is ∙ found (goal.at.returns-in-Some c).After-position)

pub returns-in-None : goal.returns-in-None
returns-in-None c = ap (option_map (λ hour. MissingHour hour)) (sym c.in-None.is ∙ found (goal.at.returns-in-None c).After-position)
