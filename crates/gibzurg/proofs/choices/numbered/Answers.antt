use Rattle.std.proofs.Common.{◌≡◌, sym, ◌∙◌, rules, tests}
use Rattle.std.specs.List.{position}
use Rattle.std.proofs.lemmas.Iterator.{YieldsList-from_slice}
use Rattle.std.proofs.lemmas.Iterator.Search.{position_from_yields_List}
use Rattle.gibzurg.proofs.Names.{names_it, read_by_place}
use Rattle.gibzurg.proofs.choices.numbered.Goals as goal

pub returns-in-Some : goal.returns-in-Some
returns-in-Some c =
    let found : c.position.result ≡ position (names_it c.args.word.now) c.args.names.now = position_from_yields_List (names_it c.args.word.now) _ _ c.position.result c.position.ensures.ran (YieldsList-from_slice _ c.iter.ensures.rest) (λ x b q k. search (rules, tests)) in
    sym (rw (sym found ∙ c.in-Some.is) at (read_by_place c.args.first c.args.names.now c.args.word.now))

pub returns-in-None : goal.returns-in-None
returns-in-None c =
    let found : c.position.result ≡ position (names_it c.args.word.now) c.args.names.now = position_from_yields_List (names_it c.args.word.now) _ _ c.position.result c.position.ensures.ran (YieldsList-from_slice _ c.iter.ensures.rest) (λ x b q k. search (rules, tests)) in
    c.number.ensures ∙ sym (rw (sym found ∙ c.in-None.is) at (read_by_place c.args.first c.args.names.now c.args.word.now))
