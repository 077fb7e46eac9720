use Rattle.std.proofs.Common.{not, rules}
use borrow.Author.Tests.{tests}
use Rattle.std.proofs.lemmas.Iterator.{YieldsList-from_slice, Search.all_from_yields_List}
use Rattle.law.specs.Parties.{is_party}
use Rattle.audit.proofs.comparisons.is_stranger.Goals as goal

pub returns : goal.returns
returns c = all_from_yields_List (λ place. not (is_party c.args.index place)) _ _ c.all.result c.all.ensures.ran (YieldsList-from_slice c.args.places.now cc) (λ x b q k. search (rules, tests))
