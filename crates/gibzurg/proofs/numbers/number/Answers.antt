use Rattle.std.proofs.Common.{◌∙◌, arith}
use Rattle.std.proofs.lemmas.Str.Parse.{parse_plain}
use Rattle.std.proofs.lemmas.Str.Pattern.{starts_char}
use Rattle.std.proofs.lemmas.Bool.Decides.{not_from_Decides}
use Rattle.gibzurg.proofs.Digits.{reading, read_number}
use Rattle.gibzurg.proofs.numbers.number.Goals as goal

pub returns : goal.returns
returns c =
    let word = c.args.word.now in
    let unsigned = not_from_Decides _ (starts_char 43 word _ c.starts_with.ensures.cases (omega arith) (omega arith)) c.if-starts_with.false in
    c.ok.ensures.value ∙ read_number word _ (parse_plain reading 32 word _ c.parse.ensures.value.0 unsigned)
