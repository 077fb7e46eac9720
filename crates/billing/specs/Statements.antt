-- What C is told of the packet of a statement. Assumes nothing.
use Rattle.std.specs.Prelude.{ℕ, List}
use Rattle.std.specs.Result.{result_err}
use Rattle.packets.specs.StatementPackets.{statement_read}
use Rattle.billing.specs.{declared.answers.Answer.Answer, Answers.of_packet, Answers.told}

-- bytes that are to be a statement's packet, by the number and the place of what is wrong there
abbrev pub statement_checked : (bytes : List ℕ) → Answer
statement_checked bytes = told of_packet (result_err (statement_read bytes))
