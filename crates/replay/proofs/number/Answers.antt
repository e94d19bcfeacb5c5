use Rattle.std.proofs.Common.{arith}
use Rattle.std.proofs.lemmas.Grind.{common_steps}
use Rattle.fields.specs.Bytes.{read_number}
use Rattle.replay.specs.Answers.{number_in}
use Rattle.replay.proofs.number.Goals as goal

pub returns : goal.returns
unfolding number_in read_number
returns c = grind (arith, common_steps)
