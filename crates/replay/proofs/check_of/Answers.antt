use Rattle.std.proofs.Common.{arith, drop-cons}
use Rattle.std.proofs.lemmas.Grind.{common_steps}
use Rattle.replay.specs.Answers.{check_from}
use Rattle.replay.proofs.check_of.Goals as goal

pub loop-b-preserved : goal.loop-b-preserved
unfolding check_from
loop-b-preserved c = grind (arith, common_steps, drop-cons)

pub returns : goal.returns
unfolding check_from
returns c = grind (arith, common_steps)
