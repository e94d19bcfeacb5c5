use Rattle.std.proofs.Common.{arith}
use Rattle.std.proofs.lemmas.Bool.Decides.{nat_tests}
use Rattle.std.proofs.lemmas.Grind.{common_steps}
use Rattle.layout.specs.Layout.{formed}
use Rattle.layout.proofs.layout.formed.Goals as goal

pub returns-then-c-le1-4 : goal.returns-then-c-le1-4
unfolding formed
returns-then-c-le1-4 c = grind (arith, common_steps, nat_tests)

pub returns-else-c-le1-4 : goal.returns-else-c-le1-4
unfolding formed
returns-else-c-le1-4 c = grind (arith, common_steps, nat_tests)
