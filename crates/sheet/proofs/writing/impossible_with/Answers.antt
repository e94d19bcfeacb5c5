use Rattle.std.proofs.Common.{arith}
use Rattle.std.proofs.lemmas.Bool.Decides.{nat_tests}
use Rattle.std.proofs.lemmas.Grind.{common_steps}
use Rattle.sending.specs.Calls.{impossible_with}
use Rattle.sheet.proofs.writing.impossible_with.Goals as goal

pub returns-then-held-ne-HELD : goal.returns-then-held-ne-HELD
unfolding impossible_with
returns-then-held-ne-HELD c = grind (arith, common_steps, nat_tests)

pub returns-else-held-ne-HELD : goal.returns-else-held-ne-HELD
unfolding impossible_with
returns-else-held-ne-HELD c = grind (arith, common_steps, nat_tests)
