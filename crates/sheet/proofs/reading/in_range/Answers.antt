use Rattle.std.proofs.Common.{arith}
use Rattle.std.proofs.lemmas.Bool.Decides.{nat_tests}
use Rattle.std.proofs.lemmas.Grind.{common_steps}
use Rattle.sheet.specs.Sheets.{in_range}
use Rattle.sheet.proofs.reading.in_range.Goals as goal

pub returns-then-is_empty : goal.returns-then-is_empty
unfolding in_range
returns-then-is_empty c = grind (arith, common_steps, nat_tests)

pub returns-else-is_empty : goal.returns-else-is_empty
unfolding in_range
returns-else-is_empty c = grind (arith, common_steps, nat_tests)

pub returns-else-is_work-2 : goal.returns-else-is_work-2
unfolding in_range
returns-else-is_work-2 c = grind (arith, common_steps, nat_tests)
