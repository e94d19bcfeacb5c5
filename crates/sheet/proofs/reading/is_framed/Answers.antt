use Rattle.std.proofs.Common.{arith}
use Rattle.std.proofs.lemmas.Bool.Decides.{nat_tests}
use Rattle.std.proofs.lemmas.Grind.{common_steps}
use Rattle.sheet.specs.Sheets.{framed, sheet_at}
use Rattle.sheet.proofs.reading.is_framed.Goals as goal

pub returns-then-high_at-s : goal.returns-then-high_at-s
unfolding framed sheet_at
returns-then-high_at-s c = grind (arith, common_steps, nat_tests)

pub returns-else-high_at-s : goal.returns-else-high_at-s
unfolding framed sheet_at
returns-else-high_at-s c = grind (arith, common_steps, nat_tests)
