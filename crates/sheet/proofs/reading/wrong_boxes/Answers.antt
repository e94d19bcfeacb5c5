use Rattle.std.proofs.Common.{rules, arith}
use Rattle.std.proofs.lemmas.Bool.Decides.{nat_tests}
use Rattle.std.proofs.lemmas.Grind.{common_steps}
use Rattle.sheet.specs.Sheets.{world_from, wrong_boxes}
use Rattle.sheet.proofs.Judges.{right-work}
use Rattle.sheet.proofs.reading.wrong_boxes.Goals as goal

pub wrong_box-requires : goal.wrong_box-requires
wrong_box-requires c = search (rules, right-work)

pub returns-then-number_in-gt2 : goal.returns-then-number_in-gt2
unfolding world_from wrong_boxes
returns-then-number_in-gt2 c = grind (arith, common_steps, nat_tests)

pub returns-else-number_in-gt2 : goal.returns-else-number_in-gt2
unfolding world_from wrong_boxes
returns-else-number_in-gt2 c = grind (arith, common_steps, nat_tests)
