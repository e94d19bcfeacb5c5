use Rattle.std.proofs.Common.{rules, arith}
use Rattle.sheet.specs.Sheets.{behind}
use Rattle.sheet.proofs.Highs.{few-high}
use Rattle.sheet.proofs.reading.behind.Goals as goal

pub overflow_add-result-2 : goal.overflow_add-result-2
overflow_add-result-2 c = omega (arith, few-high c.args.width c.requires.0)

pub returns : goal.returns
unfolding behind
returns c = search rules
