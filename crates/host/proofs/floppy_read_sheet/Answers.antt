use Rattle.host.proofs.Sheets.{read-bad, read-good}
use borrow.Author.Rules.{rules}
use Rattle.host.proofs.floppy_read_sheet.Goals as goal

pub returns-then-controller-ne-LENGTH : goal.returns-then-controller-ne-LENGTH
returns-then-controller-ne-LENGTH c = search (rules, read-bad)

pub returns : goal.returns
returns c = search (rules, read-good)
