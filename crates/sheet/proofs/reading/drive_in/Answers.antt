use Rattle.sheet.proofs.Judges.{drive-is}
use borrow.Author.Rules.{rules}
use Rattle.sheet.proofs.reading.drive_in.Goals as goal

pub returns : goal.returns
returns c = search (rules, drive-is)
