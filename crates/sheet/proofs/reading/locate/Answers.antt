use Rattle.sheet.proofs.Judges.{places-are}
use borrow.Author.Rules.{rules}
use Rattle.sheet.proofs.reading.locate.Goals as goal

pub returns : goal.returns
returns c = search (rules, places-are)
