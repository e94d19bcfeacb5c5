use borrow.Author.Rules.{rules}
use Rattle.layout.proofs.Images.{laid-parts}
use Rattle.layout.proofs.layout.encode.Goals as goal

pub returns : goal.returns
returns c = search (rules, laid-parts)
