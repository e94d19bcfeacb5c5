use borrow.Author.Rules.{rules}
use Rattle.listing.proofs.Digits.{writing_start, writing-again, writing-done}
use Rattle.listing.proofs.text.write_digits.Goals as goal

pub loop-left-init : goal.loop-left-init
loop-left-init c = writing_start _ _ (search rules) c.requires

pub loop-left-preserved : goal.loop-left-preserved
loop-left-preserved c = search (rules, writing-again)

pub returns : goal.returns
returns c = search (rules, writing-done)
