use borrow.Author.Rules.{rules}
use Rattle.fields.proofs.Sizes.{size-by, size-last}
use Rattle.fields.proofs.id.size_of.Goals as goal

pub returns-in-0 : goal.returns-in-0
returns-in-0 c = size-by _ 0 (search rules)

pub returns-in-1 : goal.returns-in-1
returns-in-1 c = size-by _ 1 (search rules)

pub returns-in-2 : goal.returns-in-2
returns-in-2 c = size-by _ 2 (search rules)

pub returns-in_default : goal.returns-in_default
returns-in_default c = let none = c.in_default.in_default-own.rest in size-last _ none.0.0.1 none.0.1 none.1
