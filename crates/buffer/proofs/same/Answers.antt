use borrow.Author.Rules.{rules}
use Rattle.buffer.specs.Same.{same_bytes}
use Rattle.buffer.proofs.Loops.{lengths_differ, same_turn, same-done}
use Rattle.buffer.proofs.same.Goals as goal

pub returns-then-a-b : goal.returns-then-a-b
returns-then-a-b c = search (rules, lengths_differ)

pub loop-i-init : goal.loop-i-init
unfolding same_bytes
loop-i-init c = search rules

pub loop-i-preserved : goal.loop-i-preserved
loop-i-preserved c = search (rules, same_turn)

pub returns : goal.returns
returns c = search (rules, same-done)
