use Rattle.std.proofs.Common.{rules, sym}
use Rattle.buffer.proofs.Overs.{over-nil}
use Rattle.buffer.proofs.Loops.{copy-turn, copy_done}
use Rattle.buffer.proofs.copy_in.Goals as goal

pub loop-i-init : goal.loop-i-init
loop-i-init c = sym (over-nil _ _)

pub loop-i-preserved : goal.loop-i-preserved
loop-i-preserved c = search (rules, copy-turn)

pub returns : goal.returns
returns c = search (rules, copy_done)
