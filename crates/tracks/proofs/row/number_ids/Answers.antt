use native.Mathlib.Omega.{arith}
use Rattle.tracks.proofs.Numbering.{number-start, number-again, number-done}
use Rattle.tracks.proofs.row.number_ids.Goals as goal

pub loop-k-init : goal.loop-k-init
loop-k-init c = number-start _ _ _ _

pub loop-k-preserved : goal.loop-k-preserved
loop-k-preserved c = number-again _ _ _ _ _ _ c.loop-k.invariant _ c.copy_in.ensures (omega arith)

pub returns : goal.returns
returns c = number-done _ _ _ _ _ _ c.loop-k.invariant _ c.loop-k.auto.k-end c.loop-k-test.false
