use native.Mathlib.Omega.{arith}
use Rattle.std.proofs.Common.{ap}
use Rattle.tracks.specs.declared.track.Row.{Row}
use Rattle.store.proofs.Sums.{sum-start, sum-again, sum_done}
use Rattle.store.proofs.check.rows_len.Goals as goal

pub loop-k-init : goal.loop-k-init
loop-k-init c = sum-start _ _ _ c.requires.0

pub loop-k-preserved : goal.loop-k-preserved
loop-k-preserved c = sum-again _ _ _ _ _ c.loop-k.invariant _ c.loop-k-test.true (ap (λ (r : Row). r.stored) c.row_at.ensures) (omega arith)

pub returns : goal.returns
returns c = sum_done _ _ _ _ _ c.loop-k.invariant c.loop-k-test.false
