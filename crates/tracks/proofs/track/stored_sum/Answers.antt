use mathlib.Core.Path.{ap}
use Rattle.tracks.specs.declared.track.Row.{Row}
use native.Mathlib.Omega.{arith}
use Rattle.tracks.proofs.Tracks.{sum-start, sum-again, sum_done}
use Rattle.tracks.proofs.track.stored_sum.Goals as goal

pub loop-k-init : goal.loop-k-init
loop-k-init c = sum-start _ _ _

pub loop-k-preserved : goal.loop-k-preserved
loop-k-preserved c =
    let d = c in
    sum-again _ _ _ _ _ d.loop-k.invariant _ c.loop-k-test.true (ap (λ (r : Row). r.stored) c.sector_row.ensures) (omega arith)

pub returns : goal.returns
returns c = (sum_done _ _ _ _ _ c.loop-k.invariant c.loop-k-test.false, omega arith)
