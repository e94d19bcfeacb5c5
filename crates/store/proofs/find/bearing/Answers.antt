use native.Mathlib.Omega.{arith}
use Rattle.std.proofs.Common.{sym, ◌∙◌, true, false}
use Rattle.store.proofs.Bearings.{count-start, count-again, count-done}
use Rattle.store.proofs.find.bearing.Goals.{then-row_here, else-row_here}
use Rattle.store.proofs.find.bearing.Goals as goal

pub loop-k-init : goal.loop-k-init
loop-k-init c = count-start _ _ _ _ c.requires.0

pub loop-k-preserved : goal.loop-k-preserved
loop-k-preserved c =
    let e = sym c.row_here.ensures in
    let again = count-again _ _ _ _ _ _ c.loop-k.invariant in
    elim c.if-row_here.branch [
      | then-row_here w ↦ again true _ c.loop-k-test.true (e ∙ w.if-row_here.true) w.found-is
      | else-row_here w ↦ again false _ c.loop-k-test.true (e ∙ w.if-row_here.false) (omega (arith, w.found-is))
    ]

pub returns : goal.returns
returns c = count-done _ _ _ _ _ _ c.loop-k.invariant c.loop-k.auto.k-end c.loop-k-test.false
