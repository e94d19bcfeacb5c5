use mathlib.Core.Logic.{inl, inr}
use Rattle.store.proofs.find.cylinders.Goals.{then-byte-eq0, else-byte-eq0}
use native.Mathlib.Omega.{arith}
use Rattle.std.proofs.Common.{◌∙◌}
use Rattle.store.proofs.Same.{none-less}
use Rattle.store.proofs.Walks.{CylinderWalk, cylinder-start, cylinder-inside, cylinder-on, cylinder-over}
use Rattle.store.proofs.find.cylinders.Goals as goal

pub loop-init : goal.loop-init
loop-init c = none-less (λ n. CylinderWalk c.args.table.now n 1 0 0) _ (cylinder-start _ _ c.byte-tracks.ensures.0 c.requires)

pub overflow_add-at : goal.overflow_add-at
overflow_add-at c = omega (arith, (cylinder-inside _ _ _ _ _ c.loop.invariant (omega arith)))

pub overflow_add-at-in-loop : goal.overflow_add-at-in-loop
overflow_add-at-in-loop c = omega (arith, (cylinder-inside _ _ _ _ _ c.loop.invariant (omega arith)))

pub overflow_add-at-in-loop-3 : goal.overflow_add-at-in-loop-3
overflow_add-at-in-loop-3 c = omega (arith, (cylinder-inside _ _ _ _ _ c.loop.invariant (omega arith)))

pub loop-preserved : goal.loop-preserved
loop-preserved c =
    cylinder-on _ _ _ _ _ _ c.loop.invariant c.loop-test.true _ _ _ _ _ c.byte-cylinder.ensures.0 c.byte-cylinder.ensures.1 c.byte.ensures.0
    c.byte-in-loop.ensures.0
    (elim c.if-byte-eq0.branch [
      | then-byte-eq0 w ↦ inl (w.if-byte-eq0.true, (w.c0-is ∙ w.max-c0.ensures, w.c1-is))
      | else-byte-eq0 w ↦ inr (w.if-byte-eq0.false, (w.c0-is, w.c1-is ∙ w.max-c1.ensures))
    ])

pub returns : goal.returns
returns c = cylinder-over _ _ _ _ _ c.loop.invariant (omega arith)
