use Prim.Native.Nat.{◌-◌}
use Rattle.image.proofs.Steps.{Counted}
use Rattle.image.proofs.walk.totals_of.Given as goal

abbrev pub invariant-loop-rest : goal.invariant-loop-rest
invariant-loop-rest l = Counted l.image l.initial.walk l.walk l.totals

abbrev pub decreases-loop-rest : goal.decreases-loop-rest
decreases-loop-rest l = l.walk.entries - l.walk.entry
