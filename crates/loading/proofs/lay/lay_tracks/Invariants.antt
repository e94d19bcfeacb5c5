use Prim.Native.Nat.{◌-◌}
use Rattle.loading.proofs.Loads.{Laying}
use Rattle.loading.proofs.lay.lay_tracks.Given as goal

abbrev pub invariant-loop-rest : goal.invariant-loop-rest
invariant-loop-rest l = Laying l.image l.initial.table l.initial.bytes l.initial.walk l.table l.bytes l.walk l.at l.place

abbrev pub decreases-loop-rest : goal.decreases-loop-rest
decreases-loop-rest l = l.walk.entries - l.walk.entry
