use Prim.Native.Nat.{◌-◌}
use Rattle.store.proofs.Walks.{CylinderWalk}
use Rattle.store.proofs.find.cylinders.Given as goal

abbrev pub invariant-loop : goal.invariant-loop
invariant-loop l = CylinderWalk l.table (l.tracks - l.counter) l.at l.c0 l.c1
