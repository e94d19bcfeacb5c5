use Rattle.store.proofs.Bearings.{BearingWalk}
use Rattle.store.proofs.find.bearing.Given as goal

abbrev pub invariant-loop-k : goal.invariant-loop-k
invariant-loop-k l = BearingWalk l.table l.id l.start l.count l.found l.k
