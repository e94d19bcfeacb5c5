use Prim.Native.Nat.{◌-◌}
use Rattle.store.proofs.Checks.{Tallying}
use Rattle.store.proofs.check.tally.Given as goal

abbrev pub invariant-loop : goal.invariant-loop
invariant-loop l = Tallying l.table (l.tracks - l.counter) l.at l.sectors l.bytes
