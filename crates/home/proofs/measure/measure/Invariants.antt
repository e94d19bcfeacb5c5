use Prim.Native.Nat.{◌-◌}
use Rattle.home.proofs.Meets.{Meeting}
use Rattle.home.proofs.measure.measure.Given as goal

abbrev pub invariant-loop : goal.invariant-loop
invariant-loop l = Meeting l.table (l.tracks - l.counter) l.at l.sectors l.bytes l.met
