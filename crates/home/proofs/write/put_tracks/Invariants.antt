use Prim.Native.Nat.{◌-◌}
use Rattle.fields.specs.Bytes.{byte_at}
use Rattle.home.proofs.Writes.{Putting}
use Rattle.home.proofs.write.put_tracks.Given as goal

abbrev pub invariant-loop : goal.invariant-loop
invariant-loop l = Putting l.table l.bytes l.initial.block l.initial.image l.s.sides l.block l.image (byte_at l.table 0 - l.counter) l.at l.place l.to
