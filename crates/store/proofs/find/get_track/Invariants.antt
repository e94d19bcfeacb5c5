use Prim.Native.Nat.{◌-◌}
use Rattle.store.proofs.Walks.{TrackWalk}
use Rattle.store.proofs.find.get_track.Given as goal

abbrev pub invariant-loop-index : goal.invariant-loop-index
invariant-loop-index l = TrackWalk l.table l.side l.cylinder (l.tracks - l.index) l.index l.at l.place
