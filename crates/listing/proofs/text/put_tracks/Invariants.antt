use Prim.Native.Nat.{◌-◌}
use Rattle.listing.proofs.Tracks.{Walking}
use Rattle.listing.proofs.text.put_tracks.Given as goal

abbrev pub invariant-loop-step : goal.invariant-loop-step
invariant-loop-step l = Walking l.image l.initial.out l.place l.initial.walk l.start.kind l.out l.walk l.at

abbrev pub decreases-loop-step : goal.decreases-loop-step
decreases-loop-step l = l.walk.entries - l.walk.entry
