use Rattle.tracks.proofs.Tracks.{Summed}
use Rattle.tracks.proofs.track.stored_sum.Given as goal

abbrev pub invariant-loop-k : goal.invariant-loop-k
invariant-loop-k l = Summed l.kind l.block l.count l.k l.sum
