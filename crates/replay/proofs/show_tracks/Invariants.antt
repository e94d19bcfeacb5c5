use Rattle.std.proofs.Common.{◌*◌, ◌≤◌}
use Rattle.replay.proofs.show_tracks.Given as goal

abbrev pub invariant-loop-k : goal.invariant-loop-k
invariant-loop-k g l = l.place ≤ 16711425 * l.k
