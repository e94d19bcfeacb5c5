use native.Mathlib.Omega.{arith}
use Rattle.home.proofs.Writes.{track-put}
use Rattle.home.proofs.write.put_track.Goals as goal

pub returns : goal.returns
returns c = track-put c.args.track.now c.requires.in_bounds.0 c.requires.in_bounds.1.0 _ _ _ _ _ (omega arith) c.put_header.ensures c.put_padded.ensures
