use Prim.Native.Nat.{◌*◌}
use Rattle.image.specs.Dsk.{entries}
use Rattle.image.proofs.Headers.{entries-most}
use Rattle.image.proofs.walk.entries_of.Goals as goal

pub returns : goal.returns
unfolding entries
returns c = ((λ i. c.byte-tracks.ensures.0 i * c.byte-sides.ensures.0 i), entries-most _ _ c.byte-tracks.ensures.1 c.byte-sides.ensures.1)
