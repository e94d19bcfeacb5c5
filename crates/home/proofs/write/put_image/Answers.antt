use native.Mathlib.Omega.{arith}
use Rattle.home.proofs.Writes.{shape-small, shape-long, image-laid}
use borrow.Author.Rules.{rules}
use Rattle.home.proofs.write.put_image.Goals as goal

pub put_info-requires : goal.put_info-requires
put_info-requires c = (search rules, shape-small _ _ _ c.requires.outbound)

pub copy_in-requires : goal.copy_in-requires
copy_in-requires c = omega (arith, shape-long _ _ _ c.requires.outbound)

pub returns : goal.returns
returns c = image-laid _ _ _ c.requires.outbound _ _ _ _ _ c.requires.long_in_bounds c.put_info.ensures c.put_tracks.ensures c.copy_in.ensures
