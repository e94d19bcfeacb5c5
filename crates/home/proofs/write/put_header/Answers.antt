use Rattle.home.proofs.Writes.{header-laid}
use Rattle.home.proofs.write.put_header.Goals as goal

pub returns : goal.returns
returns c = header-laid c.args.track.now c.requires.0 c.requires.1.0 _ _ _ _ _ c.requires.1.1 c.copy_in.ensures c.copy_in-2.ensures c.fill.ensures
