use Rattle.home.proofs.Writes.{info-laid}
use Rattle.home.proofs.write.put_info.Goals as goal

pub returns : goal.returns
returns c = info-laid _ _ _ _ c.requires.0 c.copy_in.ensures
