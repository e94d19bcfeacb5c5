use Rattle.std.proofs.Common.{refl}
use Rattle.sheet.proofs.Lays.{laid-put}
use Rattle.sheet.proofs.writing.put.Goals as goal

pub returns : goal.returns
returns g c =
    (laid-put _ _ _ _ _ _ _ c.requires.width_bound c.requires.room c.to_be_bytes-n.ensures c.copy_in.ensures c.copy_in-2.ensures, refl)
