use Rattle.sheet.proofs.Judges.{held-laid}
use Rattle.sheet.proofs.reading.lay_held.Goals as goal

pub returns : goal.returns
returns c = held-laid _ _ _ _ _ c.requires.0 (c.fill.ensures.after (λ y e. e)) c.tail.ensures c.copy_in.ensures
