use Rattle.fields.proofs.Readers.{number-4}
use Rattle.layout.proofs.layout.long_at.Goals as goal

pub returns : goal.returns
returns c = simp (c.word_at.ensures.0, c.word_at-2.ensures.0) (number-4 _ _)
