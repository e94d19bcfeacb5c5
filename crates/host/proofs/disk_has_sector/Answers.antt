use Rattle.words.specs.Words.{has_word}
use mathlib.Core.Path.{ap, ◌∙◌}
use Rattle.host.proofs.disk_has_sector.Goals as goal

pub returns : goal.returns
returns c = c.answer_word.ensures ∙ ap has_word c.has_sector.ensures
