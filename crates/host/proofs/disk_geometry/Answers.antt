use Rattle.words.specs.Words.{geometry_word}
use mathlib.Core.Path.{ap, ◌∙◌}
use Rattle.host.proofs.disk_geometry.Goals as goal

pub returns : goal.returns
returns c = c.answer_word.ensures ∙ ap geometry_word c.geometry.ensures
