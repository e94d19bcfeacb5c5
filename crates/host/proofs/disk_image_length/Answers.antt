use Rattle.words.specs.Words.{extent_word}
use Rattle.host.specs.Calls.{image_length_on}
use mathlib.Core.Path.{ap, ◌∙◌}
use Rattle.host.proofs.disk_image_length.Goals as goal

pub returns : goal.returns
unfolding image_length_on
returns c = c.answer_word.ensures ∙ ap extent_word c.image_length.ensures
