use Rattle.host.specs.Calls.{answered, penned_on, write_image_on}
use Prim.Native.Nat.{ℕ}
use mathlib.Core.Path.{ap, ◌∙◌}
use Rattle.host.proofs.disk_write_image.Goals as goal

pub returns : goal.returns
unfolding write_image_on
returns c = ap (λ (w : ℕ). answered w c.write_image.new.image) c.answer_word.ensures ∙ ap penned_on c.write_image.ensures
