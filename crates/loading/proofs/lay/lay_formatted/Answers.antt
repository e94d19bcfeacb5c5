use mathlib.Core.Path.{refl, ap, ◌∙◌}
use native.Mathlib.Omega.{arith}
use Rattle.buffer.specs.Over.{over}
use Rattle.loading.proofs.Lays.{two-parts, formatted-rows, formatted-bytes}
use Rattle.loading.proofs.lay.lay_formatted.Goals as goal

pub returns : goal.returns
returns c = (
  two-parts _ _ _ _ _ _ _ c.put_head.ensures c.put_blanks.ensures refl (omega arith)
      ∙ ap (over _ _) (formatted-rows c.args.head c.args.ids.now),
  c.fill.ensures ∙ ap (over _ _) (formatted-bytes c.args.head c.args.ids.now c.requires.1.1),
)
