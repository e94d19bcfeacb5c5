use mathlib.Core.Path.{refl, ap, ◌∙◌}
use Rattle.buffer.specs.Over.{over}
use native.Mathlib.Omega.{arith}
use Rattle.loading.proofs.Lays.{two-parts}
use Rattle.loading.proofs.lay.lay_track.Goals as goal

pub returns : goal.returns
returns c = (
  two-parts _ _ _ _ _ _ _ c.put_head.ensures c.put_rows.ensures refl (omega arith),
  c.copy_in.ensures ∙ ap (over _ _) c.part.ensures,
)
