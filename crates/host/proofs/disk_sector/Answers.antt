use mathlib.Core.Path.{ap, ◌∙◌}
use Prim.Native.Nat.{ℕ, ◌+◌, ◌-◌, ◌*◌, ◌^◌}
use native.Mathlib.Omega.{arith}
use Rattle.std.specs.Prelude.{Ok}
use Rattle.host.proofs.Answers.{part-word, part-few}
use Rattle.host.proofs.disk_sector.Goals as goal

pub overflow_mul-result : goal.overflow_mul-result
overflow_mul-result c = omega (arith, part-few _ _ _ _ _ _ c.locate.ensures _ _ _ _ _ (c.in-Ok-Some.is ∙ ap Ok c.in-Ok-Some.field-0-is))

pub overflow_add-result : goal.overflow_add-result
overflow_add-result c =
    omega (arith, part-few _ _ _ _ _ _ c.locate.ensures _ _ _ _ _ (c.in-Ok-Some.is ∙ ap Ok c.in-Ok-Some.field-0-is), c.match_word.ensures.1)

pub overflow_sub-result : goal.overflow_sub-result
overflow_sub-result c = omega (arith, part-few _ _ _ _ _ _ c.locate.ensures _ _ _ _ _ (c.in-Ok-Some.is ∙ ap Ok c.in-Ok-Some.field-0-is))

pub overflow_add-result-in-Ok-Some : goal.overflow_add-result-in-Ok-Some
overflow_add-result-in-Ok-Some c =
    omega (arith, part-few _ _ _ _ _ _ c.locate.ensures _ _ _ _ _ (c.in-Ok-Some.is ∙ ap Ok c.in-Ok-Some.field-0-is), c.match_word.ensures.1)

pub returns-in-Ok-Some : goal.returns-in-Ok-Some
returns-in-Ok-Some c =
    ap (λ (w : ℕ). c.in-Ok-Some.part.from * 2 ^ 32 + w + (c.in-Ok-Some.part.to - c.in-Ok-Some.part.from)) c.match_word.ensures.0
    ∙ part-word _ _ _ _ _ _ c.locate.ensures _ (c.in-Ok-Some.is ∙ ap Ok c.in-Ok-Some.field-0-is)

pub returns-in-Ok-None : goal.returns-in-Ok-None
returns-in-Ok-None c = part-word _ _ _ _ _ _ c.locate.ensures _ (c.in-Ok-None.is ∙ ap Ok c.in-Ok-None.field-0-is)

pub returns-in-Err : goal.returns-in-Err
returns-in-Err c = part-word _ _ _ _ _ _ c.locate.ensures _ c.in-Err.is
