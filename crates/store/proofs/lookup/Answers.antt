use Rattle.std.proofs.Common.{ap, ◌∙◌, Ok}
use native.Mathlib.Omega.{arith}
use Rattle.store.proofs.Founds.{said-bytes, part_in, part_bytes}
use Rattle.store.proofs.lookup.Goals as goal

pub slice_bounds-result-count : goal.slice_bounds-result-count
slice_bounds-result-count c = omega (arith, (part_in _ _ _ _ _ _ c.locate.ensures _ _ _ _ _ (c.in-Ok-Some.is ∙ ap Ok c.in-Ok-Some.field-0-is)))

pub slice_bounds-result-start : goal.slice_bounds-result-start
slice_bounds-result-start c = omega (arith, (part_in _ _ _ _ _ _ c.locate.ensures _ _ _ _ _ (c.in-Ok-Some.is ∙ ap Ok c.in-Ok-Some.field-0-is)))

pub slice_bounds-result-end : goal.slice_bounds-result-end
slice_bounds-result-end c = omega (arith, (part_in _ _ _ _ _ _ c.locate.ensures _ _ _ _ _ (c.in-Ok-Some.is ∙ ap Ok c.in-Ok-Some.field-0-is)))

pub returns-in-Ok-Some : goal.returns-in-Ok-Some
returns-in-Ok-Some c = part_bytes _ _ _ _ _ _ c.locate.ensures _ _ _ _ _ (c.in-Ok-Some.is ∙ ap Ok c.in-Ok-Some.field-0-is)

pub returns-in-Ok-None : goal.returns-in-Ok-None
returns-in-Ok-None c = said-bytes _ _ _ _ _ _ c.locate.ensures _ (c.in-Ok-None.is ∙ ap Ok c.in-Ok-None.field-0-is)

pub returns-in-Err : goal.returns-in-Err
returns-in-Err c = said-bytes _ _ _ _ _ _ c.locate.ensures _ c.in-Err.is
