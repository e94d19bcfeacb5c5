use native.Mathlib.Omega.{arith}
use Rattle.std.proofs.Common.{sym, ◌∙◌}
use Rattle.store.proofs.Bearings.{hit-none, hit-row, hit-found}
use Rattle.store.proofs.find.first_sector.Goals as goal

pub returns-in_err-index : goal.returns-in_err-index
returns-in_err-index c = rw c.from_residual.ensures (hit-none _ _ _ _ _ (sym c.in_err-index.was ∙ c.get_sector.ensures))

pub overflow_add-at : goal.overflow_add-at
overflow_add-at c = omega (arith, (hit-row _ _ _ _ _ _ _ _ (sym c.in_ok-index.was ∙ c.get_sector.ensures)), c.requires)

pub overflow_sub-rows : goal.overflow_sub-rows
overflow_sub-rows c = omega (arith, (hit-row _ _ _ _ _ _ _ _ (sym c.in_ok-index.was ∙ c.get_sector.ensures)))

pub overflow_sub-rows-2 : goal.overflow_sub-rows-2
overflow_sub-rows-2 c = omega (arith, (hit-row _ _ _ _ _ _ _ _ (sym c.in_ok-index.was ∙ c.get_sector.ensures)))

pub bearing-behind-requires : goal.bearing-behind-requires
bearing-behind-requires c = let h = (hit-row _ _ _ _ _ _ _ _ (sym c.in_ok-index.was ∙ c.get_sector.ensures)) in (omega (arith, h), omega (arith, h))

pub overflow_add-which : goal.overflow_add-which
overflow_add-which c = omega (arith, (hit-row _ _ _ _ _ _ _ _ (sym c.in_ok-index.was ∙ c.get_sector.ensures)))

pub overflow_cast-which : goal.overflow_cast-which
overflow_cast-which c = omega (arith, (hit-row _ _ _ _ _ _ _ _ (sym c.in_ok-index.was ∙ c.get_sector.ensures)))

pub overflow_cast-which-2 : goal.overflow_cast-which-2
overflow_cast-which-2 c = omega (arith, (hit-row _ _ _ _ _ _ _ _ (sym c.in_ok-index.was ∙ c.get_sector.ensures)), c.bearing-behind.ensures)

pub returns : goal.returns
returns c = hit-found _ _ _ _ _ _ _ _ (sym c.in_ok-index.was ∙ c.get_sector.ensures) _ c.bearing-behind.ensures.0
