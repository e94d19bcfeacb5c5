use mathlib.Core.Path.{sym, ◌∙◌}
use native.Mathlib.Omega.{arith}
use Rattle.layout.proofs.Images.{regs-long}
use Rattle.host.proofs.Sheets.{sheet-bad, sheet-good}
use Rattle.host.proofs.floppy_write_sheet.Goals as goal

pub slice_bounds-write_parts-count : goal.slice_bounds-write_parts-count
slice_bounds-write_parts-count c = omega (arith, regs-long _ _ (sym c.regs_in.ensures ∙ c.in-Ok.is))

pub slice_bounds-write_parts-start : goal.slice_bounds-write_parts-start
slice_bounds-write_parts-start c = omega (arith, regs-long _ _ (sym c.regs_in.ensures ∙ c.in-Ok.is))

pub slice_bounds-write_parts-end : goal.slice_bounds-write_parts-end
slice_bounds-write_parts-end c = omega (arith, regs-long _ _ (sym c.regs_in.ensures ∙ c.in-Ok.is))

pub returns-in-Ok : goal.returns-in-Ok
returns-in-Ok c = sheet-good _ _ _ _ _ _ _ (sym c.regs_in.ensures ∙ c.in-Ok.is) c.write_parts.ensures c.answer_word.ensures

pub returns-in-Err : goal.returns-in-Err
returns-in-Err c = sheet-bad _ _ _ _ _ (sym c.regs_in.ensures ∙ c.in-Err.is) c.refusal_word.ensures
