use mathlib.Core.Path.{◌∙◌}
use borrow.Author.Tests.{not-true, not-false}
use Rattle.registers.specs.Settle.{regs_all, regs_responded, regs_of}
use Rattle.commands.proofs.Effects.{ok-is, start_none, start-ran}
use Rattle.commands.proofs.command.write_data.Goals as goal

pub returns-then-not-d : goal.returns-then-not-d
unfolding regs_of regs_all regs_responded
returns-then-not-d c =
    c.done.ensures
    ∙ simp (c.not_ready.ensures, c.no_id.ensures)
    (start_none _ _ _ _ _ c.named-d.ensures _ (not-true c.named-d.result.disk c.if-not-d.true))

pub returns-in-Err : goal.returns-in-Err
unfolding regs_of
returns-in-Err c = c.refused.ensures ∙ (start-ran _ _ _ _ _ c.named-d.ensures _ (not-false c.named-d.result.disk c.if-not-d.false) _ c.head_of.ensures _ _ c.in-Err.is c.has_sector.ensures)

pub returns-in-Ok-None : goal.returns-in-Ok-None
unfolding regs_of regs_all regs_responded
returns-in-Ok-None c = c.done-in-Ok-None.ensures ∙ simp c.missing.ensures ((start-ran _ _ _ _ _ c.named-d.ensures _ (not-false c.named-d.result.disk c.if-not-d.false) _ c.head_of.ensures _ _ (ok-is _ _ _ c.in-Ok-None.is c.in-Ok-None.field-0-is) c.has_sector.ensures))

pub returns-in-Ok-Some : goal.returns-in-Ok-Some
unfolding regs_of regs_all regs_responded
returns-in-Ok-Some c = c.found.ensures ∙ simp c.started.ensures ((start-ran _ _ _ _ _ c.named-d.ensures _ (not-false c.named-d.result.disk c.if-not-d.false) _ c.head_of.ensures _ _ (ok-is _ _ _ c.in-Ok-Some.is c.in-Ok-Some.field-0-is) c.has_sector.ensures))
