use mathlib.Core.Path.{refl, ap, ◌∙◌}
use Rattle.registers.specs.Boxes.{whole_of, silent}
use Rattle.registers.specs.Settle.{accepted}
use Rattle.sending.proofs.Sends.{in_held, data-part, data-good, data-refused}
use Rattle.sending.proofs.write.data_byte.Goals as goal

pub returns-then-end-whole : goal.returns-then-end-whole
returns-then-end-whole c =
    λ x. data-part c.args.regs c.args.b c.args.held.now c.args.table.now c.args.bytes.now x (in_held c.args.held.now c.args.regs.write c.requires).0 c.whole-whole.result _ (c.whole-whole.ensures.0 ∙ ap whole_of c.goal.ensures)
    c.if-end-whole.true (c.done.ensures ∙ ap (accepted silent) c.holds-r.ensures)

pub returns-in-Ok : goal.returns-in-Ok
returns-in-Ok c =
    λ x. data-good c.args.regs c.args.b c.args.held.now c.args.table.now c.args.bytes.now x (in_held c.args.held.now c.args.regs.write c.requires).0 c.whole-whole.result c.finish_write-a.result _ _
    (c.whole-whole.ensures.0 ∙ ap whole_of c.goal.ensures) c.if-end-whole.false c.holds-r.result _ c.holds-r.ensures refl _ c.in-Ok.is (c.finish_write-a.ensures x)

pub returns-in-Err : goal.returns-in-Err
returns-in-Err c =
    λ x. data-refused c.args.regs c.args.b c.args.held.now c.args.table.now c.args.bytes.now x (in_held c.args.held.now c.args.regs.write c.requires).0 c.whole-whole.result c.finish_write-a.result _ _
    (c.whole-whole.ensures.0 ∙ ap whole_of c.goal.ensures) c.if-end-whole.false c.holds-r.result _ c.holds-r.ensures refl _ _ c.in-Err.is c.refused.ensures (c.finish_write-a.ensures x)
