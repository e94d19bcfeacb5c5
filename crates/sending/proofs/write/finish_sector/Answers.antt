use mathlib.Core.Path.{ap, ◌∙◌}
use borrow.Author.Tests.{not-true, not-false}
use Rattle.registers.specs.Boxes.{silent}
use Rattle.registers.specs.Settle.{accepted}
use Rattle.commands.specs.Commands.{write_reply}
use Rattle.commands.proofs.Effects.{ok-is, finish-none, finish-ran}
use Rattle.sending.proofs.write.finish_sector.Goals as goal

pub returns-then-not-d : goal.returns-then-not-d
unfolding write_reply
returns-then-not-d c =
    λ x.
    let q = finish-none _ _ _ _ _ c.requires _ c.named-d.ensures x (not-true c.named-d.result.disk c.if-not-d.true) in
    (c.done.ensures ∙ ap (accepted silent) (simp (c.reply7-r.ensures, c.from_c1.ensures, c.finished.ensures)) ∙ q.0, q.1)

pub returns-in-Err : goal.returns-in-Err
returns-in-Err c =
    λ x.
    let q = finish-ran _ _ _ _ _ c.requires _ c.named-d.ensures x _ c.head_of.ensures _ _ _ _ (not-false c.named-d.result.disk c.if-not-d.false) c.in-Err.is c.save.ensures in
    (c.refused.ensures ∙ q.0, q.1)

pub returns-in-Ok-None : goal.returns-in-Ok-None
unfolding write_reply
returns-in-Ok-None c =
    λ x.
    let q = finish-ran _ _ _ _ _ c.requires _ c.named-d.ensures x _ c.head_of.ensures _ _ _ _ (not-false c.named-d.result.disk c.if-not-d.false) (ok-is _ _ _ c.in-Ok-None.is c.in-Ok-None.field-0-is) c.save.ensures in
    (c.done-in-Ok-None.ensures ∙ ap (accepted silent) (simp (c.reply7-r.ensures, c.from_c1.ensures, c.finished.ensures)) ∙ q.0, q.1)

pub returns-in-Ok-Some : goal.returns-in-Ok-Some
unfolding write_reply
returns-in-Ok-Some c =
    λ x.
    let q = finish-ran _ _ _ _ _ c.requires _ c.named-d.ensures x _ c.head_of.ensures _ _ _ _ (not-false c.named-d.result.disk c.if-not-d.false) (ok-is _ _ _ c.in-Ok-Some.is c.in-Ok-Some.field-0-is) c.save.ensures in
    (c.found.ensures ∙ simp (c.in-Ok-Some.field-0-is, c.reply7-r.ensures, c.from_c1.ensures, c.finished.ensures) q.0, q.1)
