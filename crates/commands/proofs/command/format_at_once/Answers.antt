use mathlib.Core.Path.{◌∙◌}
use borrow.Author.Tests.{not-true, not-false}
use Rattle.registers.specs.Settle.{regs_all}
use Rattle.commands.proofs.Effects.{format-none, format-ran}
use Rattle.commands.proofs.command.format_at_once.Goals as goal

pub returns-then-not-d : goal.returns-then-not-d
returns-then-not-d c =
    λ x.
    let q = format-none _ _ _ _ _ c.named-d.ensures x (not-true c.named-d.result.disk c.if-not-d.true) in
    (c.done.ensures ∙ simp (c.not_ready.ensures, c.head_of.ensures) q.0, q.1)

pub returns-in-Err : goal.returns-in-Err
returns-in-Err c =
    λ x.
    let q = format-ran _ _ _ _ _ c.named-d.ensures x _ _ _ _ (not-false c.named-d.result.disk c.if-not-d.false) c.in-Err.is c.lay_numbered.ensures in
    (c.refused.ensures ∙ q.0, q.1)

pub returns-in-Ok : goal.returns-in-Ok
unfolding regs_all
returns-in-Ok c =
    λ x.
    let q = format-ran _ _ _ _ _ c.named-d.ensures x _ _ _ _ (not-false c.named-d.result.disk c.if-not-d.false) c.in-Ok.is c.lay_numbered.ensures in
    (c.done-in-Ok.ensures ∙ simp c.format_reply.ensures q.0, q.1)
