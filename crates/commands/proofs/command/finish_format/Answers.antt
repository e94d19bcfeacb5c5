use mathlib.Core.Path.{◌∙◌}
use borrow.Author.Tests.{not-true, not-false}
use Rattle.registers.specs.Settle.{regs_all}
use Rattle.commands.proofs.Effects.{track-none, track-ran}
use Rattle.commands.proofs.command.finish_format.Goals as goal

pub returns-then-not-d : goal.returns-then-not-d
unfolding regs_all
returns-then-not-d c =
    λ x.
    let q = track-none _ _ _ _ _ _ c.named-d.ensures x (not-true c.named-d.result.disk c.if-not-d.true) in
    (c.done.ensures ∙ simp (c.format_reply-r.ensures, c.finished.ensures) q.0, q.1)

pub returns-in-Err : goal.returns-in-Err
returns-in-Err c =
    λ x.
    let q = track-ran _ _ _ _ _ _ c.named-d.ensures x _ _ _ _ (not-false c.named-d.result.disk c.if-not-d.false) c.in-Err.is c.lay_track.ensures in
    (c.refused.ensures ∙ q.0, q.1)

pub returns-in-Ok : goal.returns-in-Ok
unfolding regs_all
returns-in-Ok c =
    λ x.
    let q = track-ran _ _ _ _ _ _ c.named-d.ensures x _ _ _ _ (not-false c.named-d.result.disk c.if-not-d.false) c.in-Ok.is c.lay_track.ensures in
    (c.done-in-Ok.ensures ∙ simp (c.format_reply-r.ensures, c.finished.ensures) q.0, q.1)
