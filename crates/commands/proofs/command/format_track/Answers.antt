use mathlib.Core.Path.{◌∙◌}
use Rattle.commands.proofs.Effects.{format-phase, format-whole}
use Rattle.commands.proofs.command.format_track.Goals as goal

pub returns-then-has_phase : goal.returns-then-has_phase
returns-then-has_phase c =
    λ x.
    let q = format-phase c.args.regs c.args.command c.args.table.now c.args.bytes.now _ c.has_phase.ensures c.if-has_phase.true x in
    (c.done.ensures ∙ simp (c.started.ensures, c.shape_of.ensures) q.0, q.1)

pub returns : goal.returns
returns c = λ x. format-whole c.args.regs c.args.command c.args.table.now c.args.bytes.now _ c.has_phase.ensures c.if-has_phase.false _ _ _ x (c.format_at_once.ensures x)
