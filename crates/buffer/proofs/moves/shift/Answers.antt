use Rattle.std.proofs.Common.{◌∙◌}
use Rattle.buffer.proofs.Shifts.{paste-over, stayed-over}
use Rattle.buffer.proofs.moves.shift.Goals as goal

pub returns-then-to-from : goal.returns-then-to-from
returns-then-to-from c = stayed-over _ _ _ _ c.if-to-from.true c.requires.0 c.requires.1.0

pub returns : goal.returns
returns c = c.copy_within.ensures.after ∙ paste-over c.args.buf.now c.args.from c.args.to c.args.end c.requires.0 c.requires.1.0
