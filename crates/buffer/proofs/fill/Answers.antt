use Rattle.std.proofs.Common.{arith, refl}
use Rattle.buffer.proofs.Shifts.{filled-over}
use Rattle.buffer.proofs.fill.Goals as goal

pub returns : goal.returns
returns c = filled-over c.args.dst.now _ c.args.at _ _ c.args.value _ (c.fill.ensures.after (λ y e. e)) refl (omega arith) c.requires
