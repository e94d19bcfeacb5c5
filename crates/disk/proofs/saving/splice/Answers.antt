use native.Mathlib.Omega.{arith}
use Rattle.disk.proofs.Cuts.{spliced}
use Rattle.disk.proofs.saving.splice.Goals as goal

pub returns : goal.returns
returns c = spliced c.args.buf.now _ _ c.args.from c.args.to c.args.end c.args.new.now c.shift.ensures c.copy_in.ensures (omega arith)
