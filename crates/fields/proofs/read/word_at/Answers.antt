use Prim.Native.Nat.{◌+◌}
use native.Mathlib.Omega.{arith}
use Rattle.fields.proofs.Readers.{number-2}
use Rattle.fields.proofs.read.word_at.Goals as goal

pub returns : goal.returns
returns c = (number-2 c.args.s.now c.args.at, omega (arith, c.shared_slice_known-2-1.given c.args.at, c.shared_slice_known-2-1.given (c.args.at + 1)))
