use native.Mathlib.Omega.{arith}
use Rattle.store.specs.Store.{room_of}
use Rattle.store.proofs.check.room_of.Goals as goal

pub returns : goal.returns
unfolding room_of
returns c = omega arith
