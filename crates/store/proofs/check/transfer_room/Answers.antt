use native.Mathlib.Omega.{arith}
use Rattle.store.specs.Store.{transfer_room}
use Rattle.store.proofs.check.transfer_room.Goals as goal

pub returns : goal.returns
unfolding transfer_room
returns c = (omega arith, omega arith)
