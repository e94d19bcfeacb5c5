-- `hop` meets its contract: what the chunk kept is laid just before the block that moved up.
use native.Mathlib.Omega.{arith}
use lib.ListN.{length-take}
use borrow.Author.Rules.{rules}
use Rattle.buffer.proofs.Shifts.{hop-done}
use Rattle.buffer.proofs.moves.hop.Goals as goal

pub slice_bounds-copy_in-end-3 : goal.slice_bounds-copy_in-end-3
slice_bounds-copy_in-end-3 c = simp length-take (omega arith)

pub copy_in-requires-2 : goal.copy_in-requires-2
copy_in-requires-2 c = simp length-take (omega arith)

pub returns : goal.returns
returns c = search (rules, hop-done)
