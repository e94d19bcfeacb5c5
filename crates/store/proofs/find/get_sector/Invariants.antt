use Prim.Native.Nat.{◌-◌}
use Rattle.store.proofs.Walks.{RowWalk}
use Rattle.store.proofs.find.get_sector.Given as goal

abbrev pub invariant-loop-index : goal.invariant-loop-index
invariant-loop-index l = RowWalk l.table l.id l.fn.rows.start l.fn.rows.first l.fn.rows.count (l.fn.rows.count - l.index) l.index l.at l.place
