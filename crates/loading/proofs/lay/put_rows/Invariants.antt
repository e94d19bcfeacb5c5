use Prim.Native.Nat.{◌-◌}
use Rattle.buffer.specs.Over.{over}
use Rattle.loading.specs.Laying.{list_from}
use Rattle.loading.proofs.Lays.{Rowing}
use Rattle.loading.proofs.lay.put_rows.Given as goal

abbrev pub invariant-loop-k : goal.invariant-loop-k
invariant-loop-k l = Rowing (over l.initial.table l.start (list_from l.kind l.block 0 l.count)) l.initial.table l.table l.start l.k (list_from l.kind l.block l.k (l.count - l.k))
