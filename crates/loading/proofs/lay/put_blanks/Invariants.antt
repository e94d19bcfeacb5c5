use Prim.Native.Nat.{◌-◌, ◌*◌}
use Rattle.buffer.specs.Over.{over}
use Rattle.loading.proofs.Lays.{Rowing, id_rows}
use Rattle.loading.proofs.lay.put_blanks.Given as goal

abbrev pub invariant-loop-k : goal.invariant-loop-k
invariant-loop-k l = Rowing (over l.initial.table l.start (id_rows l.ids l.stored 0 l.fn.head.sectors)) l.initial.table l.table l.start l.k (id_rows l.ids l.stored (4 * l.k) (l.fn.head.sectors - l.k))
