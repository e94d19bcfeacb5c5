use Rattle.store.proofs.Sums.{Summed}
use Rattle.store.proofs.check.rows_len.Given as goal

abbrev pub invariant-loop-k : goal.invariant-loop-k
invariant-loop-k l = Summed l.table l.start l.count l.sum l.k
