use Rattle.disk.proofs.Extents.{Measured, Sought}
use Rattle.disk.proofs.serve.measure.Given as goal

abbrev pub invariant-loop-k : goal.invariant-loop-k
invariant-loop-k l = Sought l.table l.id l.fn.rows.start l.fn.rows.count l.last l.r l.sectors l.total l.k

abbrev pub invariant-numbers : goal.invariant-numbers
invariant-numbers l = Measured l.table l.id l.fn.rows.start l.fn.rows.count l.last l.r l.sectors l.total
