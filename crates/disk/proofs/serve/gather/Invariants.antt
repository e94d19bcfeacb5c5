use Rattle.disk.proofs.Gathers.{Gathering}
use Rattle.disk.proofs.serve.gather.Given as goal

abbrev pub invariant-loop-k : goal.invariant-loop-k
invariant-loop-k l = Gathering l.table l.bytes l.initial.transfer l.fn.rows.start l.fn.rows.first l.fn.rows.count l.id l.sectors l.transfer l.total l.k
