use Rattle.std.proofs.Common.{◌≤◌}
use Rattle.session.proofs.line.number.Given as goal

abbrev pub invariant-loop-b : goal.invariant-loop-b
invariant-loop-b l = l.n ≤ 65536
