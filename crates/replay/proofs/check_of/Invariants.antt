use Rattle.std.proofs.Common.{◌≡◌, drop}
use Rattle.replay.specs.Answers.{check_from}
use Rattle.replay.proofs.check_of.Given as goal

abbrev pub invariant-loop-b : goal.invariant-loop-b
invariant-loop-b l = check_from l.h (drop l.b-index l.bytes) ≡ check_from 0 l.bytes
