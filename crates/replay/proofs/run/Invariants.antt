use Rattle.std.proofs.Common.{◌≡◌, ◌+◌, ℕ, Result}
use denote.Param.Always.{always_mut}
use Rattle.replay.specs.Answers.{Runs}
use Rattle.replay.specs.declared.Fault.{Fault}
use Rattle.replay.proofs.run.Given as goal

abbrev pub invariant-loop-k : goal.invariant-loop-k
invariant-loop-k g l = (always_mut g.F.FnMut l.initial.replay → always_mut g.F.FnMut l.replay)
    × ((n : ℕ) → n + l.k ≡ 65536 → (done : Result (Unit {0}) Fault) → Runs (goal.F-step g) n l.replay done → Runs (goal.F-step g) 65536 l.initial.replay done)
