use Rattle.std.proofs.Common.{arith, of_calls, refl, zero, suc, ◌-◌, Ok, Err}
use Rattle.replay.proofs.Runs.{one_more, no_more}
use Rattle.replay.proofs.run.Given.{F-step}
use Rattle.replay.proofs.run.Goals as goal

pub returns-in-Ok-false : goal.returns-in-Ok-false
returns-in-Ok-false g c = c.loop-k.invariant.1 (suc (65535 - c.loop-k.k)) (omega arith) (Ok tt)
    (one_more (F-step g) (65535 - c.loop-k.k) c.loop-k.replay c.replay.new.self c.replay.result (Ok tt) (search of_calls) (rw c.in-Ok-false.is (rw c.in-Ok-false.field-0-test refl)))

pub returns-in-Err : goal.returns-in-Err
returns-in-Err g c = c.loop-k.invariant.1 (suc (65535 - c.loop-k.k)) (omega arith) (Err c.in-Err.why)
    (one_more (F-step g) (65535 - c.loop-k.k) c.loop-k.replay c.replay.new.self c.replay.result (Err c.in-Err.why) (search of_calls) (rw c.in-Err.is refl))

pub loop-k-preserved : goal.loop-k-preserved
loop-k-preserved g c = (
  search of_calls,
  λ n e done runs. c.loop-k.invariant.1 (suc n) (omega arith) done
      (one_more (F-step g) n c.loop-k.replay c.replay.new.self c.replay.result done (search of_calls) (rw c.in-Ok-true.is (rw c.in-Ok-true.field-0-test runs))),
)

pub returns : goal.returns
returns g c = c.loop-k.invariant.1 zero (omega arith) (Ok tt) (no_more (F-step g) c.loop-k.replay)
