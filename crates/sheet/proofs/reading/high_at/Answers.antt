use Rattle.std.proofs.Common.{arith}
use Rattle.sheet.proofs.Highs.{high-none, high-step, few-bytes}
use Rattle.sheet.proofs.reading.high_at.Goals as goal

pub loop-k-init : goal.loop-k-init
loop-k-init c = high-none _ _

pub overflow_mul-n : goal.overflow_mul-n
overflow_mul-n c = omega (arith, few-bytes c.loop-k.k c.args.width c.loop-k-test.true c.requires.0)

pub overflow_add-n : goal.overflow_add-n
overflow_add-n c = omega (arith, few-bytes c.loop-k.k c.args.width c.loop-k-test.true c.requires.0)

pub loop-k-preserved : goal.loop-k-preserved
loop-k-preserved c = high-step _ _ _ _ _ c.loop-k.invariant.0 c.loop-k.invariant.1 c.byte.ensures.0 c.byte.ensures.1
