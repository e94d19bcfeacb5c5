use Rattle.std.proofs.Common.{rules}
use Rattle.registers.specs.Calls.{motor_of}
use Rattle.host.specs.Calls.{motor_on}
use Rattle.host.proofs.floppy_motor.Goals as goal

pub returns : goal.returns
unfolding motor_on
returns c = c.ask.ensures motor_of (λ r a p. search rules)
