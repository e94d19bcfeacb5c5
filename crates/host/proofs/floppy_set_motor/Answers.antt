use Rattle.std.proofs.Common.{rules, not, eqb}
use Rattle.registers.specs.Calls.{motor_set}
use Rattle.host.specs.Calls.{set_motor_on}
use Rattle.host.proofs.floppy_set_motor.Goals as goal

pub returns : goal.returns
unfolding set_motor_on
returns c = c.change.ensures (motor_set (not (eqb c.args.on 0))) (λ r a p. search rules)
