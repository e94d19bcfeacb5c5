use Rattle.std.proofs.Common.{rules, not, eqb}
use Rattle.registers.specs.Calls.{disk_set}
use Rattle.host.specs.Calls.{set_disk_on}
use Rattle.host.proofs.floppy_set_disk.Goals as goal

pub returns : goal.returns
unfolding set_disk_on
returns c = c.change.ensures (disk_set (not (eqb c.args.present 0))) (λ r a p. search rules)
