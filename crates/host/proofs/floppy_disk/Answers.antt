use Rattle.std.proofs.Common.{rules}
use Rattle.registers.specs.Calls.{disk_in}
use Rattle.host.specs.Calls.{disk_on}
use Rattle.host.proofs.floppy_disk.Goals as goal

pub returns : goal.returns
unfolding disk_on
returns c = c.ask.ensures disk_in (λ r a p. search rules)
