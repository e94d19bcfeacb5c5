use Rattle.std.proofs.Common.{rules}
use Rattle.registers.specs.Calls.{status_read}
use Rattle.host.specs.Calls.{status_on}
use Rattle.host.proofs.floppy_read_status.Goals as goal

pub returns : goal.returns
unfolding status_on
returns c = c.change.ensures status_read (λ r a p. search rules)
