use Rattle.std.proofs.Common.{rules}
use Rattle.registers.specs.Calls.{data_read}
use Rattle.host.specs.Calls.{read_on}
use Rattle.host.proofs.floppy_read_cmd.Goals as goal

pub returns : goal.returns
unfolding read_on
returns c = c.change.ensures (λ r. data_read r c.args.transfer.now) (λ r a p. search rules)
