use Rattle.std.proofs.Common.{rules}
use Rattle.registers.specs.Calls.{setting_in}
use Rattle.host.specs.Calls.{setting_on}
use Rattle.host.proofs.floppy_setting.Goals as goal

pub returns : goal.returns
unfolding setting_on
returns c = c.ask.ensures setting_in (λ r a p. search rules)
