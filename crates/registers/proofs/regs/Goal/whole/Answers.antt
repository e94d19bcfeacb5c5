use Rattle.registers.proofs.Numbers.{sector-whole}
use Rattle.registers.proofs.regs.Goal.whole.Goals as goal

pub returns-in-IntoSector : goal.returns-in-IntoSector
returns-in-IntoSector c = sector-whole _ _ _ c.in-IntoSector.is c.len.ensures
