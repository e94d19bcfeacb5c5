use Rattle.layout.proofs.Images.{regs-long}
use mathlib.Core.Path.{sym, ◌∙◌}
use Rattle.host.proofs.change.Goals as goal

pub settle-requires : goal.settle-requires
settle-requires g c = regs-long _ _ (sym c.regs_in.ensures ∙ c.in-Ok.is)
