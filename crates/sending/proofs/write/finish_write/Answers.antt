use mathlib.Core.Path.{sym, ◌∙◌}
use Rattle.sending.proofs.Sends.{ended-into}
use Rattle.sending.proofs.write.finish_write.Goals as goal

pub returns-in-IntoSector : goal.returns-in-IntoSector
returns-in-IntoSector c = λ x. ended-into c.args.regs c.args.held.now c.args.table.now c.args.bytes.now x _ (sym c.goal.ensures ∙ c.in-IntoSector.is) _ _ _ (c.finish_sector.ensures x)

pub returns-in-IntoTrack : goal.returns-in-IntoTrack
returns-in-IntoTrack c = λ x. ended-into c.args.regs c.args.held.now c.args.table.now c.args.bytes.now x _ (sym c.goal.ensures ∙ c.in-IntoTrack.is) _ _ _ (c.finish_format.ensures x)
