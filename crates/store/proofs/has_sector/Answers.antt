use Rattle.std.proofs.Common.{ap, ◌∙◌, Ok}
use Rattle.fields.proofs.Exits.{handed_on}
use Rattle.store.proofs.Founds.{said_has}
use Rattle.store.proofs.has_sector.Goals as goal

pub returns-in_err-part : goal.returns-in_err-part
returns-in_err-part c = handed_on _ _ _ c.from_residual.ensures.1 (said_has _ _ _ _ _ _ c.locate.ensures _ c.in_err-part.was)

pub returns-in_default : goal.returns-in_default
returns-in_default c = said_has _ _ _ _ _ _ c.locate.ensures _ (c.in_ok-part.was ∙ ap Ok c.in_default.is)

pub returns : goal.returns
returns c = said_has _ _ _ _ _ _ c.locate.ensures _ (c.in_ok-part.was ∙ ap Ok c.in-Some.is)
