use Rattle.std.proofs.Common.{◌∙◌}
use Rattle.fields.proofs.Readers.{read_short, read_whole, number-1}
use Rattle.fields.proofs.Exits.{handed_on}
use Rattle.fields.proofs.read.read_u8.Goals as goal

pub returns-in_err-reach : goal.returns-in_err-reach
returns-in_err-reach c = handed_on _ _ _ c.from_residual.ensures.1 (read_short _ _ _ _ c.reach.ensures.fits _ c.in_err-reach.was c.reach.ensures.short)

pub returns : goal.returns
returns c = read_whole _ _ _ _ c.reach.ensures.fits _ _ c.in_ok-reach.was (c.byte.ensures.0 ∙ number-1 _ _)
