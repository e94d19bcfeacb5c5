use Rattle.fields.proofs.Readers.{string-short, string-whole}
use Rattle.fields.proofs.Exits.{handed_on}
use Rattle.fields.proofs.read.read_string.Goals as goal

pub returns-in_err-reach : goal.returns-in_err-reach
returns-in_err-reach c = handed_on _ _ _ c.from_residual.ensures.1 (string-short _ _ _ _ c.reach.ensures.fits _ c.in_err-reach.was c.reach.ensures.short)

pub returns : goal.returns
returns c = string-whole _ _ _ _ c.reach.ensures.fits _ _ _ c.in_ok-reach.was c.part-here.ensures c.same.ensures
