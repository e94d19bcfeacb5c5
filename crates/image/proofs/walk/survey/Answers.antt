use native.Mathlib.Omega.{arith}
use Rattle.image.specs.Dsk.{entries}
use Rattle.fields.proofs.Exits.{handed_on}
use Rattle.image.proofs.Headers.{entries-most}
use Rattle.image.proofs.Steps.{survey-refused, survey-broken, survey-opened, opened-few}
use Rattle.image.proofs.walk.survey.Goals as goal

pub returns-in_err-walk : goal.returns-in_err-walk
returns-in_err-walk c = handed_on _ _ _ c.from_residual.ensures.1 (survey-refused _ _ c.open.ensures _ c.in_err-walk.was)

pub totals_of-requires : goal.totals_of-requires
unfolding entries
totals_of-requires c =
    let k = c.shared_slice_known-1.given in
    omega (arith, opened-few _ _ c.open.ensures _ c.in_ok-walk.was, entries-most _ _ (k 0x30).fits (k 0x31).fits)

pub returns-in_err-totals : goal.returns-in_err-totals
returns-in_err-totals c =
    handed_on _ _ _ c.from_residual-in_err-totals.ensures.1
    (survey-broken _ _ c.open.ensures _ c.in_ok-walk.was _ c.totals_of.ensures _ c.in_err-totals.was)

pub returns : goal.returns
returns c = survey-opened _ _ c.open.ensures _ c.in_ok-walk.was _ c.totals_of.ensures _ c.in_ok-totals.was
