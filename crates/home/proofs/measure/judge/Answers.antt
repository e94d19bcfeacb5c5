use Rattle.fields.proofs.Exits.{handed_on}
use Rattle.home.proofs.Judges.{judged-bad, judged-good}
use Rattle.home.proofs.measure.judge.Goals as goal

pub returns-in_err-measure : goal.returns-in_err-measure
returns-in_err-measure c =
    handed_on _ _ _ c.from_residual.ensures.1 (judged-bad _ _ _ c.room_of.ensures.0 _ c.measure.ensures _ c.in_err-measure.was)

pub returns : goal.returns
returns c = judged-good _ _ _ c.room_of.ensures.0 _ c.measure.ensures _ c.in_ok-measure.was _ c.shape_of.ensures
