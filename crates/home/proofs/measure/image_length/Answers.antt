use Rattle.fields.proofs.Exits.{handed_on}
use Rattle.home.proofs.Judges.{extent-refused, extent-shaped}
use Rattle.home.proofs.measure.image_length.Goals as goal

pub returns-in_err-judge : goal.returns-in_err-judge
returns-in_err-judge c = handed_on _ _ _ c.from_residual.ensures.1 (extent-refused _ _ _ c.judge.ensures _ c.in_err-judge.was)

pub returns : goal.returns
returns c = extent-shaped _ _ _ c.judge.ensures _ c.in_ok-judge.was
