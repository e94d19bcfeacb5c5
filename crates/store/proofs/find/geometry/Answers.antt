use Rattle.std.proofs.Common.{ap, ◌∙◌, Err}
use Rattle.fields.proofs.Exits.{handed_on}
use Rattle.store.proofs.Checks.{laid-yes, laid-no, walkable}
use Rattle.store.proofs.Founds.{geometry-bad, geometry-good}
use Rattle.store.proofs.find.geometry.Goals as goal

pub returns-in_err-tally : goal.returns-in_err-tally
returns-in_err-tally c =
    let bad = laid-no _ _ _ c.room_of.ensures.0 _ c.tally.ensures _ c.in_err-tally.was in
    handed_on _ _ _ c.from_residual.ensures.1 (ap Err bad.1 ∙ geometry-bad _ _ bad.0)

pub cylinders-requires : goal.cylinders-requires
cylinders-requires c = walkable _ _ (laid-yes _ _ _ c.room_of.ensures.0 _ c.tally.ensures _ _ _ c.in_ok-tally.was)

pub returns : goal.returns
returns c = geometry-good _ _ (laid-yes _ _ _ c.room_of.ensures.0 _ c.tally.ensures _ _ _ c.in_ok-tally.was) _ c.cylinders.ensures
