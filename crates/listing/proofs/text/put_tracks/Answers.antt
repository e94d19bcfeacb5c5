use mathlib.Core.Path.{refl, ap, ◌∙◌}
use Rattle.image.specs.declared.walk.Step.TheVariants as step
use Rattle.image.proofs.Steps.{says_of, falls}
use Rattle.listing.proofs.Tracks.{walking_start, walking-never, walking-end, walking-absent, walking-room, walking-track}
use Rattle.listing.proofs.text.put_tracks.Goals as goal
use Rattle.std.specs.Prelude.{Ok}

pub loop-step-init : goal.loop-step-init
loop-step-init c = walking_start _ _ _ _ _ refl c.requires

pub returns-in_default : goal.returns-in_default
returns-in_default c = absurd (walking-never _ _ _ _ _ _ _ _ c.loop-step.invariant _ (says_of _ _ _ _ c.step.ensures c.in_default.is))

pub returns-in-End : goal.returns-in-End
returns-in-End c = walking-end _ _ _ _ _ _ _ _ c.loop-step.invariant (says_of _ _ _ _ c.step.ensures (c.in-Ok.is ∙ ap Ok c.in-End.is))

pub loop-step-smaller-in-Absent : goal.loop-step-smaller-in-Absent
loop-step-smaller-in-Absent c = falls _ _ (says_of _ _ _ (Ok (step.Absent _)) c.step.ensures (c.in-Ok.is ∙ ap Ok c.in-Absent.is)).0

pub loop-step-preserved-in-Absent : goal.loop-step-preserved-in-Absent
loop-step-preserved-in-Absent c = walking-absent _ _ _ _ _ _ _ _ c.loop-step.invariant _ (says_of _ _ _ _ c.step.ensures (c.in-Ok.is ∙ ap Ok c.in-Absent.is))

pub put_track-at-requires : goal.put_track-at-requires
put_track-at-requires c = walking-room _ _ _ _ _ _ _ _ c.loop-step.invariant c.requires.lines _ _ (says_of _ _ _ (Ok (step.Track _ _)) c.step.ensures (c.in-Ok.is ∙ ap Ok c.in-Track.is)) _ c.block.ensures

pub loop-step-smaller : goal.loop-step-smaller
loop-step-smaller c = falls _ _ (says_of _ _ _ (Ok (step.Track _ _)) c.step.ensures (c.in-Ok.is ∙ ap Ok c.in-Track.is)).moved

pub loop-step-preserved : goal.loop-step-preserved
loop-step-preserved c = walking-track _ _ _ _ _ _ _ _ c.loop-step.invariant c.requires.lines _ _ (says_of _ _ _ (Ok (step.Track _ _)) c.step.ensures (c.in-Ok.is ∙ ap Ok c.in-Track.is)) _ c.block.ensures _ _ c.put_track-at.ensures
