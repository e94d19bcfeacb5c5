use mathlib.Core.Path.{ap, ◌∙◌}
use native.Mathlib.Omega.{arith}
use Rattle.image.specs.Calls.{Handed}
use Rattle.image.proofs.Steps.{says_of, falls}
use Rattle.loading.proofs.Loads.{laying-never, laying-end, laying-absent, laying-rows, laying-bytes, laying-track}
use Rattle.loading.proofs.lay.lay_tracks.Goals as goal
use Rattle.loading.proofs.lay.lay_tracks.Goals.{In-Ok-Track}
use Rattle.std.specs.Prelude.{Ok}

-- what is known of the track at hand
handed : (c : In-Ok-Track) → Handed c.args.image.now c.loop-rest.walk c.in-Ok-Track.head c.in-Ok-Track.rest
handed c = says_of _ _ _ _ c.step.ensures (c.in-Ok-Track.is ∙ ap Ok c.in-Ok-Track.field-0-is)

pub unreachable-requires : goal.unreachable-requires
unreachable-requires c = laying-never _ _ _ _ _ _ _ _ _ c.loop-rest.invariant _ (says_of _ _ _ _ c.step.ensures c.in-Err.is)

pub returns-in-Ok-End : goal.returns-in-Ok-End
returns-in-Ok-End c =
    laying-end _ _ _ _ _ _ _ _ _ c.loop-rest.invariant (says_of _ _ _ _ c.step.ensures (c.in-Ok-End.is ∙ ap Ok c.in-Ok-End.field-0-is))

pub loop-rest-smaller-in-Ok-Absent : goal.loop-rest-smaller-in-Ok-Absent
loop-rest-smaller-in-Ok-Absent c = falls _ _ (says_of _ _ _ _ c.step.ensures (c.in-Ok-Absent.is ∙ ap Ok c.in-Ok-Absent.field-0-is)).0

pub loop-rest-preserved-in-Ok-Absent : goal.loop-rest-preserved-in-Ok-Absent
loop-rest-preserved-in-Ok-Absent c =
    laying-absent _ _ _ _ _ _ _ _ _ c.loop-rest.invariant _
    (says_of _ _ _ _ c.step.ensures (c.in-Ok-Absent.is ∙ ap Ok c.in-Ok-Absent.field-0-is))

pub lay_track-requires : goal.lay_track-requires
lay_track-requires c =
    let h = handed (goal.at.lay_track-requires c).In-Ok-Track in
    let l = c.loop-rest.invariant in
    (omega (arith, laying-rows _ _ _ _ _ _ _ _ _ l _ _ h, l.same-table), omega (arith, laying-bytes _ _ _ _ _ _ _ _ _ l _ _ h, l.same_bytes))

pub loop-rest-smaller : goal.loop-rest-smaller
loop-rest-smaller c = falls _ _ (handed (goal.at.loop-rest-smaller c).In-Ok-Track).moved

pub loop-rest-preserved : goal.loop-rest-preserved
loop-rest-preserved c =
    laying-track _ _ _ _ _ _ _ _ _ c.loop-rest.invariant _ _ (handed (goal.at.loop-rest-preserved c).In-Ok-Track) _ _ _ c.block.ensures
    c.lay_track.ensures.0 c.lay_track.ensures.1
