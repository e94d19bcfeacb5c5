use native.Mathlib.Omega.{arith}
use Rattle.std.proofs.Common.{sym, ◌∙◌}
use Rattle.store.proofs.Same.{none-less}
use Rattle.store.proofs.Sums.{track-sum}
use Rattle.store.proofs.Walks.{TrackWalk, track-start, track-inside, track-found, track-on, track-over}
use Rattle.store.proofs.find.get_track.Goals as goal

pub loop-index-init : goal.loop-index-init
loop-index-init c =
    none-less (λ n. TrackWalk c.args.table.now c.args.side c.args.cylinder n 0 1 0) _
    (track-start _ _ _ _ c.byte-tracks.ensures.0 c.byte-tracks.ensures.1 c.requires)

pub track_here-requires : goal.track_here-requires
track_here-requires c = omega (arith, (track-inside _ _ _ _ _ _ _ c.loop-index.invariant (omega arith)))

pub returns-then-track_here : goal.returns-then-track_here
returns-then-track_here c = track-found _ _ _ _ _ _ _ c.loop-index.invariant (omega arith) (sym c.track_here.ensures ∙ c.if-track_here.true)

pub overflow_add-at : goal.overflow_add-at
overflow_add-at c = omega (arith, (track-inside _ _ _ _ _ _ _ c.loop-index.invariant (omega arith)))

pub overflow_add-at-in-loop-index : goal.overflow_add-at-in-loop-index
overflow_add-at-in-loop-index c = omega (arith, (track-inside _ _ _ _ _ _ _ c.loop-index.invariant (omega arith)))

pub rows_len-place-requires : goal.rows_len-place-requires
rows_len-place-requires c = omega (arith, (track-inside _ _ _ _ _ _ _ c.loop-index.invariant (omega arith)))

pub overflow_add-place : goal.overflow_add-place
overflow_add-place c = omega (arith, (track-inside _ _ _ _ _ _ _ c.loop-index.invariant (omega arith)), track-sum _ _ _ _ c.byte-count.ensures.0 c.rows_len-place.ensures.0)

pub overflow_add-at-in-loop-index-3 : goal.overflow_add-at-in-loop-index-3
overflow_add-at-in-loop-index-3 c = omega (arith, (track-inside _ _ _ _ _ _ _ c.loop-index.invariant (omega arith)))

pub loop-index-preserved : goal.loop-index-preserved
loop-index-preserved c =
    track-on _ _ _ _ _ _ _ _ c.loop-index.invariant _ _ c.loop-index-test.true c.byte-count.ensures.0 c.rows_len-place.ensures.0
    (sym c.track_here.ensures ∙ c.if-track_here.false)

pub returns : goal.returns
returns c = track-over _ _ _ _ _ _ _ c.loop-index.invariant (omega arith)
