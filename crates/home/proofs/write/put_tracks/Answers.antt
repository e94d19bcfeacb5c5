use mathlib.Core.Path.{◌≡◌, ap, ap₂, ◌∙◌}
use Prim.Native.Nat.{◌+◌, ◌*◌}
use native.Mathlib.Omega.{arith}
use Rattle.fields.specs.Bytes.{byte_at}
use Rattle.store.specs.Store.{track_sum}
use Rattle.store.proofs.Sums.{track-sum}
use Rattle.home.specs.Home.{units}
use Rattle.home.proofs.Writes.{Here, putting-start, putting-here, track-asks, putting-again, putting-done}
use Rattle.home.proofs.write.put_tracks.Goals as goal
use Rattle.home.proofs.write.put_tracks.Goals.{In-loop, After-rows_len-stored, After-entry_of-entry}

-- what is known of the track at hand: where it lies, its bytes and its entry
here : (c : In-loop) → Here c.args.table.now c.args.bytes.now c.loop.image c.args.s.sides c.loop.at c.loop.place c.loop.to
here c = putting-here _ _ _ _ _ _ _ _ _ _ _ c.loop.invariant (omega (arith, c.loop-test.true, c.byte-end.ensures.0))

sum : (c : After-rows_len-stored) → c.rows_len-stored.result ≡ track_sum c.args.table.now c.loop.at
sum c = track-sum _ _ _ _ c.byte-count.ensures.0 c.rows_len-stored.ensures.0

entry : (c : After-entry_of-entry)
    → c.entry_of-entry.result ≡ byte_at c.args.table.now c.loop.at * c.args.s.sides + byte_at c.args.table.now (c.loop.at + 1)
entry c = c.entry_of-entry.ensures ∙ ap₂ (λ n m. n * c.args.s.sides + m) c.byte-cylinder.ensures.0 c.byte-side.ensures.0

pub loop-init : goal.loop-init
loop-init c = putting-start _ _ _ _ _ c.requires.outbound c.requires.block_len.0 c.requires.block_len.1 _ (omega arith)

pub overflow_add-at : goal.overflow_add-at
overflow_add-at c = omega (arith, (here (goal.at.overflow_add-at c).In-loop).rows)

pub overflow_add-next : goal.overflow_add-next
overflow_add-next c = omega (arith, (here (goal.at.overflow_add-next c).In-loop).rows)

pub overflow_add-next-in-loop : goal.overflow_add-next-in-loop
overflow_add-next-in-loop c = omega (arith, (here (goal.at.overflow_add-next-in-loop c).In-loop).rows)

pub overflow_add-at-in-loop : goal.overflow_add-at-in-loop
overflow_add-at-in-loop c = omega (arith, (here (goal.at.overflow_add-at-in-loop c).In-loop).rows)

pub rows_len-stored-requires : goal.rows_len-stored-requires
rows_len-stored-requires c = (omega (arith, (here (goal.at.rows_len-stored-requires c).In-loop).rows, c.byte-count.ensures.0), c.byte-count.ensures.1)

pub overflow_add-at-in-loop-2 : goal.overflow_add-at-in-loop-2
overflow_add-at-in-loop-2 c = omega (arith, (here (goal.at.overflow_add-at-in-loop-2 c).In-loop).rows)

pub slice_bounds-put_track-end : goal.slice_bounds-put_track-end
slice_bounds-put_track-end c =
    let x = here (goal.at.slice_bounds-put_track-end c).In-loop in
    omega (arith, x.rows, x.long, c.byte-count.ensures.0)

pub slice_bounds-put_track-end-in-loop : goal.slice_bounds-put_track-end-in-loop
slice_bounds-put_track-end-in-loop c =
    let p = goal.at.slice_bounds-put_track-end-in-loop c in
    omega (arith, (here p.In-loop).bytes, sum p.After-rows_len-stored)

pub put_track-requires : goal.put_track-requires
put_track-requires c =
    let p = goal.at.put_track-requires c in
    let asks = track-asks _ _ _ _ _ _ _ (here p.In-loop) _ _ c.byte-count.ensures.0 (sum p.After-rows_len-stored) in
    record { in_bounds = asks.0; bytes_in_bounds = asks.1 }

pub overflow_cast-block : goal.overflow_cast-block
overflow_cast-block c =
    let p = goal.at.overflow_cast-block c in
    omega (arith, (here p.In-loop).size, c.units_of-size.ensures.0 ∙ ap units (sum p.After-rows_len-stored))

pub bounds-block-entry : goal.bounds-block-entry
bounds-block-entry c =
    let p = goal.at.bounds-block-entry c in
    omega (arith, (here p.In-loop).entry, entry p.After-entry_of-entry, c.loop.invariant.same_block)

pub loop-preserved : goal.loop-preserved
loop-preserved c =
    putting-again _ _ _ _ _ _ _ _ _ _ _ c.loop.invariant (omega (arith, c.loop-test.true, c.byte-end.ensures.0)) (λ k. (c.type_inv.table k).fits) _ _ _ _
    c.byte-count.ensures.0 c.rows_len-stored.ensures.0 c.units_of-size.ensures.0 (entry (goal.at.loop-preserved c).After-entry_of-entry) _
    c.put_track.ensures _ (omega arith)

pub returns : goal.returns
returns c = putting-done _ _ _ _ _ _ _ _ _ _ _ c.loop.invariant (omega (arith, c.loop-test.false, c.byte-end.ensures.0))
