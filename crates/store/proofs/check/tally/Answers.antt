use native.Mathlib.Omega.{arith}
use Rattle.store.proofs.Same.{none-less}
use Rattle.store.proofs.Checks.{Tallying, bad-length, bad-tracks, bad_more, bad-end, good-end, tally-start, tally-on}
use Rattle.store.proofs.check.tally.Goals as goal

pub returns-then-table-ne-TABLE : goal.returns-then-table-ne-TABLE
returns-then-table-ne-TABLE c = bad-length _ _ c.if-table-ne-TABLE.true

pub returns-then-tracks-gt-TRACKS : goal.returns-then-tracks-gt-TRACKS
returns-then-tracks-gt-TRACKS c = bad-tracks _ _ _ c.if-table-ne-TABLE.false c.byte-tracks.ensures.0 (omega arith)

pub loop-init : goal.loop-init
loop-init c =
    none-less (λ n. Tallying c.args.table.now n 1 0 0) _
    (tally-start _ _ c.byte-tracks.ensures.0 c.if-table-ne-TABLE.false c.if-tracks-gt-TRACKS.false)

pub returns-then-sectors-count-gt-SECTORS : goal.returns-then-sectors-count-gt-SECTORS
returns-then-sectors-count-gt-SECTORS c = bad_more _ _ _ _ _ c.loop.invariant _ _ (omega arith) c.byte-count.ensures.0 (omega arith)

pub loop-preserved : goal.loop-preserved
loop-preserved c =
    tally-on _ _ _ _ _ _ c.loop.invariant _ _ c.loop-test.true c.byte-count.ensures.0 c.if-sectors-count-gt-SECTORS.false
    c.rows_len-bytes.ensures.0 c.rows_len-bytes.ensures.1

pub returns-then-room-bytes : goal.returns-then-room-bytes
returns-then-room-bytes c = bad-end _ _ _ _ _ c.loop.invariant _ (omega arith) c.if-room-bytes.true

pub returns : goal.returns
returns c = good-end _ _ _ _ _ c.loop.invariant _ (omega arith) c.if-room-bytes.false
