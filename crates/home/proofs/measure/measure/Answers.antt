use native.Mathlib.Omega.{arith}
use Rattle.home.proofs.Meets.{meet-again, measured-length, measured-tracks, measured-more, measured-over, measured-all}
use Rattle.home.proofs.measure.measure.Goals as goal

pub returns-then-table-ne-TABLE : goal.returns-then-table-ne-TABLE
returns-then-table-ne-TABLE c = measured-length _ _ c.if-table-ne-TABLE.true

pub returns-then-tracks-gt-TRACKS : goal.returns-then-tracks-gt-TRACKS
returns-then-tracks-gt-TRACKS c = measured-tracks _ _ _ c.if-table-ne-TABLE.false c.byte-tracks.ensures.0 (omega arith)

pub returns-then-sectors-count-gt-SECTORS : goal.returns-then-sectors-count-gt-SECTORS
returns-then-sectors-count-gt-SECTORS c = measured-more _ _ _ _ _ _ c.loop.invariant _ _ (omega arith) c.byte-count.ensures.0 (omega arith)

pub loop-preserved : goal.loop-preserved
loop-preserved c =
    meet-again _ _ _ _ _ _ c.loop.invariant _ _ _ _ _ (omega arith) c.byte-count.ensures.0 c.if-sectors-count-gt-SECTORS.false
    c.rows_len-stored.ensures.0 c.rows_len-stored.ensures.1 c.byte-cylinder.ensures.0 c.byte-cylinder.ensures.1
    c.byte-side.ensures.0 c.meet-met.ensures _ (omega arith)

pub returns-then-room-bytes : goal.returns-then-room-bytes
returns-then-room-bytes c = measured-over _ _ _ _ _ _ c.loop.invariant _ (omega arith) c.if-room-bytes.true

pub returns : goal.returns
returns c = measured-all _ _ _ _ _ _ c.loop.invariant _ (omega arith) c.if-room-bytes.false
