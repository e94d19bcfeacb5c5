use Rattle.listing.proofs.Lines.{left-start, left-done}
use Rattle.listing.proofs.Tracks.{rows-first, rows_none, rows-room, rows-again}
use Rattle.listing.proofs.text.put_rows.Goals as goal

pub loop-k-init : goal.loop-k-init
loop-k-init c = left-start _ _ _ _ (rows-first _ _ _)

pub put_row-at-requires : goal.put_row-at-requires
put_row-at-requires c = rows-room _ _ _ _ _ c.requires _ _ _ c.loop-k.invariant c.loop-k-test.true _ c.sector_row.ensures

pub loop-k-preserved : goal.loop-k-preserved
loop-k-preserved c = rows-again _ _ _ _ _ c.requires _ _ _ c.loop-k.invariant c.loop-k-test.true _ c.sector_row.ensures _ _ c.put_row-at.ensures

pub returns : goal.returns
returns c = left-done _ _ _ _ _ _ c.loop-k.invariant (rows_none _ _ _ _ c.loop-k-test.false)
