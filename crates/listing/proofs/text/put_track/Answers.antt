use native.Mathlib.Omega.{arith}
use lib.ListN.{length-append}
use Rattle.listing.specs.Lines.{head_line, row_lines}
use Rattle.listing.proofs.Lines.{both}
use Rattle.listing.proofs.text.put_track.Goals as goal

pub put_head-next-requires : goal.put_head-next-requires
put_head-next-requires c = omega (arith, length-append (head_line c.args.head) (row_lines c.args.kind c.args.block.now 0 c.args.head.sectors))

pub put_rows-requires : goal.put_rows-requires
put_rows-requires c = omega (arith, length-append (head_line c.args.head) (row_lines c.args.kind c.args.block.now 0 c.args.head.sectors))

pub returns : goal.returns
returns c = both _ _ c.requires c.put_head-next.ensures (λ m. c.put_rows.ensures)
