use native.Mathlib.Omega.{arith}
use Rattle.listing.proofs.Lines.{totals-length, totals-laid}
use Rattle.listing.proofs.text.put_disk.Goals as goal

pub put_kind-tracks-requires : goal.put_kind-tracks-requires
put_kind-tracks-requires c = omega (arith, totals-length c.args.kind c.args.totals)

pub put_field-sectors-requires : goal.put_field-sectors-requires
put_field-sectors-requires c = omega (arith, totals-length c.args.kind c.args.totals)

pub put_field-bytes-requires : goal.put_field-bytes-requires
put_field-bytes-requires c = omega (arith, totals-length c.args.kind c.args.totals)

pub put_field-last-requires : goal.put_field-last-requires
put_field-last-requires c = omega (arith, totals-length c.args.kind c.args.totals)

pub put_word-requires : goal.put_word-requires
put_word-requires c = omega (arith, totals-length c.args.kind c.args.totals)

pub returns : goal.returns
returns c = totals-laid _ _ (omega arith) c.put_kind-tracks.ensures c.put_field-sectors.ensures c.put_field-bytes.ensures c.put_field-last.ensures c.put_word.ensures
