use native.Mathlib.Omega.{arith}
use Rattle.listing.proofs.Lines.{id-length, id-laid}
use Rattle.listing.proofs.text.put_id.Goals as goal

pub put_byte-h-requires : goal.put_byte-h-requires
put_byte-h-requires c = omega (arith, id-length c.args.id)

pub put_byte-r-requires : goal.put_byte-r-requires
put_byte-r-requires c = omega (arith, id-length c.args.id)

pub put_byte-n-requires : goal.put_byte-n-requires
put_byte-n-requires c = omega (arith, id-length c.args.id)

pub put_byte-requires : goal.put_byte-requires
put_byte-requires c = omega (arith, id-length c.args.id)

pub returns : goal.returns
returns c = id-laid _ c.requires c.put_byte-h.ensures c.put_byte-r.ensures c.put_byte-n.ensures c.put_byte.ensures
