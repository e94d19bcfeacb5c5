use lib.ListN.{length}
use native.Mathlib.Omega.{arith}
use Rattle.home.proofs.Sizes.{units-up}
use Rattle.home.proofs.Writes.{padded-laid}
use Rattle.home.proofs.write.put_padded.Goals as goal

pub copy_in-requires : goal.copy_in-requires
copy_in-requires c = omega (arith, units-up (length c.args.bytes.now))

pub overflow_sub-units_of : goal.overflow_sub-units_of
overflow_sub-units_of c = omega (arith, units-up (length c.args.bytes.now))

pub fill-requires : goal.fill-requires
fill-requires c = omega (arith, units-up (length c.args.bytes.now))

pub returns : goal.returns
returns c = padded-laid _ _ _ c.args.bytes.now _ c.units_of.result (omega arith) c.copy_in.ensures c.units_of.ensures.0 c.fill.ensures
