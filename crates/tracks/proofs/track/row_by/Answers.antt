use native.Mathlib.Omega.{arith}
use Rattle.fields.proofs.Sizes.{size-most}
use Rattle.tracks.proofs.track.row_by.Goals as goal

pub overflow_cast-result : goal.overflow_cast-result
overflow_cast-result c = omega (arith, c.len.ensures, size-most c.args.row.id.n)
