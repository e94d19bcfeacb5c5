use Prim.Native.Nat.{◌+◌, ◌<◌}
use native.Mathlib.Omega.{arith}
use Rattle.sheet.proofs.Lengths.{size_few}
use borrow.Author.Rules.{rules}
use Rattle.sheet.proofs.writing.size.Goals as goal

pub overflow_add-result-4 : goal.overflow_add-result-4
overflow_add-result-4 c = omega (arith, size_few c.args.r.write.on (5 + c.args.r.write.taken), (let known : c.args.r.write.taken < 65536 = search rules in known))
