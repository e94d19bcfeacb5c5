use Prim.Native.Nat.{◌-◌}
use native.Mathlib.Omega.{arith}
use lib.ListN.{take, drop}
use Rattle.buffer.proofs.Overs.{slice-drop}
use Rattle.sheet.proofs.Lays.{laid-rest}
use Rattle.sheet.proofs.writing.lay_rest.Goals as goal

pub returns : goal.returns
returns c =
    laid-rest _ _ _ _ (take (c.args.r.until - c.args.r.from) (drop c.args.r.from c.args.transfer.now)) _ _ c.args.r.lost c.args.at _ _ (omega (arith, c.requires)) (slice-drop c.args.transfer.now c.args.r.from c.args.r.until)
    c.put-next.ensures.0 c.put-next.ensures.1 c.put-last.ensures.0 c.put-last.ensures.1 c.lay_works.ensures
