-- `exchange` meets its contract: at the loop's head [a, m) and [m, mid) are exchanged.
use mathlib.Core.Path.{◌≡◌}
use mathlib.Core.List.{◌++◌}
use Prim.Native.Nat.{◌+◌, ◌-◌, ◌≤◌}
use lib.ListN.{length}
use lib.Seq.{slice}
use Rattle.buffer.specs.Over.{over}
use Rattle.buffer.proofs.moves.exchange.Given as goal

abbrev pub invariant-loop-mid : goal.invariant-loop-mid
invariant-loop-mid l =
    ((l.m ≤ l.mid) × ((l.mid ≤ l.b) × (l.low ≡ l.a + (l.mid - l.m))))
    × ((length l.chunk ≡ 8192) × ((length l.buf ≡ length l.initial.buf) × (l.buf ≡ over l.initial.buf l.a (slice l.m l.mid l.initial.buf ++ slice l.a l.m l.initial.buf))))

abbrev pub decreases-loop-mid : goal.decreases-loop-mid
decreases-loop-mid l = l.b - l.mid
