use Rattle.std.proofs.Common.{◌≡◌, length, take}
use Rattle.buffer.specs.Same.{same_bytes}
use Rattle.buffer.proofs.same.Given as goal

-- After i turns the first i bytes of both were compared.
abbrev pub invariant-loop-i : goal.invariant-loop-i
invariant-loop-i l = (length l.a ≡ length l.b) × (l.alike ≡ same_bytes (take l.i l.a) (take l.i l.b))
