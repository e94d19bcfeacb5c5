use Rattle.std.proofs.Common.{◌≡◌, take}
use Rattle.buffer.specs.Over.{over}
use Rattle.buffer.proofs.copy_in.Given as goal

-- After i turns the first i bytes of `src` lie in `dst`.
abbrev pub invariant-loop-i : goal.invariant-loop-i
invariant-loop-i l = l.dst ≡ over l.initial.dst l.at (take l.i l.src)
