use Prim.Native.Nat.{◌-◌}
use Rattle.listing.specs.Lines.{row_lines}
use Rattle.listing.proofs.Lines.{Left}
use Rattle.listing.proofs.text.put_rows.Given as goal

abbrev pub invariant-loop-k : goal.invariant-loop-k
invariant-loop-k l = Left l.initial.out l.start (row_lines l.kind l.block 0 l.count) l.out l.at (row_lines l.kind l.block l.k (l.count - l.k))
