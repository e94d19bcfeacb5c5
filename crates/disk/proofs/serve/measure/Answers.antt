use mathlib.Core.Path.{sym, ap, ◌∙◌}
use Prim.Native.Nat.{◌+◌}
use native.Mathlib.Omega.{arith}
use Rattle.tracks.specs.declared.track.Row.{Row}
use Rattle.disk.proofs.Extents.{Measured, measure-done, seek-again, number-found, number-none}
use borrow.Author.Rules.{rules}
use Rattle.disk.proofs.serve.measure.Goals as goal
use Rattle.disk.proofs.serve.measure.Goals.{After-row_at}

-- the number at hand has a sector
one-more : (c : After-row_at)
    → Measured c.args.table.now c.args.id c.args.rows.start c.args.rows.count c.args.last (c.numbers.r + 1) (c.loop-k.sectors + 1) (c.loop-k.total + c.row_at.result.stored)
one-more c =
    number-found _ _ _ _ _ _ _ _ _ c.loop-k.invariant c.numbers-test.true c.loop-k-test.true (sym c.row_here.ensures ∙ c.if-row_here.true) _
    (ap (λ (r : Row). r.stored) c.row_at.ensures) (search rules)

pub numbers-preserved : goal.numbers-preserved
numbers-preserved c = one-more (goal.at.numbers-preserved c).After-row_at

pub returns-then-row_here : goal.returns-then-row_here
returns-then-row_here c = measure-done _ _ _ _ _ _ _ _ (one-more (goal.at.returns-then-row_here c).After-row_at) (omega arith)

pub loop-k-preserved : goal.loop-k-preserved
loop-k-preserved c = seek-again _ _ _ _ _ _ _ _ _ c.loop-k.invariant c.loop-k-test.true (sym c.row_here.ensures ∙ c.if-row_here.false)

pub returns-2 : goal.returns-2
returns-2 c = number-none _ _ _ _ _ _ _ _ _ c.loop-k.invariant c.numbers-test.true c.loop-k-test.false
