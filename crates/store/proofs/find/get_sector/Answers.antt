use native.Mathlib.Omega.{arith}
use Rattle.std.proofs.Common.{sym, ap, ◌∙◌}
use Rattle.store.proofs.Same.{none-less}
use Rattle.tracks.specs.declared.track.Row.{Row}
use Rattle.store.proofs.Walks.{RowWalk, row-start, row_inside, row-found, row-on, row-over}
use Rattle.store.proofs.find.get_sector.Goals as goal

pub loop-index-init : goal.loop-index-init
loop-index-init c =
    none-less (λ n. RowWalk c.args.table.now c.args.id c.args.rows.start c.args.rows.first c.args.rows.count n 0 c.args.rows.start c.args.rows.first) _ (row-start _ _ _ _ _ (omega arith, (omega arith, c.requires)))

pub returns-then-row_here : goal.returns-then-row_here
returns-then-row_here c = row-found _ _ _ _ _ _ _ _ _ c.loop-index.invariant (omega arith) (sym c.row_here.ensures ∙ c.if-row_here.true)

pub overflow_add-place : goal.overflow_add-place
overflow_add-place c = omega (arith, row_inside _ _ _ _ _ _ _ _ _ c.loop-index.invariant (omega arith), ap (λ (r : Row). r.stored) c.row_at.ensures)

pub loop-index-preserved : goal.loop-index-preserved
loop-index-preserved c =
    row-on _ _ _ _ _ _ _ _ _ _ c.loop-index.invariant _ c.loop-index-test.true (ap (λ (r : Row). r.stored) c.row_at.ensures)
    (sym c.row_here.ensures ∙ c.if-row_here.false)

pub returns : goal.returns
returns c = row-over _ _ _ _ _ _ _ _ _ c.loop-index.invariant (omega arith)
