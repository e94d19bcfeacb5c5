use mathlib.Core.Path.{refl}
use Rattle.loading.proofs.Lays.{rowing-again, rowing-done, list-rest, list-none}
use borrow.Author.Rules.{rules}
use Rattle.loading.proofs.lay.put_rows.Goals as goal

pub loop-k-preserved : goal.loop-k-preserved
loop-k-preserved c =
    rowing-again _ _ _ _ (search rules) _ _ _ c.loop-k.invariant c.loop-k-test.true _ _ _ c.put_row.ensures refl
    (list-rest _ _ _ _ _ c.loop-k-test.true c.sector_row-row.ensures)

pub returns : goal.returns
returns c = rowing-done _ _ _ _ _ _ c.loop-k.invariant (list-none _ _ _ _ c.loop-k-test.false)
