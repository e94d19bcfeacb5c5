use mathlib.Core.Path.{refl, ap, ◌∙◌}
use native.Mathlib.Omega.{arith}
use Rattle.buffer.specs.Over.{over}
use Rattle.fields.proofs.Sizes.{size-most}
use Rattle.store.specs.Fresh.{formatted}
use Rattle.loading.proofs.Lays.{rowing-again, rowing-done, rows-blank, ids-rest, ids-none}
use borrow.Author.Rules.{rules}
use Rattle.loading.proofs.lay.put_blanks.Goals as goal

pub overflow_cast-stored : goal.overflow_cast-stored
overflow_cast-stored c = omega (arith, c.size_of-stored.ensures, size-most c.args.head.size)

pub loop-k-preserved : goal.loop-k-preserved
loop-k-preserved c =
    rowing-again _ _ _ _ (search rules) _ _ _ c.loop-k.invariant c.loop-k-test.true _ _ _ c.put_row.ensures refl
    (ids-rest _ _ _ _ _ c.loop-k-test.true c.id_at.ensures)

pub returns : goal.returns
unfolding formatted
returns c =
    rowing-done _ _ _ _ _ _ c.loop-k.invariant (ids-none _ _ _ _ c.loop-k-test.false)
    ∙ ap (over _ _) (rows-blank _ _ c.args.head.size c.args.head.filler c.size_of-stored.ensures 0 _)
