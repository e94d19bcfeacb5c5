use Rattle.std.proofs.Common.{◌∙◌}
use Rattle.store.proofs.Checks.{test-other, test-same, test-last}
use borrow.Author.Tests.{ne_eqb}
use Rattle.store.proofs.find.track_here.Goals as goal

pub returns-then-byte-cylinder : goal.returns-then-byte-cylinder
returns-then-byte-cylinder c = test-same _ _ _ c.byte.ensures.0 _ _ c.if-byte-cylinder.true (test-last _ _ _ c.byte-then-byte-cylinder.ensures.0)

pub returns-else-byte-cylinder : goal.returns-else-byte-cylinder
returns-else-byte-cylinder c = ne_eqb _ _ c.if-byte-cylinder.false ∙ test-other _ _ _ c.byte.ensures.0 _ c.if-byte-cylinder.false
