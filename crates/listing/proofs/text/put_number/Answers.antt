use native.Mathlib.Omega.{arith}
use mathlib.Core.Path.{ap, ◌∙◌}
use lib.ListN.{length}
use Rattle.listing.proofs.Lines.{renamed}
use Rattle.listing.proofs.text.put_number.Goals as goal

pub put_word-requires : goal.put_word-requires
put_word-requires c = omega (arith, ap length (c.tail.ensures ∙ c.write_digits-from.ensures.1))

pub returns : goal.returns
returns c = renamed _ _ (c.tail.ensures ∙ c.write_digits-from.ensures.1) c.put_word.ensures
