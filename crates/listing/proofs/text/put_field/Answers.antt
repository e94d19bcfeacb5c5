use native.Mathlib.Omega.{arith}
use Rattle.listing.proofs.Lines.{both, field-length}
use Rattle.listing.proofs.text.put_field.Goals as goal

pub put_word-next-requires : goal.put_word-next-requires
put_word-next-requires c = omega (arith, field-length c.args.word.now c.args.n)

pub put_number-requires : goal.put_number-requires
put_number-requires c = omega (arith, field-length c.args.word.now c.args.n)

pub returns : goal.returns
returns c = both _ _ c.requires c.put_word-next.ensures (λ m. c.put_number.ensures)
