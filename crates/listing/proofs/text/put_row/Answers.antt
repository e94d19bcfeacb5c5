use native.Mathlib.Omega.{arith}
use mathlib.Core.Path.{ap}
use Prim.Native.Nat.{ℕ}
use lib.ListN.{length}
use Rattle.listing.specs.Text.{decimal}
use Rattle.listing.proofs.Lines.{row-length, row_laid}
use Rattle.listing.proofs.text.put_row.Goals as goal

pub put_id-first-requires : goal.put_id-first-requires
put_id-first-requires c = omega (arith, row-length c.args.row)

pub put_byte-second-requires : goal.put_byte-second-requires
put_byte-second-requires c = omega (arith, row-length c.args.row)

pub put_byte-third-requires : goal.put_byte-third-requires
put_byte-third-requires c = omega (arith, row-length c.args.row)

pub put_field-fourth-requires : goal.put_field-fourth-requires
put_field-fourth-requires c = omega (arith, row-length c.args.row)

pub put_field-last-requires : goal.put_field-last-requires
put_field-last-requires c = omega (arith, row-length c.args.row, ap (λ (k : ℕ). length (decimal k)) c.copies.ensures)

pub put_word-requires : goal.put_word-requires
put_word-requires c = omega (arith, row-length c.args.row, ap (λ (k : ℕ). length (decimal k)) c.copies.ensures, c.requires, c.put_id-first.ensures.behind, c.put_byte-second.ensures.behind, c.put_byte-third.ensures.behind, c.put_field-fourth.ensures.behind, c.put_field-last.ensures.behind)

pub returns : goal.returns
returns c = row_laid _ _ c.copies.ensures c.requires c.put_id-first.ensures c.put_byte-second.ensures c.put_byte-third.ensures c.put_field-fourth.ensures c.put_field-last.ensures c.put_word.ensures
