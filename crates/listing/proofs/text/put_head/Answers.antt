use native.Mathlib.Omega.{arith}
use Rattle.listing.proofs.Lines.{head-length, head-laid}
use Rattle.listing.proofs.text.put_head.Goals as goal

pub put_byte-first-requires : goal.put_byte-first-requires
put_byte-first-requires c = omega (arith, head-length c.args.head)

pub put_byte-second-requires : goal.put_byte-second-requires
put_byte-second-requires c = omega (arith, head-length c.args.head)

pub put_byte-third-requires : goal.put_byte-third-requires
put_byte-third-requires c = omega (arith, head-length c.args.head)

pub put_byte-fourth-requires : goal.put_byte-fourth-requires
put_byte-fourth-requires c = omega (arith, head-length c.args.head)

pub put_byte-last-requires : goal.put_byte-last-requires
put_byte-last-requires c = omega (arith, head-length c.args.head)

pub put_word-requires : goal.put_word-requires
put_word-requires c = omega (arith, head-length c.args.head)

pub returns : goal.returns
returns c = head-laid c.args.head c.requires c.put_byte-first.ensures c.put_byte-second.ensures c.put_byte-third.ensures c.put_byte-fourth.ensures c.put_byte-last.ensures c.put_word.ensures
