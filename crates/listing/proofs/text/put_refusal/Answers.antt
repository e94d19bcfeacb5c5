use native.Mathlib.Omega.{arith}
use mathlib.Core.Path.{ap}
use Prim.Native.Nat.{ℕ}
use lib.ListN.{length}
use Rattle.listing.specs.Text.{decimal}
use Rattle.listing.proofs.Lines.{refusal-length, refusal-laid}
use Rattle.listing.proofs.text.put_refusal.Goals as goal

pub put_byte-last-requires : goal.put_byte-last-requires
put_byte-last-requires c = omega (arith, refusal-length c.args.why, ap (λ (k : ℕ). length (decimal k)) c.number.ensures)

pub put_word-requires : goal.put_word-requires
put_word-requires c = omega (arith, refusal-length c.args.why, ap (λ (k : ℕ). length (decimal k)) c.number.ensures)

pub returns : goal.returns
returns c = refusal-laid c.args.why c.number.result c.number.ensures (omega arith) c.put_byte-last.ensures c.put_word.ensures
