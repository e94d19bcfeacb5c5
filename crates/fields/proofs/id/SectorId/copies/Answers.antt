use native.Mathlib.Omega.{arith}
use Rattle.fields.proofs.Sizes.{size-pos, copies-large, copies_whole, copies-none}
use Rattle.fields.proofs.id.SectorId.copies.Goals as goal

pub returns-then-self-ge4 : goal.returns-then-self-ge4
returns-then-self-ge4 c = copies-large _ _ (omega (arith, c.if-self-ge4.true))

pub nonzero_rem-stored : goal.nonzero_rem-stored
nonzero_rem-stored c = omega (arith, c.len-size.ensures, size-pos c.args.self.n)

pub nonzero_div-result : goal.nonzero_div-result
nonzero_div-result c = omega (arith, c.len-size.ensures, size-pos c.args.self.n)

pub returns-then-stored-size-eq0 : goal.returns-then-stored-size-eq0
returns-then-stored-size-eq0 c = copies_whole _ _ _ (omega (arith, c.if-self-ge4.false)) c.len-size.ensures c.if-stored-size-eq0.true

pub returns : goal.returns
returns c = copies-none _ _ _ (omega (arith, c.if-self-ge4.false)) c.len-size.ensures c.if-stored-size-eq0.false
