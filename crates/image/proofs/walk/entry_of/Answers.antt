use Rattle.image.proofs.Headers.{entry-normal, entry_absent, entry-size}
use Rattle.image.proofs.walk.entry_of.Goals as goal

pub returns-then-size-eq0 : goal.returns-then-size-eq0
returns-then-size-eq0 c =
    let d = c in
    entry_absent _ _ _ d.in-Extended.is _ c.tail.ensures _ c.byte-size.ensures.0 c.if-size-eq0.true

pub returns-in-Normal : goal.returns-in-Normal
returns-in-Normal c = entry-normal _ _ _ _ c.in-Normal.is c.word.ensures.0

pub returns-else-size-eq0 : goal.returns-else-size-eq0
returns-else-size-eq0 c =
    let d = c in
    entry-size _ _ _ d.in-Extended.is _ c.tail.ensures _ c.byte-size.ensures.0 c.if-size-eq0.false
