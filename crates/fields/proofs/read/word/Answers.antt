use mathlib.Core.Path.{◌∙◌}
use native.Mathlib.Omega.{arith}
use Rattle.fields.proofs.Readers.{number_cut}
use Rattle.fields.proofs.read.word.Goals as goal

pub returns : goal.returns
returns c =
    let a = c.args in
    (c.byte.ensures.0 ∙ number_cut a.s.now a.at c.if-at-s.false, omega (arith, c.byte.ensures.1))
