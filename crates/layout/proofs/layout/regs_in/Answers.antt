use Rattle.std.proofs.Common.{rules}
use Rattle.layout.specs.Layout.{regs_in}
use Rattle.layout.proofs.Images.{formed-long}
use Rattle.layout.proofs.layout.regs_in.Goals as goal

pub returns-then-not-formed : goal.returns-then-not-formed
unfolding regs_in
returns-then-not-formed c = search rules

pub decode-requires : goal.decode-requires
decode-requires c = search (rules, formed-long)

pub returns : goal.returns
unfolding regs_in
returns c = search rules
