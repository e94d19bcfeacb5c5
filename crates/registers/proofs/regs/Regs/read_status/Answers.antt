use Rattle.std.proofs.Common.{sym, ap, ◌∙◌, arith}
use Rattle.registers.specs.declared.regs.Regs.{Regs}
use Rattle.registers.proofs.Numbers.{possible}
use Rattle.registers.proofs.regs.Regs.read_status.Goals as goal

pub polled-requires : goal.polled-requires
polled-requires c = omega (arith, (possible c.args.self (sym c.impossible.ensures ∙ c.if-impossible.false)).lost-in, ap (λ (y : Regs). y.lost) c.moved.ensures)
