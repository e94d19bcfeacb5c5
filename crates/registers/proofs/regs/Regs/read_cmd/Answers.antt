use Rattle.std.proofs.Common.{sym, ◌∙◌, arith}
use Rattle.registers.proofs.Numbers.{possible, possible-in, until-long}
use Rattle.registers.proofs.regs.Regs.read_cmd.Goals as goal

pub bounds-transfer-self : goal.bounds-transfer-self
bounds-transfer-self c = omega (arith, c.if-self.true, until-long c.args.transfer.now c.args.self (sym c.impossible_in.ensures ∙ c.if-impossible_in.false))

pub bounds-reply-self : goal.bounds-reply-self
bounds-reply-self c = omega (arith, c.if-self-2.true, (possible c.args.self (possible-in c.args.transfer.now c.args.self (sym c.impossible_in.ensures ∙ c.if-impossible_in.false))).fill-in)
