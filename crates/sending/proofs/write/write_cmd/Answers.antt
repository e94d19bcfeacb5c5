use mathlib.Core.Path.{◌≡◌, sym, ◌∙◌}
use mathlib.Core.Bool.{true}
use Rattle.registers.proofs.Numbers.{possible, possible-in, count-few, taken-few}
use Rattle.sending.proofs.Sends.{wrong-length, wrong-numbers, write-wrong, left-data, left-command}
use Rattle.registers.specs.Boxes.{setting_of}
use Rattle.sending.specs.Calls.{impossible_with}
use Rattle.sending.proofs.write.write_cmd.Goals as goal
use Rattle.sending.proofs.write.write_cmd.Goals.{then-held-ne-HELD-via-then-held-ne-HELD, then-held-ne-HELD-via-else-held-ne-HELD+then-impossible_in}

pub returns-then-held-ne-HELD : goal.returns-then-held-ne-HELD
returns-then-held-ne-HELD c =
    let wrong : impossible_with c.args.held.now c.args.transfer.now c.args.regs ≡ true =
    elim c.then-held-ne-HELD.branch [
      | then-held-ne-HELD-via-then-held-ne-HELD w ↦ wrong-length c.args.regs c.args.held.now c.args.transfer.now w.if-held-ne-HELD.true
      | then-held-ne-HELD-via-else-held-ne-HELD+then-impossible_in w ↦ wrong-numbers c.args.regs c.args.held.now c.args.transfer.now (sym w.impossible_in.ensures ∙ w.if-impossible_in.true)
    ] in
    write-wrong c.args.regs c.args.b c.args.held.now c.args.table.now c.args.bytes.now c.args.transfer.now _ wrong c.refused.ensures

pub data_byte-requires : goal.data_byte-requires
data_byte-requires c = (c.if-held-ne-HELD.false, taken-few (setting_of c.args.regs.setting) c.args.regs.write (possible c.args.regs (possible-in c.args.transfer.now c.args.regs (sym c.impossible_in.ensures ∙ c.if-impossible_in.false))).write-in c.if-regs.true)

pub returns-then-regs : goal.returns-then-regs
returns-then-regs c =
    left-data c.args.regs c.args.b c.args.held.now c.args.table.now c.args.bytes.now c.args.transfer.now _
    (sym c.impossible_in.ensures ∙ c.if-impossible_in.false) c.if-held-ne-HELD.false c.if-regs.true (c.data_byte.ensures c.args.transfer.now)

pub maybe_run_cmd-requires : goal.maybe_run_cmd-requires
maybe_run_cmd-requires c = count-few c.args.regs (possible-in c.args.transfer.now c.args.regs (sym c.impossible_in.ensures ∙ c.if-impossible_in.false))

pub returns : goal.returns
returns c =
    left-command c.args.regs c.args.b c.args.held.now c.args.table.now c.args.bytes.now c.args.transfer.now _
    (sym c.impossible_in.ensures ∙ c.if-impossible_in.false) c.if-held-ne-HELD.false c.if-regs.false (c.maybe_run_cmd.ensures c.args.held.now)
