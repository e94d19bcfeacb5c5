use mathlib.Core.Path.{◌≡◌, ap, ◌∙◌}
use lib.ListN.{length, get_or}
use Rattle.registers.specs.declared.regs.Regs.{Regs}
use Rattle.registers.specs.Settle.{accepted}
use Rattle.registers.specs.Boxes.{silent}
use Rattle.codes.specs.Table.{command_of}
use Rattle.commands.specs.Lent.{left}
use Rattle.sending.proofs.Sends.{command-part, command-from}
use borrow.Author.Rules.{rules}
use Rattle.sending.proofs.write.maybe_run_cmd.Goals as goal
use Rattle.registers.specs.declared.regs.Answered.{Answered}
use Rattle.registers.specs.declared.regs.Report.{Report}

pub returns-then-r-bytes_for : goal.returns-then-r-bytes_for
returns-then-r-bytes_for c =
    λ h. ap (λ (a : Answered Report). left a h c.args.table.now c.args.bytes.now c.args.transfer.now)
    (c.done.ensures ∙ ap (accepted silent) c.added-r.ensures)
    ∙ command-part c.args.regs c.args.b h c.args.table.now c.args.bytes.now c.args.transfer.now c.requires (let known : length c.args.regs.command ≡ 9 = search rules in known) c.command_of-which.result
    c.bytes_for.result (c.command_of-which.ensures ∙ ap (λ (y : Regs). command_of (get_or y.command 0 0)) c.added-r.ensures) c.bytes_for.ensures
    (λ q. c.if-r-bytes_for.true (ap (λ (y : Regs). y.count) c.added-r.ensures ∙ q))

pub returns : goal.returns
returns c =
    λ h. command-from c.args.regs c.args.b h c.args.table.now c.args.bytes.now c.args.transfer.now c.requires (let known : length c.args.regs.command ≡ 9 = search rules in known) c.command_of-which.result
    c.bytes_for.result (c.command_of-which.ensures ∙ ap (λ (y : Regs). command_of (get_or y.command 0 0)) c.added-r.ensures) c.bytes_for.ensures c.added-r.result
    c.cleared.result c.run_cmd.result _ _ _ _ c.kept.ensures c.added-r.ensures c.cleared.ensures c.if-r-bytes_for.false c.run_cmd.ensures
