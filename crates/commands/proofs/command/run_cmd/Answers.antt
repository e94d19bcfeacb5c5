use mathlib.Core.Path.{ap, ◌∙◌}
use mathlib.Core.List.{[]}
use mathlib.Core.Logic.{inl, inr}
use Rattle.registers.specs.Boxes.{setting_of, silent}
use Rattle.registers.specs.Settle.{accepted, regs_of, regs_all, regs_responded}
use Rattle.commands.specs.Commands.{does, invalid, obeyed}
use Rattle.commands.specs.Lent.{ran}
use Rattle.commands.proofs.Effects.{sense-ran, seek-ran}
use Rattle.commands.proofs.Runs.{ran-quiet, ran-read, ran-stored, quiet-seek, quiet-invalid, quiet_write, quiet-id, unput-read, still-format}
use Rattle.commands.proofs.command.run_cmd.Goals as goal
use Rattle.registers.specs.declared.regs.Answered.{Answered}
use Rattle.registers.specs.declared.regs.Report.{Report}

pub returns-in-Specify : goal.returns-in-Specify
unfolding obeyed regs_of regs_all regs_responded
returns-in-Specify c =
    let e = ap (λ (x : Answered Report). ran x c.args.table.now c.args.bytes.now c.args.transfer.now) c.done.ensures in
    elim c.in-Specify.is [ inl q ↦ rw q e | inr q ↦ rw q e ]

pub returns-in-SenseDrive : goal.returns-in-SenseDrive
unfolding obeyed regs_of regs_all regs_responded
returns-in-SenseDrive c = rw c.in-SenseDrive.is (ap (λ (x : Answered Report). ran x c.args.table.now c.args.bytes.now c.args.transfer.now) (c.done-in-SenseDrive.ensures ∙ simp c.sense_drive.ensures (sense-ran _ _ _ _)))

pub returns-in-Recalibrate : goal.returns-in-Recalibrate
unfolding obeyed
returns-in-Recalibrate c = rw c.in-Recalibrate.is (ran-quiet _ _ _ _ _ _ (quiet-seek _ _) (c.seek.ensures ∙ seek-ran _ _ _ _ _))

pub returns-in-SenseInterrupt : goal.returns-in-SenseInterrupt
unfolding obeyed regs_of regs_all regs_responded
returns-in-SenseInterrupt c = rw c.in-SenseInterrupt.is (ap (λ (x : Answered Report). ran x c.args.table.now c.args.bytes.now c.args.transfer.now) (c.done-in-SenseInterrupt.ensures ∙ simp c.sense_interrupt.ensures))

pub returns-in-SeekTo : goal.returns-in-SeekTo
unfolding obeyed
returns-in-SeekTo c = rw c.in-SeekTo.is (ran-quiet _ _ _ _ _ _ (quiet-seek _ _) (c.seek-in-SeekTo.ensures ∙ seek-ran _ _ _ _ _))

pub returns-in-Version : goal.returns-in-Version
unfolding obeyed regs_of regs_all regs_responded
returns-in-Version c = rw c.in-Version.is (ap (λ (x : Answered Report). ran x c.args.table.now c.args.bytes.now c.args.transfer.now) (c.done-in-Version.ensures ∙ simp c.replied.ensures))

pub returns-in-ReadData : goal.returns-in-ReadData
unfolding obeyed
returns-in-ReadData c = rw c.in-ReadData.is (ran-read _ _ _ _ _ _ _ (unput-read _ _ _ _) c.read_data.ensures)

pub returns-in-ReadDeleted : goal.returns-in-ReadDeleted
unfolding obeyed
returns-in-ReadDeleted c = rw c.in-ReadDeleted.is (ran-read _ _ _ _ _ _ _ (unput-read _ _ _ _) c.read_data-in-ReadDeleted.ensures)

pub returns-in-WriteData : goal.returns-in-WriteData
unfolding obeyed
returns-in-WriteData c = rw c.in-WriteData.is (ran-quiet _ _ _ _ _ _ (quiet_write _ _ _) (c.write_data.ensures ∙ simp c.sector_id.ensures))

pub returns-in-ReadId : goal.returns-in-ReadId
unfolding obeyed
returns-in-ReadId c = rw c.in-ReadId.is (ran-quiet _ _ _ _ _ _ (quiet-id _ _ _) c.read_id.ensures)

pub returns-in-FormatTrack : goal.returns-in-FormatTrack
unfolding obeyed
returns-in-FormatTrack c = rw c.in-FormatTrack.is (ran-stored _ _ _ _ _ _ _ _ (still-format _ _ _ _) (c.format_track.ensures _))

pub returns-in-Invalid : goal.returns-in-Invalid
unfolding obeyed regs_of regs_all regs_responded
returns-in-Invalid c = rw c.in-Invalid.is (ran-quiet _ _ _ _ (does [] (invalid (setting_of c.args.regs.setting).machine)) _ (quiet-invalid (setting_of c.args.regs.setting).machine) (c.done-in-Invalid.ensures ∙ ap (accepted silent) c.invalid.ensures))
