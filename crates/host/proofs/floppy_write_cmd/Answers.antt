use mathlib.Core.Path.{sym, ◌∙◌}
use Prim.Native.Nat.{◌-◌}
use native.Mathlib.Omega.{arith}
use lib.ListN.{length}
use borrow.Rule.Slice.PartMut.{same_len_mid}
use Rattle.layout.proofs.Images.{regs-long}
use Rattle.host.proofs.Answers.{sent-bad, sent-good}
use Rattle.host.proofs.floppy_write_cmd.Goals as goal

pub slice_bounds-write_cmd-count : goal.slice_bounds-write_cmd-count
slice_bounds-write_cmd-count c = omega (arith, regs-long _ _ (sym c.regs_in.ensures ∙ c.in-Ok.is))

pub slice_bounds-write_cmd-start : goal.slice_bounds-write_cmd-start
slice_bounds-write_cmd-start c = omega (arith, regs-long _ _ (sym c.regs_in.ensures ∙ c.in-Ok.is))

pub slice_bounds-write_cmd-end : goal.slice_bounds-write_cmd-end
slice_bounds-write_cmd-end c = omega (arith, regs-long _ _ (sym c.regs_in.ensures ∙ c.in-Ok.is))

pub settle-requires : goal.settle-requires
settle-requires c =
    same_len_mid 44 (length c.args.controller.now - 44) c.args.controller.now c.write_cmd-a.new.held c.write_cmd-a.auto.held
    ∙ regs-long _ _ (sym c.regs_in.ensures ∙ c.in-Ok.is)

pub returns-in-Ok : goal.returns-in-Ok
returns-in-Ok c =
    sent-good _ _ _ _ _ _ _ _ _ _ _ _ (regs-long _ _ (sym c.regs_in.ensures ∙ c.in-Ok.is)) _ (sym c.regs_in.ensures ∙ c.in-Ok.is)
    c.write_cmd-a.ensures c.settle.ensures

pub returns-in-Err : goal.returns-in-Err
returns-in-Err c = sent-bad _ _ _ _ _ _ _ (sym c.regs_in.ensures ∙ c.in-Err.is) c.refusal_word.ensures
