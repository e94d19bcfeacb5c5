use Rattle.sheet.proofs.Judges.{taken-work, taken-unread, taken-range, taken-right, taken-few, read-good, read-refused}
use Rattle.sheet.proofs.reading.read_parts.Goals as goal

pub returns-in-Err : goal.returns-in-Err
returns-in-Err c = read-refused _ _ _ _ _ _ _ c.judge.ensures c.in-Err.is c.refused.ensures

pub lay_held-requires : goal.lay_held-requires
lay_held-requires c = (c.requires, taken-work _ _ _ c.locate-p.ensures _ c.judge.ensures c.in_default.is _ c.work_box.ensures)

pub copy_in-requires : goal.copy_in-requires
copy_in-requires c = taken-unread _ _ _ c.locate-p.ensures _ c.judge.ensures c.in_default.is _ c.box_at.ensures

pub regs_from-requires-clause-p_value : goal.regs_from-requires-clause-p_value
regs_from-requires-clause-p_value c = (taken-range _ _ _ c.locate-p.ensures _ c.judge.ensures c.in_default.is, taken-right _ _ _ c.locate-p.ensures _ c.judge.ensures c.in_default.is)

pub regs_from-requires-clause-unread_len_bound : goal.regs_from-requires-clause-unread_len_bound
regs_from-requires-clause-unread_len_bound c = taken-few _ _ _ c.locate-p.ensures _ c.judge.ensures c.in_default.is

pub returns : goal.returns
returns c =
    read-good _ _ _ c.locate-p.ensures _ c.judge.ensures c.in_default.is _ _ _ _ _ _ _ _
    c.work_box.ensures c.lay_held.ensures c.box_at.ensures c.copy_in.ensures c.regs_from.ensures c.answered.ensures
