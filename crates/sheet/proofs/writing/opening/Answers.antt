use Rattle.sheet.proofs.writing.opening.Goals as goal

pub returns : goal.returns
returns c = simp (c.flag_byte.ensures, c.seek_byte.ensures)
