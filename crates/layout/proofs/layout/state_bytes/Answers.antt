use Rattle.layout.proofs.layout.state_bytes.Goals as goal

pub returns : goal.returns
returns c = simp (c.flag_byte.ensures, c.flag_byte-2.ensures, c.seek_byte.ensures, c.flag_byte-3.ensures, c.flag_byte-4.ensures)
