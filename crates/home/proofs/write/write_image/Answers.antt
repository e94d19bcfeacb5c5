use mathlib.Core.Path.{refl}
use Rattle.fields.proofs.Exits.{handed_on}
use Rattle.home.proofs.Writes.{writing, written_none, written-short, written-whole}
use Rattle.home.proofs.write.write_image.Goals as goal

pub returns-in_err-s : goal.returns-in_err-s
returns-in_err-s c =
    rw (handed_on _ _ _ c.from_residual.ensures.1 refl) (written_none _ _ _ c.judge.ensures _ c.in_err-s.was _)

pub returns-then-image-s : goal.returns-then-image-s
returns-then-image-s c = written-short _ _ _ c.judge.ensures _ c.in_ok-s.was _ c.if-image-s.true

pub put_image-requires : goal.put_image-requires
put_image-requires c = record { outbound = writing _ _ _ c.judge.ensures _ c.in_ok-s.was; long_in_bounds = c.if-image-s.false }

pub returns : goal.returns
returns c = written-whole _ _ _ c.judge.ensures _ c.in_ok-s.was _ _ c.if-image-s.false c.put_image.ensures
