use mathlib.Core.Path.{refl}
use native.Mathlib.Omega.{arith}
use mathlib.Core.Bool.{not, ◌&&◌}
use Rattle.sheet.specs.Calls.{work_for}
use Rattle.sheet.proofs.Lengths.{works-room, held-here, write-here, format-here}
use Rattle.sheet.proofs.Lays.{laid-works}
use Rattle.sheet.proofs.writing.lay_works.Goals as goal

pub put_work-machine-requires : goal.put_work-machine-requires
put_work-machine-requires c = record {
  held_in_bounds = omega (arith, (works-room c.args.r.write.on c.args.r.write.track c.args.r.write c.args.held.now c.requires.taken_in_bounds), c.requires.room);
  taken_in_bounds = λ e. c.requires.taken_in_bounds (held-here c.args.r.write.on (not c.args.r.write.track) e);
}

pub put-format-requires : goal.put-format-requires
put-format-requires c = omega (arith, (works-room c.args.r.write.on c.args.r.write.track c.args.r.write c.args.held.now c.requires.taken_in_bounds), c.requires.room, c.put_work-machine.ensures.1)

pub put_work-requires : goal.put_work-requires
put_work-requires c = record {
  held_in_bounds = omega (arith, (works-room c.args.r.write.on c.args.r.write.track c.args.r.write c.args.held.now c.requires.taken_in_bounds), c.requires.room, c.put_work-machine.ensures.1, c.put-format.ensures.1);
  taken_in_bounds = λ e. c.requires.taken_in_bounds (held-here c.args.r.write.on c.args.r.write.track e);
}

pub returns : goal.returns
returns c =
    laid-works _ _ _ _ (work_for (c.args.r.write.on && not c.args.r.write.track) c.args.r.write c.args.held.now) (work_for (c.args.r.write.on && c.args.r.write.track) c.args.r.write c.args.held.now) _ _ _ c.args.at _ _ (omega (arith, c.requires.room))
    (write-here c.args.r.write.on c.args.r.write.track c.args.r.write c.args.held.now refl) (format-here c.args.r.write.on c.args.r.write.track c.args.r.write c.args.held.now refl) c.put_work-machine.ensures.0 c.put_work-machine.ensures.1
    c.put-format.ensures.0 c.put-format.ensures.1 c.put_work.ensures.0
