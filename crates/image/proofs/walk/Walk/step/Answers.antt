use Prim.Native.Nat.{◌+◌, ◌≤◌}
use native.Mathlib.Omega.{arith}
use lib.ListN.{length}
use Rattle.fields.proofs.Exits.{handed_on}
use Rattle.image.proofs.Steps.{step_end, step-absent, step-refused, step-track, step-inside}
use Rattle.image.proofs.walk.Walk.step.Goals as goal

pub returns-then-self : goal.returns-then-self
returns-then-self c = step_end _ _ c.if-self.true

pub returns-in_default : goal.returns-in_default
returns-in_default c = step-absent _ _ c.if-self.false _ c.entry_of.ensures c.in_default.is

pub returns-in_err-head : goal.returns-in_err-head
returns-in_err-head c =
    handed_on _ _ _ c.from_residual.ensures.1
    (step-refused _ _ c.if-self.false _ c.entry_of.ensures _ c.in-Some.is _ _ c.block.ensures c.read_track.ensures _ c.in_err-head.was)

pub overflow_add-result : goal.overflow_add-result
overflow_add-result c =
    let l : c.args.self.at + 12 ≤ length c.args.image.now =
    step-inside _ _ c.if-self.false _ c.entry_of.ensures _ c.in-Some.is _ _ c.block.ensures c.read_track.ensures _ c.in_ok-head.was in
    omega (arith, c.in-Some.known_told-1-own.given)

pub returns : goal.returns
returns c =
    step-track _ _ c.if-self.false _ c.entry_of.ensures _ c.in-Some.is _ _ c.block.ensures c.read_track.ensures _ c.in_ok-head.was
