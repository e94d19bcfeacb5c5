use mathlib.Core.Path.{sym, ap, ◌∙◌}
use Prim.Native.Nat.{ℕ, ◌+◌}
use native.Mathlib.Omega.{arith}
use mathlib.Core.Bool.{Bool, not}
use lib.ListN.{length}
use lib.Seq.{length-take-le}
use Rattle.sheet.specs.Calls.{work_for}
use Rattle.sheet.proofs.Lengths.{work-long}
use Rattle.sheet.proofs.Lays.{laid_none, laid-work}
use Rattle.sheet.proofs.writing.put_work.Goals as goal

pub returns-then-not-here : goal.returns-then-not-here
returns-then-not-here c =
    let there = ap (λ (v : Bool). c.args.at + 2 + length (work_for v c.args.p c.args.held.now)) (sym c.if-not-here.true) in
    (laid_none _ _ c.args.held.now c.args.at c.args.here c.args.p (ap not c.if-not-here.true) c.put.ensures.0, c.put.ensures.1 ∙ there)

pub copy_in-requires : goal.copy_in-requires
copy_in-requires c =
    let here = c.if-not-here.false in
    let boxed = ap (λ (v : Bool). length (work_for v c.args.p c.args.held.now)) here
    ∙ work-long c.args.p c.args.held.now (c.requires.taken_in_bounds here) in
    omega (arith, boxed, c.requires.held_in_bounds)

pub slice_bounds-copy_in-end-2 : goal.slice_bounds-copy_in-end-2
slice_bounds-copy_in-end-2 c = sym (length-take-le c.args.p.taken c.args.held.now (c.requires.taken_in_bounds c.if-not-here.false))

pub copy_in-requires-2 : goal.copy_in-requires-2
copy_in-requires-2 c =
    let here = c.if-not-here.false in
    let boxed = ap (λ (v : Bool). length (work_for v c.args.p c.args.held.now)) here
    ∙ work-long c.args.p c.args.held.now (c.requires.taken_in_bounds here) in
    let so_far = sym (length-take-le c.args.p.taken c.args.held.now (c.requires.taken_in_bounds here)) in
    omega (arith, boxed, c.requires.held_in_bounds, so_far)

pub returns : goal.returns
returns c =
    let here = c.if-not-here.false in
    let boxed = ap (λ (v : Bool). length (work_for v c.args.p c.args.held.now)) here
    ∙ work-long c.args.p c.args.held.now (c.requires.taken_in_bounds here) in
    let laid = laid-work _ _ _ c.args.held.now c.args.at c.args.here c.args.p (ap not here) c.requires.taken_in_bounds
    c.requires.held_in_bounds c.copy_in.ensures c.copy_in-2.ensures in
    (laid, ap (λ (n : ℕ). c.args.at + 2 + n) (sym boxed))
