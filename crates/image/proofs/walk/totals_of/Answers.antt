use native.Mathlib.Omega.{arith}
use Rattle.fields.proofs.Exits.{handed_on}
use Rattle.image.proofs.Steps.{says_of, falls, count-start, count-refused, count-end, count-absent, count-track}
use borrow.Author.Rules.{rules}
use Rattle.std.specs.Prelude.{Ok}
use Rattle.std.proofs.Common.{ap, ◌∙◌}
use Rattle.image.proofs.walk.totals_of.Goals as goal

pub loop-rest-init : goal.loop-rest-init
loop-rest-init c = count-start _ _ c.requires

pub returns-in_err-step : goal.returns-in_err-step
returns-in_err-step c =
    handed_on _ _ _ c.from_residual.ensures.1 (count-refused _ _ _ _ c.loop-rest.invariant _ (says_of _ _ _ _ c.step.ensures c.in_err-step.was))

pub returns-in-End : goal.returns-in-End
returns-in-End c = count-end _ _ _ _ c.loop-rest.invariant (says_of _ _ _ _ c.step.ensures (c.in_ok-step.was ∙ ap Ok c.in-End.is))

pub loop-rest-smaller-in-Absent : goal.loop-rest-smaller-in-Absent
loop-rest-smaller-in-Absent c = falls _ _ (says_of _ _ _ _ c.step.ensures (c.in_ok-step.was ∙ ap Ok c.in-Absent.is)).0

pub loop-rest-preserved-in-Absent : goal.loop-rest-preserved-in-Absent
loop-rest-preserved-in-Absent c =
    count-absent _ _ _ _ c.loop-rest.invariant _ (says_of _ _ _ _ c.step.ensures (c.in_ok-step.was ∙ ap Ok c.in-Absent.is))

pub overflow_add-totals : goal.overflow_add-totals
overflow_add-totals c =
    let m = (says_of _ _ _ _ c.step.ensures (c.in_ok-step.was ∙ ap Ok c.in-Track.is)).moved in omega (arith, c.loop-rest.invariant, m.more)

pub overflow_add-totals-in-Track : goal.overflow_add-totals-in-Track
overflow_add-totals-in-Track c =
    let m = (says_of _ _ _ _ c.step.ensures (c.in_ok-step.was ∙ ap Ok c.in-Track.is)).moved in omega (arith, c.loop-rest.invariant, m.more)

pub overflow_add-totals-in-Track-2 : goal.overflow_add-totals-in-Track-2
overflow_add-totals-in-Track-2 c =
    let m = (says_of _ _ _ _ c.step.ensures (c.in_ok-step.was ∙ ap Ok c.in-Track.is)).moved in omega (arith, c.loop-rest.invariant, m.more)

pub loop-rest-smaller : goal.loop-rest-smaller
loop-rest-smaller c = falls _ _ (says_of _ _ _ _ c.step.ensures (c.in_ok-step.was ∙ ap Ok c.in-Track.is)).moved

pub loop-rest-preserved : goal.loop-rest-preserved
loop-rest-preserved c =
    count-track _ _ _ _ c.loop-rest.invariant _ _ (says_of _ _ _ _ c.step.ensures (c.in_ok-step.was ∙ ap Ok c.in-Track.is)) (search rules) (search rules)
