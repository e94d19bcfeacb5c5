use mathlib.Core.Path.{◌∙◌}
use borrow.Author.Tests.{not-true, not-false}
use Rattle.commands.proofs.Effects.{ok-is, read_none, read-ran, read_short}
use Rattle.commands.proofs.command.read_data.Goals as goal

pub returns-then-not-d : goal.returns-then-not-d
returns-then-not-d c =
    let q = read_none _ _ _ _ _ _ _ c.named-d.ensures (not-true c.named-d.result.disk c.if-not-d.true) in
    (c.done.ensures ∙ simp (c.not_ready.ensures, c.sector_id-id.ensures) q.0, q.1)

pub served-requires : goal.served-requires
served-requires c = read_short _ _ _ _ _ _ _ _ _ _ (ok-is _ _ _ c.in-Ok-Some.is c.in-Ok-Some.field-0-is) c.read.ensures

pub returns-in-Err : goal.returns-in-Err
returns-in-Err c =
    let q = read-ran _ _ _ _ _ _ _ c.named-d.ensures _ c.head_of.ensures _ c.sector_id-id.ensures _ _ _ (not-false c.named-d.result.disk c.if-not-d.false) c.in-Err.is c.read.ensures in
    (c.refused.ensures ∙ q.0, q.1)

pub returns-in-Ok-None : goal.returns-in-Ok-None
returns-in-Ok-None c =
    let q = read-ran _ _ _ _ _ _ _ c.named-d.ensures _ c.head_of.ensures _ c.sector_id-id.ensures _ _ _ (not-false c.named-d.result.disk c.if-not-d.false) (ok-is _ _ _ c.in-Ok-None.is c.in-Ok-None.field-0-is) c.read.ensures in
    (c.done-in-Ok-None.ensures ∙ simp c.missing.ensures q.0, q.1)

pub returns-in-Ok-Some : goal.returns-in-Ok-Some
returns-in-Ok-Some c =
    let q = read-ran _ _ _ _ _ _ _ c.named-d.ensures _ c.head_of.ensures _ c.sector_id-id.ensures _ _ _ (not-false c.named-d.result.disk c.if-not-d.false) (ok-is _ _ _ c.in-Ok-Some.is c.in-Ok-Some.field-0-is) c.read.ensures in
    (c.found.ensures ∙ simp c.served.ensures q.0, q.1)
