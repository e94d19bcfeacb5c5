use mathlib.Core.Path.{sym, ◌∙◌}
use native.Mathlib.Omega.{arith}
use Rattle.disk.proofs.Servings.{serve-missing, served-row, serve-gathered, serve-small, serve-refused, serve-good}
use Rattle.disk.proofs.serve.read_rows.Goals as goal

pub returns-in_default : goal.returns-in_default
returns-in_default c = serve-missing _ _ _ _ _ c.requires _ _ (sym c.in_default.is ∙ c.first_sector.ensures) _

pub returns-then-transfer_room-extent : goal.returns-then-transfer_room-extent
returns-then-transfer_room-extent c =
    serve-refused _ _ _ _ _ c.requires _ _ _ c.first_sector.ensures _ _ _ c.in-Some.is _ c.max-last.ensures _ c.measure-extent.ensures _ _
    c.transfer_room.ensures.0 c.if-transfer_room-extent.true

pub gather-requires : goal.gather-requires
gather-requires c =
    serve-gathered _ _ _ _ _ c.requires _ _ _ c.first_sector.ensures _ _ _ c.in-Some.is _ c.max-last.ensures _ c.measure-extent.ensures
    (omega (arith, c.struct_known-1.given)) (omega (arith, c.ranges)) _ (omega (arith, c.if-transfer_room-extent.false, c.transfer_room.ensures.1))

pub row_at-row-requires : goal.row_at-row-requires
row_at-row-requires c = omega (arith, served-row _ _ _ _ _ c.requires _ _ c.first_sector.ensures _ _ _ c.in-Some.is)

pub overflow_mul-result : goal.overflow_mul-result
overflow_mul-result c =
    omega (
      arith,
      serve-small _ _ _ _ _ c.requires _ _ _ c.first_sector.ensures _ _ _ c.in-Some.is _ c.max-last.ensures _ c.measure-extent.ensures
          (omega (arith, c.struct_known-1.given)) (omega (arith, c.ranges)) _ c.len.ensures,
    )

pub returns : goal.returns
returns c =
    serve-good _ _ _ _ _ c.requires _ _ _ c.first_sector.ensures _ _ _ c.in-Some.is _ c.max-last.ensures _ c.measure-extent.ensures _ _
    c.transfer_room.ensures.0 c.if-transfer_room-extent.false _ c.row_at-row.ensures _ c.len.ensures _ c.gather.ensures
