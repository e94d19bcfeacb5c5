use Rattle.fields.proofs.Exits.{handed_on}
use Rattle.image.proofs.Headers.{open-refused, open-short, open-ready}
use Rattle.image.proofs.walk.open.Goals as goal

pub returns-in_err-kind : goal.returns-in_err-kind
returns-in_err-kind c = handed_on _ _ _ c.from_residual.ensures.1 (open-refused _ _ c.read_signature.ensures _ c.in_err-kind.was)

pub returns-then-image-table_end : goal.returns-then-image-table_end
returns-then-image-table_end c =
    open-short _ _ c.read_signature.ensures _ c.in_ok-kind.was _ _ c.entries_of-entries.ensures.0 c.table_end.ensures c.if-image-table_end.true

pub returns : goal.returns
returns c =
    open-ready _ _ c.read_signature.ensures _ c.in_ok-kind.was _ _ c.entries_of-entries.ensures.0 c.table_end.ensures c.if-image-table_end.false
