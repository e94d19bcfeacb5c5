use mathlib.Core.Path.{◌≡◌, sym}
use Rattle.fields.specs.Bytes.{byte_at}
use Rattle.tracks.proofs.Tracks.{body-short, body-cut, body-good}
use Rattle.tracks.proofs.track.read_body.Goals as goal

pub returns-then-block-byte : goal.returns-then-block-byte
returns-then-block-byte c = body-short _ _ _ c.byte.ensures.0 c.if-block-byte.true

pub returns-then-block-data_end : goal.returns-then-block-data_end
returns-then-block-data_end c =
    let d = c in
    let n : byte_at d.args.block.now 0x15 ≡ d.byte.result = sym d.byte.ensures.0 in
    body-cut _ _ (rw n d.if-block-byte.false) _ _ c.stored_sum-stored.ensures.0 c.data_end.ensures c.if-block-data_end.true

pub returns : goal.returns
returns c =
    let e = c in
    let d = e in
    let n : byte_at d.args.block.now 0x15 ≡ d.byte.result = sym d.byte.ensures.0 in
    body-good _ _ (rw n d.if-block-byte.false) _ _ e.stored_sum-stored.ensures.0 e.data_end.ensures e.if-block-data_end.false
