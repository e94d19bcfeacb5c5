use mathlib.Core.Path.{ap, ◌∙◌}
use Rattle.tracks.specs.Block.{row_by, row_of}
use Rattle.tracks.proofs.track.sector_row.Goals as goal

pub returns : goal.returns
unfolding row_of
returns c = c.row_by.ensures ∙ ap (row_by c.args.kind) c.row_at.ensures
