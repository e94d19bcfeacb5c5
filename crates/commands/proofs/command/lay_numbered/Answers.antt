use mathlib.Core.Path.{◌∙◌}
use Rattle.tracks.proofs.Numbering.{ids-numbered}
use Rattle.commands.proofs.Effects.{track-numbered}
use Rattle.commands.proofs.command.lay_numbered.Goals as goal

pub returns : goal.returns
returns c =
    c.lay_track.ensures
    ∙ track-numbered c.args.command c.args.cylinder _ _ c.args.table.now c.args.bytes.now _ c.head_of.ensures c.shape_of.ensures
    (ids-numbered _ _ _ _ _ _ c.number_ids.ensures)
