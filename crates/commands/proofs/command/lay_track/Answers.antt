use mathlib.Core.Path.{ap, ◌∙◌}
use Prim.Native.Nat.{ℕ}
use Rattle.tracks.specs.Rows.{ids_at}
use Rattle.store.specs.Fresh.{formatted}
use Rattle.disk.specs.Calls.{set_of}
use Rattle.commands.proofs.command.lay_track.Goals as goal

pub returns : goal.returns
returns c =
    c.set_track.ensures
    ∙ ap (λ (h : ℕ). set_of h c.args.cylinder (formatted c.args.cylinder h c.args.shape.size c.args.shape.gap c.args.shape.filler (ids_at c.args.ids.now 0 c.args.shape.sectors)) c.args.table.now c.args.bytes.now)
    c.head_of.ensures
