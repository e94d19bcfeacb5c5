use mathlib.Core.Path.{refl, ap, ◌∙◌}
use Rattle.buffer.specs.Over.{over}
use Rattle.fields.specs.Model.{Track}
use Rattle.fields.proofs.Sizes.{size-2}
use Rattle.tracks.proofs.Numbering.{ids-numbered}
use Rattle.store.specs.Store.{contents}
use Rattle.loading.specs.Laying.{track_for}
use native.Mathlib.Omega.{arith}
use Rattle.loading.proofs.Lays.{fresh-laid}
use borrow.Author.Rules.{rules}
use Rattle.loading.proofs.lay.lay_fresh_track.Goals as goal

pub lay_formatted-requires : goal.lay_formatted-requires
lay_formatted-requires c = (search rules, (search rules, omega (arith, size-2)))

pub returns : goal.returns
returns c =
    let e = fresh-laid c.args.cylinder _ _ refl (ids-numbered _ _ _ _ _ _ c.number_ids.ensures) in (
      c.lay_formatted.ensures.0 ∙ ap (λ (x : Track). over c.args.table.now c.args.at (track_for x)) e,
      c.lay_formatted.ensures.1 ∙ ap (λ (x : Track). over c.args.bytes.now c.args.place (contents x.sectors)) e,
    )
