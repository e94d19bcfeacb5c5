use native.Mathlib.Omega.{arith}
use Rattle.std.proofs.Common.{sym, refl, ◌∙◌}
use Rattle.store.proofs.Founds.{track-rows, track-row, no-track}
use Rattle.store.proofs.find.find_sector.Goals as goal

pub returns-in_err-track : goal.returns-in_err-track
returns-in_err-track c = rw c.from_residual.ensures (no-track _ _ _ _ (sym c.in_err-track.was ∙ c.get_track.ensures))

pub rows_of-requires : goal.rows_of-requires
rows_of-requires c = omega (arith, (track-rows _ _ _ _ _ _ _ (sym c.in_ok-track.was ∙ c.get_track.ensures) refl c.requires).0)

pub first_sector-requires : goal.first_sector-requires
first_sector-requires c =
    let h = track-rows _ _ _ _ _ _ _ (sym c.in_ok-track.was ∙ c.get_track.ensures) c.rows_of.ensures.count c.requires in
    rw (c.rows_of.ensures.first, c.rows_of.ensures.start) h.1

pub returns : goal.returns
returns c =
    track-row _ _ _ _ _ _ _ (sym c.in_ok-track.was ∙ c.get_track.ensures) c.rows_of.ensures.count _ _
    (rw (c.rows_of.ensures.start, c.rows_of.ensures.first) at c.first_sector.ensures)
