use mathlib.Core.Path.{refl, sym, ◌∙◌}
use native.Mathlib.Omega.{arith}
use Rattle.fields.proofs.Exits.{handed_on}
use Rattle.store.proofs.Checks.{walkable, laid-yes, laid-no}
use Rattle.store.proofs.Founds.{track-rows}
use Rattle.disk.proofs.Servings.{read-bad, read_none, read-rows, read_found}
use Rattle.disk.proofs.serve.read.Goals as goal

pub returns-in_err-tally : goal.returns-in_err-tally
returns-in_err-tally c =
    let bad = laid-no _ _ _ c.room_of.ensures.0 _ c.tally.ensures _ c.in_err-tally.was in
    rw (handed_on _ _ _ c.from_residual.ensures.1 refl, bad.1) (read-bad _ _ _ _ _ _ _ bad.0)

pub get_track-requires : goal.get_track-requires
get_track-requires c = walkable _ _ (laid-yes _ _ _ c.room_of.ensures.0 _ c.tally.ensures _ _ _ c.in_ok-tally.was)

pub rows_of-rows-requires : goal.rows_of-rows-requires
rows_of-rows-requires c =
    omega (arith, (track-rows _ _ _ _ _ _ _ (sym c.in-Some.is ∙ c.get_track.ensures) refl (walkable _ _ (laid-yes _ _ _ c.room_of.ensures.0 _ c.tally.ensures _ _ _ c.in_ok-tally.was))).0)

pub read_rows-requires : goal.read_rows-requires
read_rows-requires c =
    rw (c.rows_of-rows.ensures.start, c.rows_of-rows.ensures.first) (
    read-rows _ _ c.args.transfer.now _ _ c.args.eot c.args.id (laid-yes _ _ _ c.room_of.ensures.0 _ c.tally.ensures _ _ _ c.in_ok-tally.was) _ _ _ _
    (sym c.in-Some.is ∙ c.get_track.ensures) c.rows_of-rows.ensures.count (omega arith))

pub returns-in_default : goal.returns-in_default
returns-in_default c =
    read_none _ _ _ _ _ _ _ (laid-yes _ _ _ c.room_of.ensures.0 _ c.tally.ensures _ _ _ c.in_ok-tally.was) (sym c.in_default.is ∙ c.get_track.ensures)

pub returns : goal.returns
returns c =
    read_found _ _ _ _ _ _ _ (laid-yes _ _ _ c.room_of.ensures.0 _ c.tally.ensures _ _ _ c.in_ok-tally.was) _ _ _ _ (sym c.in-Some.is ∙ c.get_track.ensures)
    c.rows_of-rows.ensures.count _ _ (rw (c.rows_of-rows.ensures.start, c.rows_of-rows.ensures.first) at c.read_rows.ensures)
