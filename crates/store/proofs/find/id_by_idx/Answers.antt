use native.Mathlib.Omega.{arith}
use Rattle.std.proofs.Common.{sym, ap, ◌∙◌, Err}
use Rattle.fields.proofs.Exits.{handed_on}
use Rattle.store.proofs.Checks.{laid-yes, laid-no, walkable}
use Rattle.store.proofs.Indexes.{track-near, row_near, id-bad, id-none, id-empty, id-found}
use Rattle.store.proofs.find.id_by_idx.Goals as goal

pub returns-in_err-tally : goal.returns-in_err-tally
returns-in_err-tally c =
    let bad = laid-no _ _ _ c.room_of.ensures.0 _ c.tally.ensures _ c.in_err-tally.was in
    handed_on _ _ _ c.from_residual.ensures.1 (ap Err bad.1 ∙ id-bad _ _ _ _ _ bad.0)

pub get_track-requires : goal.get_track-requires
get_track-requires c = walkable _ _ (laid-yes _ _ _ c.room_of.ensures.0 _ c.tally.ensures _ _ _ c.in_ok-tally.was)

pub returns-in_default : goal.returns-in_default
returns-in_default c = id-none _ _ _ _ _ (laid-yes _ _ _ c.room_of.ensures.0 _ c.tally.ensures _ _ _ c.in_ok-tally.was) (sym c.in_default.is ∙ c.get_track.ensures)

pub get_sector_by_idx-requires : goal.get_sector_by_idx-requires
get_sector_by_idx-requires c = omega (arith, track-near _ _ _ _ _ _ (walkable _ _ (laid-yes _ _ _ c.room_of.ensures.0 _ c.tally.ensures _ _ _ c.in_ok-tally.was)) (sym c.in-Some.is ∙ c.get_track.ensures))

pub returns-in_default-get_sector_by_idx : goal.returns-in_default-get_sector_by_idx
returns-in_default-get_sector_by_idx c =
    id-empty _ _ _ _ _ (laid-yes _ _ _ c.room_of.ensures.0 _ c.tally.ensures _ _ _ c.in_ok-tally.was) _ _ _ (sym c.in-Some.is ∙ c.get_track.ensures) (sym c.in_default-get_sector_by_idx.is ∙ c.get_sector_by_idx.ensures)

pub id_at-requires : goal.id_at-requires
id_at-requires c =
    row_near _ _ _ _ _ _ _ _ _ (walkable _ _ (laid-yes _ _ _ c.room_of.ensures.0 _ c.tally.ensures _ _ _ c.in_ok-tally.was)) (sym c.in-Some.is ∙ c.get_track.ensures)
    (sym c.in-Some-get_sector_by_idx.is ∙ c.get_sector_by_idx.ensures)

pub returns : goal.returns
returns c =
    id-found _ _ _ _ _ (laid-yes _ _ _ c.room_of.ensures.0 _ c.tally.ensures _ _ _ c.in_ok-tally.was) _ _ _ (sym c.in-Some.is ∙ c.get_track.ensures) _ _ _
    (sym c.in-Some-get_sector_by_idx.is ∙ c.get_sector_by_idx.ensures) c.id_at.ensures
