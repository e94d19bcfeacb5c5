use native.Mathlib.Omega.{arith}
use Rattle.std.proofs.Common.{sym, ap, ap₂, ◌∙◌, ◌+◌, ℕ, Err}
use Rattle.fields.proofs.Exits.{handed_on}
use Rattle.tracks.specs.declared.track.Row.{Row}
use Rattle.store.specs.Spots.{part}
use Rattle.store.proofs.Checks.{laid-yes, laid-no, laid-bytes, walkable, room_in}
use Rattle.store.proofs.Founds.{place-bad, place_found, hit-inside}
use Rattle.store.proofs.find.locate.Goals as goal

pub returns-in_err-held : goal.returns-in_err-held
returns-in_err-held c =
    let bad = laid-no _ _ _ c.room_of.ensures.0 _ c.tally.ensures _ c.in_err-held.was in
    handed_on _ _ _ c.from_residual.ensures.1 (ap Err bad.1 ∙ place-bad _ _ _ _ _ bad.0)

pub find_sector-requires : goal.find_sector-requires
find_sector-requires c = walkable _ _ (laid-yes _ _ _ c.room_of.ensures.0 _ c.tally.ensures _ _ _ c.in_ok-held.was)

pub row_at-requires : goal.row_at-requires
row_at-requires c =
    let laid = laid-yes _ _ _ c.room_of.ensures.0 _ c.tally.ensures _ _ _ c.in_ok-held.was in
    omega (arith, hit-inside _ _ _ _ _ laid _ _ _ (sym c.in-Some.is ∙ c.find_sector.ensures), walkable _ _ laid)

pub overflow_add-to : goal.overflow_add-to
overflow_add-to c =
    let p = hit-inside _ _ _ _ _ (laid-yes _ _ _ c.room_of.ensures.0 _ c.tally.ensures _ _ _ c.in_ok-held.was) _ _ _ (sym c.in-Some.is ∙ c.find_sector.ensures) in
    omega (arith, p, room_in c.args.bytes.now, ap (λ (r : Row). r.stored) c.row_at.ensures)

pub returns-in_default : goal.returns-in_default
returns-in_default c = place_found _ _ _ _ _ _ (laid-yes _ _ _ c.room_of.ensures.0 _ c.tally.ensures _ _ _ c.in_ok-held.was) (sym c.in_default.is ∙ c.find_sector.ensures)

pub returns : goal.returns
returns c =
    let all = laid-bytes _ _ _ c.room_of.ensures.0 _ c.tally.ensures _ _ _ c.in_ok-held.was in
    ap₂ (λ (n m : ℕ). part c.in-Some.hit.which c.in-Some.hit.row c.in-Some.hit.from (c.in-Some.hit.from + n) m) (ap (λ (r : Row). r.stored) c.row_at.ensures) all
    ∙ place_found _ _ _ _ _ _ (laid-yes _ _ _ c.room_of.ensures.0 _ c.tally.ensures _ _ _ c.in_ok-held.was) (sym c.in-Some.is ∙ c.find_sector.ensures)
