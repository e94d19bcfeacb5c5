use mathlib.Core.Path.{◌≡◌, refl, ap}
use Prim.Native.Nat.{◌+◌, ◌≤◌}
use lib.ListN.{length, length-take, length-drop}
use Rattle.tracks.specs.declared.track.Row.{Row}
use native.Mathlib.Omega.{arith}
use Rattle.disk.proofs.Gathers.{gather-done, gather-never, gather-fits, gather-again, lent-over, row_inside, bytes_whole}
use Rattle.disk.proofs.serve.gather.Goals as goal
use Rattle.disk.proofs.serve.gather.Goals.{After-part}

-- the sector at hand finds room, and its bytes are all there
fits : (c : After-part) → c.loop-k.total + length c.part.result.now ≤ length c.loop-k.transfer
fits c =
    gather-fits _ _ _ _ _ _ _ _ c.requires _ _ _ c.loop-k.invariant c.loop-k-test.true _ refl _ c.get_sector.ensures _ _ _ c.in-Some.is _
    (ap (λ (r : Row). r.stored) c.row_at-stored.ensures) _ c.part.ensures

whole : (c : After-part) → length c.part.result.now ≡ c.row_at-stored.result.stored
whole c =
    bytes_whole _ _ _ _ _ c.requires.rows _ _ c.get_sector.ensures _ _ _ c.in-Some.is _ (ap (λ (r : Row). r.stored) c.row_at-stored.ensures) _ c.part.ensures

pub returns-in_default : goal.returns-in_default
returns-in_default c = absurd (gather-never _ _ _ _ _ _ _ _ c.requires _ _ _ c.loop-k.invariant c.loop-k-test.true _ refl _ c.get_sector.ensures c.in_default.is)

pub row_at-stored-requires : goal.row_at-stored-requires
row_at-stored-requires c = omega (arith, row_inside _ _ _ _ _ c.requires.rows _ _ c.get_sector.ensures _ _ _ c.in-Some.is)

pub copy_sector-requires : goal.copy_sector-requires
copy_sector-requires c = let f = fits (goal.at.copy_sector-requires c).After-part in simp (length-take, length-drop) (omega arith)

pub loop-k-preserved : goal.loop-k-preserved
loop-k-preserved c =
    let p = (goal.at.loop-k-preserved c).After-part in
    gather-again _ _ _ _ _ _ _ _ c.requires _ _ _ c.loop-k.invariant c.loop-k-test.true _ refl _ c.get_sector.ensures _ _ _ c.in-Some.is _
    (ap (λ (r : Row). r.stored) c.row_at-stored.ensures) _ c.part.ensures (whole p) _
    (lent-over _ _ _ _ (omega (arith, fits p)) c.copy_sector.ensures)

pub returns : goal.returns
returns c = gather-done _ _ _ _ _ _ _ _ c.requires _ _ _ c.loop-k.invariant c.loop-k-test.false
