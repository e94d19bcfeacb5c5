use mathlib.Core.Path.{refl}
use native.Mathlib.Omega.{arith}
use Rattle.listing.proofs.Bounds.{totals-few, refusal-few}
use Rattle.listing.proofs.Listings.{told, listable, listed}
use Rattle.listing.proofs.listing.Goals as goal

pub put_refusal-requires : goal.put_refusal-requires
put_refusal-requires c = omega (arith, refusal-few c.in-Err.why)

pub returns-in-Err : goal.returns-in-Err
returns-in-Err c = told _ _ c.in-Err.ensures c.put_refusal.ensures

pub put_disk-at-requires : goal.put_disk-at-requires
put_disk-at-requires c = omega (arith, totals-few c.in-Ok.walk.kind c.in-Ok.totals)

pub put_tracks-requires : goal.put_tracks-requires
put_tracks-requires c =
    let s = c.in-Ok.ensures in
    listable _ s.short _ _ s.read s.tracks s.sectors (λ k. omega (arith, c.type_inv.input k)) _ _ c.put_disk-at.ensures.behind (omega arith)

pub returns-in-Ok : goal.returns-in-Ok
returns-in-Ok c =
    let s = c.in-Ok.ensures in
    told _ _ refl (listed _ s.short _ _ s.read s.tracks s.sectors (λ k. omega (arith, c.type_inv.input k)) (omega arith) c.put_disk-at.ensures c.put_tracks.ensures)
