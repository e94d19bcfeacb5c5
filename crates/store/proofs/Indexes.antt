-- The ID that a Read ID finds: what the search by index names in the table is what the model finds.
use mathlib.Core.Path.{◌≡◌, refl, sym, ap, subst, ◌∙◌}
use Prim.Native.Nat.{ℕ, zero, suc, ◌+◌, ◌*◌, ◌%◌, ◌≤◌, ◌<◌}
use native.Mathlib.Omega.{arith}
use native.Mathlib.Nat.{mod-lt}
use mathlib.Core.List.{List}
use mathlib.Core.Bool.{true, false}
use Rattle.fields.specs.Model.{Track}
use Rattle.fields.specs.Bytes.{byte_at}
use Rattle.tracks.specs.Block.{id_at, row_at}
use Rattle.fields.specs.declared.id.SectorId.{SectorId}
use Rattle.fields.specs.declared.refusal.Refusal.TheVariants.{BadStore}
use Rattle.store.specs.Find.{Found, find}
use Rattle.store.specs.Search.{is_track, turned_in, sector_by_index}
use Rattle.store.specs.Store.{tracks_at, count_at, disk_of, room_of, well_laid, table_length}
use Rattle.store.specs.Spots.{track_spot, turned, index_spot, Walkable, spot, turned_at}
use Rattle.store.specs.Calls.{named_of, id_by_index}
use Rattle.store.proofs.Founds.{track_at_spot, turned_of, find-track, track-in, track-rows, index-found}
use Rattle.store.proofs.Checks.{disk-bad, disk-good}
use Rattle.std.specs.Prelude.{Ok, Err, Option, Some, None}
use Rattle.store.specs.declared.find.Spot.{Spot}
use Rattle.store.specs.declared.find.Turned.{Turned}

-- a row by its index stands within its track
abbrev Within : Option Turned → ℕ → Type 0
Within None end = Unit {0}
Within (Some tu) end = tu.at < end

within : (t : List ℕ) (at i n : ℕ) → Within (turned t at i n) (at + 6 + 8 * n)
within t at i zero = tt
within t at i (suc n) = let h : i % suc n < suc n = mod-lt i (omega arith) in omega (arith, h)

-- the head of a track that was found stands in the table
pub track-near : (t : List ℕ) (side cylinder i at place : ℕ) → Walkable t → spot i at place ≡ track_spot t side cylinder 0 1 0 (byte_at t 0) → at + 6 ≤ table_length
track-near t side cylinder i at place w f = omega (arith, (track-in t side cylinder 0 1 0 (byte_at t 0) i at place (sym f)).0, w.ends)

-- and so does the row
pub row_near : (t : List ℕ) (side cylinder i k at place j a : ℕ) → Walkable t → spot k at place ≡ track_spot t side cylinder 0 1 0 (byte_at t 0) → turned_at j a ≡ index_spot t at i
    → a < 65536
row_near t side cylinder i k at place j a w f g =
    let h : a < at + 6 + 8 * count_at t at = subst (λ (y : Option Turned). Within y (at + 6 + 8 * count_at t at)) (sym g) (within t at i (count_at t at)) in
    omega (arith, h, (track-rows t side cylinder k at place (count_at t at) f refl w).0)

module _ (t b : List ℕ) (side cylinder i : ℕ) where
  pub id-bad : well_laid t (room_of b) ≡ false → Err BadStore ≡ id_by_index (disk_of t b) side cylinder i
  id-bad e = rw (disk-bad t b e)

  module _ (e : well_laid t (room_of b) ≡ true) where
    -- what is found, by where the search for the track ended
    id-is : (y : Option Spot) → y ≡ track_spot t side cylinder 0 1 0 (byte_at t 0) → id_by_index (disk_of t b) side cylinder i ≡ named_of (turned_in i (track_at_spot t b y))
    unfolding sector_by_index
    id-is y ey =
        let f : find (is_track side cylinder) (tracks_at t b 1 0 (byte_at t 0)) ≡ track_at_spot t b y =
        find-track t b side cylinder 0 1 0 (byte_at t 0) ∙ ap (track_at_spot t b) (sym ey) in
        rw (disk-good t b e) (ap (λ (z : Found Track). named_of (turned_in i z)) f)

    pub id-none : None ≡ track_spot t side cylinder 0 1 0 (byte_at t 0) → (Ok None) ≡ id_by_index (disk_of t b) side cylinder i
    unfolding track_at_spot
    id-none f = sym (id-is None f)

    module _ (k at place : ℕ) (f : spot k at place ≡ track_spot t side cylinder 0 1 0 (byte_at t 0)) where
      -- and by the row that the index stands for
      id-row : (y : Option Turned) → y ≡ index_spot t at i → id_by_index (disk_of t b) side cylinder i ≡ named_of (turned_of t b at place y)
      unfolding track_at_spot
      id-row y ey = id-is (spot k at place) f ∙ ap named_of (index-found t b at place i ∙ ap (turned_of t b at place) (sym ey))

      pub id-empty : None ≡ index_spot t at i → (Ok None) ≡ id_by_index (disk_of t b) side cylinder i
      id-empty g = sym (id-row None g)

      pub id-found : (j a : ℕ) (id : SectorId) → turned_at j a ≡ index_spot t at i → id ≡ id_at t a → Ok (Some id) ≡ id_by_index (disk_of t b) side cylinder i
      unfolding row_at
      id-found j a id g h = ap (λ (x : SectorId). Ok (Some x)) h ∙ sym (id-row (turned_at j a) g)
