-- The walks of the searches and of the geometry: what each knows at the head of its loop, and one turn of it.
use mathlib.Core.Path.{◌≡◌, refl, sym, ◌∙◌}
use Prim.Native.Nat.{ℕ, ◌+◌, ◌-◌, ◌*◌, ◌≤◌, ◌<◌, max}
use native.Mathlib.Omega.{arith}
use mathlib.Core.List.{List}
use mathlib.Core.Logic.{◌⊎◌, ⊎_elim}
use mathlib.Core.Bool.{true, false, cond}
use lib.Dec.{eqb}
use borrow.Author.Tests.{eq-eqb, ne_eqb}
use Rattle.fields.specs.Bytes.{byte_at}
use Rattle.tracks.specs.Block.{row_at}
use Rattle.fields.specs.declared.id.SectorId.{SectorId}
use Rattle.tracks.proofs.Tracks.{down}
use Rattle.store.specs.Store.{table_length, sum_at, count_at, next_at, track_sum, bytes_at}
use Rattle.store.specs.Spots.{end_at, track_here, track_spot, row_here, sector_spot, cylinders_at, Walkable, spot}
use Rattle.store.proofs.Sums.{down-none, sum_step, bytes-step, end_step, within, track-sum}
use Rattle.fields.specs.Capacities.{most_data}
use Rattle.std.specs.Prelude.{None}
use Rattle.store.specs.Calls.{two_sides}
use Rattle.store.proofs.Same.{one-less}

-- ---- tracks

module _ (t : List ℕ) (side cylinder i at place : ℕ) where
  track-step : (k : ℕ) → 0 < k → track_spot t side cylinder i at place k
      ≡ cond (track_here t side cylinder at) (spot i at place) (track_spot t side cylinder (i + 1) (next_at t at) (place + track_sum t at) (k - 1))
  unfolding track_spot
  track-step =
      down (λ k j. track_spot t side cylinder i at place k
      ≡ cond (track_here t side cylinder at) (spot i at place) (track_spot t side cylinder (i + 1) (next_at t at) (place + track_sum t at) j)) (λ k. refl)

  track-none : (k : ℕ) → k ≤ 0 → track_spot t side cylinder i at place k ≡ None
  unfolding track_spot
  track-none = down-none (λ k. track_spot t side cylinder i at place k ≡ None) refl

-- what the search for a track knows at its head
pub record TrackWalk (t : List ℕ) (side cylinder left index at place : ℕ) : Type 0 where
  pub ends : end_at t at left ≤ table_length
  pub total : place + bytes_at t at left ≤ most_data
  pub few : index + left < 256
  pub spot : track_spot t side cylinder index at place left ≡ track_spot t side cylinder 0 1 0 (byte_at t 0)

module _ (t : List ℕ) (side cylinder : ℕ) where
  pub track-start : (k : ℕ) → k ≡ byte_at t 0 → k < 256 → Walkable t → TrackWalk t side cylinder k 0 1 0
  track-start k e h w = record {
    ends = rw e w.ends;
    total = rw e (omega (arith, w.total));
    few = omega arith;
    spot = rw e;
  }

  module _ (left index at place : ℕ) (w : TrackWalk t side cylinder left index at place) where
    -- the track at hand ends inside the table, and its bytes among those that were counted
    pub track-inside : 0 < left → (next_at t at ≤ table_length) × (place + track_sum t at ≤ most_data)
    track-inside h = (within t at left table_length h w.ends, omega (arith, bytes-step t at left h, w.total))

    pub track-again : (n b : ℕ) → 0 < left → n ≡ count_at t at → b ≡ sum_at t (at + 6) n → track_here t side cylinder at ≡ false
        → TrackWalk t side cylinder (left - 1) (index + 1) (at + (6 + 8 * n)) (place + b)
    track-again n b h en eb f =
        let e : b ≡ track_sum t at = track-sum t at n b en eb in
        record {
          ends = rw en (omega (arith, end_step t at left h, w.ends));
          total = rw en (omega (arith, bytes-step t at left h, w.total));
          few = omega (arith, w.few);
          spot = rw (en, e) (sym (rw f at (track-step t side cylinder index at place left h)) ∙ w.spot);
        }

    pub track-found : 0 < left → track_here t side cylinder at ≡ true → spot index at place ≡ track_spot t side cylinder 0 1 0 (byte_at t 0)
    track-found h f = sym (rw f at (track-step t side cylinder index at place left h)) ∙ w.spot

    pub track-over : left ≤ 0 → None ≡ track_spot t side cylinder 0 1 0 (byte_at t 0)
    track-over h = sym (track-none t side cylinder index at place left h) ∙ w.spot

  -- a turn of a loop that counts up to n
  pub track-on : (n k index at place : ℕ) → TrackWalk t side cylinder (n - k) index at place → (c b : ℕ) → k < n → c ≡ count_at t at
      → b ≡ sum_at t (at + 6) c → track_here t side cylinder at ≡ false
      → TrackWalk t side cylinder (n - (k + 1)) (index + 1) (at + (6 + 8 * c)) (place + b)
  track-on n k index at place w c b h ec eb f =
      one-less (λ m. TrackWalk t side cylinder m (index + 1) (at + (6 + 8 * c)) (place + b)) n k
      (track-again (n - k) index at place w c b (omega arith) ec eb f)

-- ---- rows

module _ (t : List ℕ) (id : SectorId) (i at place : ℕ) where
  row_step : (k : ℕ) → 0 < k → sector_spot t id i at place k
      ≡ cond (row_here t id at) (spot i at place) (sector_spot t id (i + 1) (at + 8) (place + (row_at t at).stored) (k - 1))
  unfolding sector_spot
  row_step =
      down (λ k j. sector_spot t id i at place k
      ≡ cond (row_here t id at) (spot i at place) (sector_spot t id (i + 1) (at + 8) (place + (row_at t at).stored) j)) (λ k. refl)

  row-none : (k : ℕ) → k ≤ 0 → sector_spot t id i at place k ≡ None
  unfolding sector_spot
  row-none = down-none (λ k. sector_spot t id i at place k ≡ None) refl

-- what the search for a row knows at its head
pub record RowWalk (t : List ℕ) (id : SectorId) (start first count left index at place : ℕ) : Type 0 where
  pub ends : at + 8 * left ≤ table_length
  pub total : place + sum_at t at left ≤ most_data
  pub few : index + left < 256
  pub spot : sector_spot t id index at place left ≡ sector_spot t id 0 start first count

module _ (t : List ℕ) (id : SectorId) (start first count : ℕ) where
  pub row-start : (start + 8 * count ≤ table_length) × ((count < 256) × (first + sum_at t start count ≤ most_data))
      → RowWalk t id start first count count 0 start first
  row-start h = record { ends = h.0; total = h.1.1; few = omega arith; spot = refl }

  module _ (left index at place : ℕ) (w : RowWalk t id start first count left index at place) where
    -- the row at hand has its bytes among those that were counted
    pub row_inside : 0 < left → place + (row_at t at).stored ≤ most_data
    row_inside h = omega (arith, sum_step t at left h, w.total)

    pub row-again : (v : ℕ) → 0 < left → v ≡ (row_at t at).stored → row_here t id at ≡ false
        → RowWalk t id start first count (left - 1) (index + 1) (at + 8) (place + v)
    row-again v h e f = record {
      ends = omega (arith, w.ends);
      total = omega (arith, sum_step t at left h, w.total);
      few = omega (arith, w.few);
      spot = rw e (sym (rw f at (row_step t id index at place left h)) ∙ w.spot);
    }

    pub row-found : 0 < left → row_here t id at ≡ true → spot index at place ≡ sector_spot t id 0 start first count
    row-found h f = sym (rw f at (row_step t id index at place left h)) ∙ w.spot

    pub row-over : left ≤ 0 → None ≡ sector_spot t id 0 start first count
    row-over h = sym (row-none t id index at place left h) ∙ w.spot

  -- a turn of a loop that counts up to n
  pub row-on : (n k index at place : ℕ) → RowWalk t id start first count (n - k) index at place → (v : ℕ) → k < n → v ≡ (row_at t at).stored
      → row_here t id at ≡ false → RowWalk t id start first count (n - (k + 1)) (index + 1) (at + 8) (place + v)
  row-on n k index at place w v h e f =
      one-less (λ m. RowWalk t id start first count m (index + 1) (at + 8) (place + v)) n k
      (row-again (n - k) index at place w v (omega arith) e f)

-- ---- cylinders

module _ (t : List ℕ) (c0 c1 at : ℕ) where
  cylinder-step : (k : ℕ) → 0 < k → cylinders_at t c0 c1 at k
      ≡ cond (eqb (byte_at t (at + 1)) 0) (cylinders_at t (max c0 (byte_at t at)) c1 (next_at t at) (k - 1))
      (cylinders_at t c0 (max c1 (byte_at t at)) (next_at t at) (k - 1))
  unfolding cylinders_at
  cylinder-step =
      down (λ k j. cylinders_at t c0 c1 at k
      ≡ cond (eqb (byte_at t (at + 1)) 0) (cylinders_at t (max c0 (byte_at t at)) c1 (next_at t at) j)
      (cylinders_at t c0 (max c1 (byte_at t at)) (next_at t at) j)) (λ k. refl)

  cylinder-none : (k : ℕ) → k ≤ 0 → cylinders_at t c0 c1 at k ≡ two_sides c0 c1
  unfolding cylinders_at
  cylinder-none = down-none (λ k. cylinders_at t c0 c1 at k ≡ two_sides c0 c1) refl

-- what the loop of `cylinders` knows at its head
pub record CylinderWalk (t : List ℕ) (left at c0 c1 : ℕ) : Type 0 where
  pub ends : end_at t at left ≤ table_length
  pub low0 : c0 < 256
  pub low1 : c1 < 256
  pub rest : cylinders_at t c0 c1 at left ≡ cylinders_at t 0 0 1 (byte_at t 0)

module _ (t : List ℕ) where
  pub cylinder-start : (k : ℕ) → k ≡ byte_at t 0 → Walkable t → CylinderWalk t k 1 0 0
  cylinder-start k e w = record { ends = rw e w.ends; low0 = omega arith; low1 = omega arith; rest = rw e }

  module _ (left at c0 c1 : ℕ) (w : CylinderWalk t left at c0 c1) where
    -- the track at hand ends inside the table
    pub cylinder-inside : 0 < left → next_at t at ≤ table_length
    cylinder-inside h = within t at left table_length h w.ends

    module _ (h : 0 < left) (x s n d0 d1 : ℕ) (ex : x ≡ byte_at t at) (lx : x < 256) (es : s ≡ byte_at t (at + 1)) (en : n ≡ count_at t at) where
      past : d0 < 256 → d1 < 256 → cylinders_at t c0 c1 at left ≡ cylinders_at t d0 d1 (next_at t at) (left - 1)
          → CylinderWalk t (left - 1) (at + (6 + 8 * n)) d0 d1
      past l0 l1 e = record { ends = rw en (omega (arith, end_step t at left h, w.ends)); low0 = l0; low1 = l1; rest = rw en (sym e ∙ w.rest) }

      -- a track of side 0 or of another side is passed; d0 and d1 are the greatest after it
      pub cylinder-again : ((s ≡ 0) × ((d0 ≡ max c0 x) × (d1 ≡ c1))) ⊎ ((s ≡ 0 → ⊥) × ((d0 ≡ c0) × (d1 ≡ max c1 x)))
          → CylinderWalk t (left - 1) (at + (6 + 8 * n)) d0 d1
      cylinder-again =
          ⊎_elim
          (λ k.
          let y : byte_at t (at + 1) ≡ 0 = sym es ∙ k.0 in
          past (omega (arith, w.low0)) (omega (arith, w.low1)) (rw (k.1.0, k.1.1, ex) (rw (eq-eqb _ _ y) at (cylinder-step t c0 c1 at left h))))
          (λ k.
          let y : byte_at t (at + 1) ≡ 0 → ⊥ = λ q. k.0 (es ∙ q) in
          past (omega (arith, w.low0)) (omega (arith, w.low1)) (rw (k.1.0, k.1.1, ex) (rw (ne_eqb _ _ y) at (cylinder-step t c0 c1 at left h))))

    pub cylinder-over : left ≤ 0 → two_sides c0 c1 ≡ cylinders_at t 0 0 1 (byte_at t 0)
    cylinder-over h = sym (cylinder-none t c0 c1 at left h) ∙ w.rest

  -- a turn of a loop that counts up to n
  module _ (n k at c0 c1 : ℕ) (w : CylinderWalk t (n - k) at c0 c1) (h : k < n) where
    pub cylinder-on : (x s c d0 d1 : ℕ) → x ≡ byte_at t at → x < 256 → s ≡ byte_at t (at + 1) → c ≡ count_at t at
        → ((s ≡ 0) × ((d0 ≡ max c0 x) × (d1 ≡ c1))) ⊎ ((s ≡ 0 → ⊥) × ((d0 ≡ c0) × (d1 ≡ max c1 x)))
        → CylinderWalk t (n - (k + 1)) (at + (6 + 8 * c)) d0 d1
    cylinder-on x s c d0 d1 ex lx es en r =
        one-less (λ m. CylinderWalk t m (at + (6 + 8 * c)) d0 d1) n k
        (cylinder-again (n - k) at c0 c1 w (omega arith) x s c d0 d1 ex lx es en r)
