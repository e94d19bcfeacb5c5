-- How many rows bear an ID: the loop that counts them, and that those before the first match are none.
use mathlib.Core.Path.{◌≡◌, refl, sym, ap, ◌∙◌}
use Prim.Native.Nat.{ℕ, zero, suc, ◌+◌, ◌-◌, ◌*◌, ◌≤◌, ◌<◌}
use native.Mathlib.Omega.{arith}
use mathlib.Core.List.{List}
use mathlib.Core.Bool.{Bool, true, false, cond}
use Rattle.fields.specs.Model.{total}
use Rattle.fields.proofs.Tests.{never}
use Rattle.tracks.specs.Block.{row_at}
use Rattle.tracks.proofs.Tracks.{down}
use Rattle.fields.specs.declared.id.SectorId.{SectorId}
use Rattle.store.specs.Search.{bearing}
use Rattle.store.specs.Store.{table_length, sectors_at}
use Rattle.store.specs.Spots.{row_here, sector_spot, bearing_at, hit_of, row_hit, hit_at, spot}
use Rattle.store.proofs.Sums.{down-none}
use Rattle.std.specs.Prelude.{None}
use Rattle.store.specs.declared.find.Spot.{Spot}
use Rattle.store.proofs.Same.{some-same}

-- as many rows bear an ID as sectors
pub bearing-is : (t b : List ℕ) (id : SectorId) (at place k : ℕ) → bearing_at t id at k ≡ bearing id (sectors_at t b at place k)
unfolding bearing_at sectors_at total row_at
bearing-is t b id at place zero = refl
bearing-is t b id at place (suc k) =
    ap (λ (n : ℕ). cond (row_here t id at) 1 0 + n) (bearing-is t b id (at + 8) (place + (row_at t at).stored) k)

-- no more than there are
pub bearing-few : (t : List ℕ) (id : SectorId) (at k : ℕ) → bearing_at t id at k ≤ k
unfolding bearing_at
bearing-few t id at zero = omega arith
bearing-few t id at (suc k) = told (row_here t id at) (bearing-few t id (at + 8) k)
  where
    told : (v : Bool) → bearing_at t id (at + 8) k ≤ k → cond v 1 0 + bearing_at t id (at + 8) k ≤ suc k
    told true h = omega arith
    told false h = omega arith

-- ---- the loop of `bearing`

module _ (t : List ℕ) (id : SectorId) (at : ℕ) where
  bearing-step : (k : ℕ) → 0 < k → bearing_at t id at k ≡ cond (row_here t id at) 1 0 + bearing_at t id (at + 8) (k - 1)
  unfolding bearing_at
  bearing-step = down (λ k j. bearing_at t id at k ≡ cond (row_here t id at) 1 0 + bearing_at t id (at + 8) j) (λ k. refl)

  bearing-none : (k : ℕ) → k ≤ 0 → bearing_at t id at k ≡ 0
  unfolding bearing_at
  bearing-none = down-none (λ k. bearing_at t id at k ≡ 0) refl

-- what it knows at its head
pub record BearingWalk (t : List ℕ) (id : SectorId) (start count found k : ℕ) : Type 0 where
  pub inside : start + 8 * count ≤ table_length
  pub few : found ≤ k
  pub rest : found + bearing_at t id (start + 8 * k) (count - k) ≡ bearing_at t id start count

module _ (t : List ℕ) (id : SectorId) (start count : ℕ) where
  pub count-start : start + 8 * count ≤ table_length → BearingWalk t id start count 0 0
  count-start h =
      let e : start + 8 * 0 ≡ start = omega arith in
      let f : count - 0 ≡ count = omega arith in
      record { inside = h; few = omega arith; rest = rw (e, f) (omega arith) }

  module _ (found k : ℕ) (s : BearingWalk t id start count found k) where
    -- a row that bears the ID is counted, and one that does not is not
    pub count-again : (v : Bool) (n : ℕ) → k < count → row_here t id (start + 8 * k) ≡ v → n ≡ found + cond v 1 0
        → BearingWalk t id start count n (k + 1)
    count-again v n h e f = told v e f
      where
        p : start + 8 * k + 8 ≡ start + 8 * (k + 1)
        p = omega arith

        q : count - k - 1 ≡ count - (k + 1)
        q = omega arith

        step : bearing_at t id (start + 8 * k) (count - k)
            ≡ cond (row_here t id (start + 8 * k)) 1 0 + bearing_at t id (start + 8 * (k + 1)) (count - (k + 1))
        step = rw (← p, ← q) (bearing-step t id (start + 8 * k) (count - k) (omega arith))

        told : (w : Bool) → row_here t id (start + 8 * k) ≡ w → n ≡ found + cond w 1 0 → BearingWalk t id start count n (k + 1)
        told true y g = let z = rw y at step in record { inside = s.inside; few = omega (arith, s.few); rest = omega (arith, s.rest) }
        told false y g = let z = rw y at step in record { inside = s.inside; few = omega (arith, s.few); rest = omega (arith, s.rest) }

    pub count-done : k ≤ count → count ≤ k → (found ≡ bearing_at t id start count) × (found ≤ count)
    count-done l h = (omega (arith, s.rest, bearing-none t id (start + 8 * k) (count - k) (omega arith)), omega (arith, s.few))

-- ---- the first match

-- where a row is the first match: how far it is from the first row, that it bears the ID, and that none before it does
pub record FirstHere (t : List ℕ) (id : SectorId) (i at k j a : ℕ) : Type 0 where
  pub from : i ≤ j
  pub below : j < i + k
  pub stands : a + 8 * (i + k - j) ≡ at + 8 * k
  pub here : row_here t id a ≡ true
  pub bears : bearing_at t id at k ≡ bearing_at t id a (i + k - j)

module _ (t : List ℕ) (id : SectorId) where
  pub reached : (i at place k j a p : ℕ) → sector_spot t id i at place k ≡ spot j a p → FirstHere t id i at k j a
  unfolding sector_spot bearing_at
  reached i at place zero j a p e = never (cc)
  reached i at place (suc k) j a p e =
      told (row_here t id at) refl e (reached (i + 1) (at + 8) (place + (row_at t at).stored) k j a p)
    where
      told : (h : Bool) → row_here t id at ≡ h → cond h (spot i at place) (sector_spot t id (i + 1) (at + 8) (place + (row_at t at).stored) k) ≡ spot j a p
          → (sector_spot t id (i + 1) (at + 8) (place + (row_at t at).stored) k ≡ spot j a p → FirstHere t id (i + 1) (at + 8) k j a)
          → FirstHere t id i at (suc k) j a
      told true f q r =
          let ea : a ≡ at = sym (ap (λ (x : Spot). x.at) (some-same _ _ q)) in
          let ej : j ≡ i = sym (ap (λ (x : Spot). x.index) (some-same _ _ q)) in
          let n : i + suc k - i ≡ suc k = omega arith in
          rw (ea, ej) (record { from = omega arith; below = omega arith; stands = rw n; here = f; bears = rw n })
      told false f q r =
          let w = r q in
          let n : i + 1 + k - j ≡ i + suc k - j = omega arith in
          let z : bearing_at t id at (suc k) ≡ bearing_at t id (at + 8) k = rw f (omega arith) in
          record {
            from = omega (arith, w.from);
            below = omega (arith, w.below);
            stands = omega (arith, w.stands, w.below);
            here = w.here;
            bears = z ∙ w.bears ∙ ap (bearing_at t id a) n;
          }

  -- ---- what `first_sector` answers

  module _ (start first count : ℕ) where
    pub hit-none : None ≡ sector_spot t id 0 start first count → None ≡ row_hit t id start first count
    unfolding row_hit
    hit-none e = ap (hit_of (bearing_at t id start count)) e

    module _ (i a p : ℕ) (e : spot i a p ≡ sector_spot t id 0 start first count) where
      -- it is one of the rows, and the others follow it
      pub hit-row : (i < count) × (a + 8 * (count - i) ≡ start + 8 * count)
      hit-row = let w = reached 0 start first count i a p (sym e) in (omega (arith, w.below), omega (arith, w.stands))

      pub hit-found : (n : ℕ) → n ≡ bearing_at t id (a + 8) (count - i - 1)
          → hit_at (record { place = i + 1; count = n + 1 }) a p ≡ row_hit t id start first count
      unfolding row_hit
      hit-found n f =
          let w = reached 0 start first count i a p (sym e) in
          let k : 0 + count - i ≡ count - i = omega arith in
          let z = rw w.here at (bearing-step t id a (count - i) (omega (arith, w.below))) in
          let y = rw k at w.bears in
          let m : n + 1 ≡ bearing_at t id start count = omega (arith, f, y, z) in
          rw m (ap (hit_of (bearing_at t id start count)) e)
