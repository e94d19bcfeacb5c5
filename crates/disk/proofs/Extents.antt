-- Reading: how far a read goes, and what it lays in the transfer buffer.
use mathlib.Core.Path.{◌≡◌, refl, sym, ap, ◌∙◌}
use Prim.Native.Nat.{ℕ, zero, suc, ◌+◌, ◌-◌, ◌*◌, ◌≤◌, ◌<◌}
use native.Mathlib.Omega.{arith}
use mathlib.Core.List.{List}
use mathlib.Core.Bool.{true, false, cond}
use Rattle.tracks.specs.Block.{row_at}
use Rattle.fields.specs.declared.id.SectorId.{SectorId}
use Rattle.tracks.proofs.Tracks.{down}
use Rattle.store.specs.Find.{Found, nothing, found}
use Rattle.store.specs.Search.{numbered}
use Rattle.store.specs.Spots.{row_here}
use Rattle.disk.specs.Serving.{row_first, more, extent_from}
use Rattle.disk.specs.declared.serve.Extent.{Extent}

-- ---- the first row with an ID

first_step : (t : List ℕ) (id : SectorId) (at k : ℕ) → 0 < k → row_first t id at k ≡ cond (row_here t id at) (found 0 at) (row_first t id (at + 8) (k - 1))
unfolding row_first
first_step t id at = down (λ k j. row_first t id at k ≡ cond (row_here t id at) (found 0 at) (row_first t id (at + 8) j)) (λ k. refl)

first-none : (t : List ℕ) (id : SectorId) (at k : ℕ) → k ≤ 0 → row_first t id at k ≡ nothing
unfolding row_first
first-none t id at zero h = refl
first-none t id at (suc k) h = absurd (omega arith)

-- ---- how far a read goes

extent-step : (t : List ℕ) (id : SectorId) (start count r k : ℕ) → 0 < k
    → extent_from t id start count r k ≡ more t (row_first t (numbered id r) start count) (extent_from t id start count (r + 1) (k - 1))
unfolding extent_from
extent-step t id start count r =
    down (λ k j. extent_from t id start count r k ≡ more t (row_first t (numbered id r) start count) (extent_from t id start count (r + 1) j)) (λ k. refl)

-- so many sectors and bytes, and what is found behind them
abbrev pub plus : ℕ → ℕ → Extent → Extent
plus s m e = record { sectors = s + e.sectors; total = m + e.total }

-- what the loop over the numbers knows at its head
pub record Measured (t : List ℕ) (id : SectorId) (start count last r sectors total : ℕ) : Type 0 where
  pub few : sectors + id.r ≤ r
  pub small : total ≤ 65535 * sectors
  pub pending : plus sectors total (extent_from t id start count r (last + 1 - r)) ≡ extent_from t id start count id.r (suc (last - id.r))

-- and what the loop over the rows knows at its head
pub record Sought (t : List ℕ) (id : SectorId) (start count last r sectors total k : ℕ) : Type 0 where
  pub measured : Measured t id start count last r sectors total
  pub first : row_first t (numbered id r) (start + 8 * k) (count - k) ≡ row_first t (numbered id r) start count

module _ (t : List ℕ) (id : SectorId) (start count last : ℕ) where
  module _ (r sectors total : ℕ) where
    -- all numbers are done
    pub measure-done : Measured t id start count last r sectors total → last < r
        → record { sectors = sectors; total = total } ≡ extent_from t id start count id.r (suc (last - id.r))
    unfolding extent_from
    measure-done m h =
        let q : last + 1 - r ≡ 0 = omega arith in
        let p : plus sectors total (extent_from t id start count r 0) ≡ extent_from t id start count id.r (suc (last - id.r)) = rw q at m.pending in
        let x : sectors + 0 ≡ sectors = omega arith in
        let y : total + 0 ≡ total = omega arith in
        (λ i. record { sectors = sym x i; total = sym y i }) ∙ p

    module _ (k : ℕ) (s : Sought t id start count last r sectors total k) where
      -- the row at hand, before those behind it
      here : k < count → row_first t (numbered id r) (start + 8 * k) (count - k)
          ≡ cond (row_here t (numbered id r) (start + 8 * k)) (found 0 (start + 8 * k)) (row_first t (numbered id r) (start + 8 * (k + 1)) (count - (k + 1)))
      here h =
          let p : 0 < count - k = omega arith in
          let q : count - k - 1 ≡ count - (k + 1) = omega arith in
          let n : start + 8 * k + 8 ≡ start + 8 * (k + 1) = omega arith in
          rw (← n, ← q) (first_step t (numbered id r) (start + 8 * k) (count - k) p)

      pub seek-again : k < count → row_here t (numbered id r) (start + 8 * k) ≡ false → Sought t id start count last r sectors total (k + 1)
      seek-again h f = record { measured = s.measured; first = sym (rw f at (here h)) ∙ s.first }

      module _ (l : r ≤ last) where
        -- one number of an extent, by its row
        number_is : (x : Found ℕ) → row_first t (numbered id r) (start + 8 * k) (count - k) ≡ x
            → extent_from t id start count r (last + 1 - r) ≡ more t x (extent_from t id start count (r + 1) (last + 1 - (r + 1)))
        number_is x e =
            let p : 0 < last + 1 - r = omega arith in
            let q : last + 1 - r - 1 ≡ last + 1 - (r + 1) = omega arith in
            let f : row_first t (numbered id r) start count ≡ x = sym s.first ∙ e in
            extent-step t id start count r (last + 1 - r) p
            ∙ (λ i. more t (f i) (extent_from t id start count (r + 1) (q i)))

        pub number-found : k < count → row_here t (numbered id r) (start + 8 * k) ≡ true → (v : ℕ) → v ≡ (row_at t (start + 8 * k)).stored → v < 65536
            → Measured t id start count last (r + 1) (sectors + 1) (total + v)
        number-found h f v ev w =
            let m = s.measured in
            let at : ℕ = start + 8 * k in
            let e : Extent = extent_from t id start count (r + 1) (last + 1 - (r + 1)) in
            let g : row_first t (numbered id r) at (count - k) ≡ found 0 at = rw f at (here h) in
            let x : sectors + 1 + e.sectors ≡ sectors + (e.sectors + 1) = omega arith in
            let y : total + v + e.total ≡ total + ((row_at t at).stored + e.total) = omega arith in
            record {
              few = omega (arith, m.few);
              small = omega (arith, m.small);
              pending = (λ i. record { sectors = x i; total = y i }) ∙ ap (plus sectors total) (sym (number_is (found 0 at) g)) ∙ m.pending;
            }

        pub number-none : count ≤ k → record { sectors = sectors; total = total } ≡ extent_from t id start count id.r (suc (last - id.r))
        number-none h =
            let g : row_first t (numbered id r) (start + 8 * k) (count - k) ≡ nothing = first-none t (numbered id r) (start + 8 * k) (count - k) (omega arith) in
            let x : sectors ≡ sectors + 0 = omega arith in
            let y : total ≡ total + 0 = omega arith in
            (λ i. record { sectors = x i; total = y i }) ∙ ap (plus sectors total) (sym (number_is nothing g)) ∙ s.measured.pending
