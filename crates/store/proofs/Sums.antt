-- Sums over rows and tracks: one step of each walk, and the loop that sums the stored lengths.
use mathlib.Core.Path.{◌≡◌, refl, ap, ◌∙◌}
use Prim.Native.Nat.{ℕ, zero, suc, ◌+◌, ◌-◌, ◌*◌, ◌≤◌, ◌<◌}
use native.Mathlib.Omega.{arith}
use mathlib.Core.List.{List}
use Rattle.tracks.specs.Block.{row_at}
use Rattle.tracks.proofs.Tracks.{down}
use Rattle.store.specs.Store.{table_length, sum_at, count_at, next_at, track_sum, counts_at, bytes_at}
use Rattle.store.specs.Spots.{end_at}

-- what a definition that counts down answers where nothing is left
pub down-none : (P : ℕ → Type 0) → P 0 → (k : ℕ) → k ≤ 0 → P k
down-none P p zero h = p
down-none P p (suc k) h = absurd (omega arith)

module _ (t : List ℕ) (at : ℕ) where
  -- one row, and one track
  pub sum_step : (k : ℕ) → 0 < k → sum_at t at k ≡ (row_at t at).stored + sum_at t (at + 8) (k - 1)
  unfolding sum_at
  sum_step = down (λ k j. sum_at t at k ≡ (row_at t at).stored + sum_at t (at + 8) j) (λ k. refl)

  pub counts_step : (k : ℕ) → 0 < k → counts_at t at k ≡ count_at t at + counts_at t (next_at t at) (k - 1)
  unfolding counts_at
  counts_step = down (λ k j. counts_at t at k ≡ count_at t at + counts_at t (next_at t at) j) (λ k. refl)

  pub bytes-step : (k : ℕ) → 0 < k → bytes_at t at k ≡ track_sum t at + bytes_at t (next_at t at) (k - 1)
  unfolding bytes_at
  bytes-step = down (λ k j. bytes_at t at k ≡ track_sum t at + bytes_at t (next_at t at) j) (λ k. refl)

  pub end_step : (k : ℕ) → 0 < k → end_at t at k ≡ end_at t (next_at t at) (k - 1)
  unfolding end_at
  end_step = down (λ k j. end_at t at k ≡ end_at t (next_at t at) j) (λ k. refl)

  -- no row, and no track
  pub sum-none : (k : ℕ) → k ≤ 0 → sum_at t at k ≡ 0
  unfolding sum_at
  sum-none = down-none (λ k. sum_at t at k ≡ 0) refl

  pub counts-none : (k : ℕ) → k ≤ 0 → counts_at t at k ≡ 0
  unfolding counts_at
  counts-none = down-none (λ k. counts_at t at k ≡ 0) refl

  pub bytes-none : (k : ℕ) → k ≤ 0 → bytes_at t at k ≡ 0
  unfolding bytes_at
  bytes-none = down-none (λ k. bytes_at t at k ≡ 0) refl

  pub end_none : (k : ℕ) → k ≤ 0 → end_at t at k ≡ at
  unfolding end_at
  end_none = down-none (λ k. end_at t at k ≡ at) refl

-- where so many tracks end
pub end_is : (t : List ℕ) (at k : ℕ) → end_at t at k ≡ at + 6 * k + 8 * counts_at t at k
unfolding end_at counts_at
end_is t at zero = omega arith
end_is t at (suc k) = omega (arith, end_is t (next_at t at) k)

-- a walk that ends before n has its first track before n
pub within : (t : List ℕ) (at k n : ℕ) → 0 < k → end_at t at k ≤ n → next_at t at ≤ n
within t at k n h e = omega (arith, end_is t at k, counts_step t at k h)

-- the stored lengths of the track at a place, its count read before
pub track-sum : (t : List ℕ) (at n b : ℕ) → n ≡ count_at t at → b ≡ sum_at t (at + 6) n → b ≡ track_sum t at
track-sum t at n b en eb = eb ∙ ap (sum_at t (at + 6)) en

-- ---- the loop of `rows_len`

-- what it knows at its head
pub record Summed (t : List ℕ) (start count sum k : ℕ) : Type 0 where
  pub inside : start + 8 * count ≤ table_length
  pub few : k ≤ count
  pub small : sum ≤ 65535 * k
  pub rest : sum + sum_at t (start + 8 * k) (count - k) ≡ sum_at t start count

module _ (t : List ℕ) (start count : ℕ) where
  pub sum-start : start + 8 * count ≤ table_length → Summed t start count 0 0
  sum-start h =
      let e : start + 8 * 0 ≡ start = omega arith in
      let f : count - 0 ≡ count = omega arith in
      record { inside = h; few = omega arith; small = omega arith; rest = rw (e, f) (omega arith) }

  module _ (sum k : ℕ) (s : Summed t start count sum k) where
    pub sum-again : (v : ℕ) → k < count → v ≡ (row_at t (start + 8 * k)).stored → v < 65536 → Summed t start count (sum + v) (k + 1)
    sum-again v h e l =
        let p : start + 8 * k + 8 ≡ start + 8 * (k + 1) = omega arith in
        let q : count - k - 1 ≡ count - (k + 1) = omega arith in
        let more : 0 < count - k = omega arith in
        let z : sum_at t (start + 8 * k) (count - k) ≡ v + sum_at t (start + 8 * (k + 1)) (count - (k + 1)) =
        rw (e, ← p, ← q) (sum_step t (start + 8 * k) (count - k) more) in
        record { inside = s.inside; few = omega arith; small = omega (arith, s.small); rest = omega (arith, s.rest) }

    pub sum_done : count ≤ k → (sum ≡ sum_at t start count) × (sum ≤ 65535 * count)
    sum_done h = (omega (arith, s.rest, sum-none t (start + 8 * k) (count - k) (omega arith)), omega (arith, s.small, s.few))
