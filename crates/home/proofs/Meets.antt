-- The pass that measures: what its loop knows, and its answers.
use mathlib.Core.Path.{◌≡◌, refl, sym, ap, ◌∙◌}
use Prim.Native.Nat.{ℕ, ◌+◌, ◌-◌, ◌*◌, ◌≤◌, ◌<◌}
use native.Mathlib.Omega.{arith}
use mathlib.Core.List.{List}
use mathlib.Core.Bool.{Bool, true, false, cond}
use lib.ListN.{length}
use Rattle.fields.specs.Bytes.{byte_at}
use Rattle.fields.specs.Capacities.{most_sectors, most_tracks}
use Rattle.fields.proofs.Tests.{never}
use Rattle.tracks.proofs.Tracks.{down}
use Rattle.store.specs.Store.{table_length, sum_at, count_at, next_at, track_sum, counts_at, bytes_at, well_laid}
use Rattle.store.specs.Spots.{end_at, tally_of, tallied}
use Rattle.store.proofs.Sums.{down-none, track-sum}
use Rattle.store.proofs.Checks.{Tallying, tally-again, bad-length, bad-tracks, bad_more, bad-end, good-end}
use Rattle.home.specs.Passes.{met_none, met_with, met_at, measured_of, Modest}
use Rattle.home.specs.declared.measure.Met.{Met}
use Rattle.fields.specs.declared.refusal.Refusal.TheVariants.{BadStore}
use Rattle.home.proofs.Sizes.{units-up}
use Rattle.std.specs.Prelude.{Ok, Err}

-- ---- its answers, by the check of a store

module _ (t : List ℕ) (room : ℕ) where
  -- the test behind the check's answer
  laid-false : (Err BadStore) ≡ tally_of t room → well_laid t room ≡ false
  unfolding tally_of
  laid-false e = told (well_laid t room) e
    where
      told : (v : Bool) → (Err BadStore) ≡ cond v (tallied (counts_at t 1 (byte_at t 0)) (bytes_at t 1 (byte_at t 0)) (end_at t 1 (byte_at t 0))) (Err BadStore) → v ≡ false
      told true q = never (cc)
      told false q = refl

  laid-true : (x y z : ℕ) → tallied x y z ≡ tally_of t room → well_laid t room ≡ true
  unfolding tally_of
  laid-true x y z e = told (well_laid t room) e
    where
      told : (v : Bool) → tallied x y z
          ≡ cond v (tallied (counts_at t 1 (byte_at t 0)) (bytes_at t 1 (byte_at t 0)) (end_at t 1 (byte_at t 0))) (Err BadStore) → v ≡ true
      told true q = refl
      told false q = never (cc)

  -- a store that breaks the layout, and one that keeps it
  measured-bad : (Err BadStore) ≡ tally_of t room → ((Err BadStore) ≡ measured_of t room) × Modest (Err BadStore)
  unfolding measured_of
  measured-bad e = (rw (laid-false e) refl, tt)

  measured-good : (x y z : ℕ) (m : Met) → tallied x y z ≡ tally_of t room → m ≡ met_at t met_none 1 (byte_at t 0) → Ok m ≡ measured_of t room
  unfolding measured_of
  measured-good x y z m e f = rw (laid-true x y z e) (ap Ok f)

  pub measured-length : (length t ≡ table_length → ⊥) → ((Err BadStore) ≡ measured_of t room) × Modest (Err BadStore)
  measured-length h = measured-bad (bad-length t room h)

  pub measured-tracks : (n : ℕ) → length t ≡ table_length → n ≡ byte_at t 0 → most_tracks < n → ((Err BadStore) ≡ measured_of t room) × Modest (Err BadStore)
  measured-tracks n l e h = measured-bad (bad-tracks t room n l e h)

-- ---- its loop

-- one track, and none
pub met-step : (t : List ℕ) (m : Met) (at k : ℕ) → 0 < k
    → met_at t m at k ≡ met_at t (met_with m (byte_at t at) (byte_at t (at + 1)) (count_at t at) (track_sum t at)) (next_at t at) (k - 1)
unfolding met_at
met-step t m at =
    down (λ k j. met_at t m at k ≡ met_at t (met_with m (byte_at t at) (byte_at t (at + 1)) (count_at t at) (track_sum t at)) (next_at t at) j) (λ k. refl)

pub met-none : (t : List ℕ) (m : Met) (at k : ℕ) → k ≤ 0 → met_at t m at k ≡ m
unfolding met_at
met-none t m at = down-none (λ k. met_at t m at k ≡ m) refl

-- what it knows at its head
pub record Meeting (t : List ℕ) (left at sectors bytes : ℕ) (m : Met) : Type 0 where
  pub tally : Tallying t left at sectors bytes
  pub few : left ≤ 204
  pub met : met_at t m at left ≡ met_at t met_none 1 (byte_at t 0)
  pub wide : m.cylinders ≤ 256
  pub long : m.long ≤ 256 + 512 * (204 - left) + bytes

-- one more track is no longer than its bytes and two units, and has its cylinder
met-long : (m : Met) (c s n b : ℕ) → (met_with m c s n b).long ≤ m.long + 512 + b
unfolding met_with
met-long m c s n b = omega (arith, units-up b)

met-wide : (m : Met) (c s n b : ℕ) → m.cylinders ≤ 256 → c < 256 → (met_with m c s n b).cylinders ≤ 256
unfolding met_with
met-wide m c s n b h k = omega arith

module _ (t : List ℕ) where
  module _ (left at sectors bytes : ℕ) (m : Met) (s : Meeting t left at sectors bytes m) where
    pub meet-again : (n b c e : ℕ) (m' : Met) → 0 < left → n ≡ count_at t at → sectors + n ≤ most_sectors → b ≡ sum_at t (at + 6) n → b ≤ 65535 * n
        → c ≡ byte_at t at → c < 256 → e ≡ byte_at t (at + 1) → m' ≡ met_with m c e n b → (left' : ℕ) → left' ≡ left - 1
        → Meeting t left' (at + (6 + 8 * n)) (sectors + n) (bytes + b) m'
    meet-again n b c e m' h en few eb small ec wide ee em left' el =
        let sum : b ≡ track_sum t at = track-sum t at n b en eb in
        let with : m' ≡ met_with m (byte_at t at) (byte_at t (at + 1)) (count_at t at) (track_sum t at) = em ∙ (λ i. met_with m (ec i) (ee i) (en i) (sum i)) in
        let next : at + (6 + 8 * n) ≡ next_at t at = ap (λ (k : ℕ). at + (6 + 8 * k)) en in
        let longer : m'.long ≤ m.long + 512 + b = rw em (met-long m c e n b) in
        rw el (record {
          tally = tally-again t left at sectors bytes s.tally n b h en few eb small;
          few = omega (arith, s.few);
          met = (λ i. met_at t (with i) (next i) (left - 1)) ∙ sym (met-step t m at left h) ∙ s.met;
          wide = rw em (met-wide m c e n b s.wide wide);
          long = omega (arith, s.long, s.few);
        })

    module _ (room : ℕ) where
      pub measured-more : (n : ℕ) → 0 < left → n ≡ count_at t at → most_sectors < sectors + n → ((Err BadStore) ≡ measured_of t room) × Modest (Err BadStore)
      measured-more n h e k = measured-bad t room (bad_more t left at sectors bytes s.tally room n h e k)

      pub measured-over : left ≤ 0 → room < bytes → ((Err BadStore) ≡ measured_of t room) × Modest (Err BadStore)
      measured-over h k = measured-bad t room (bad-end t left at sectors bytes s.tally room h k)

      pub measured-all : left ≤ 0 → bytes ≤ room → (Ok m ≡ measured_of t room) × Modest (Ok m)
      measured-all h k =
          let g = good-end t left at sectors bytes s.tally room h k in
          let small : bytes ≤ 65535 * 2048 = omega (arith, s.tally.small, s.tally.few) in
          (measured-good t room sectors bytes at m g (sym (met-none t m at left h) ∙ s.met), (s.wide, omega (arith, s.long)))
