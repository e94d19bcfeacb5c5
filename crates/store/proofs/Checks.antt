-- The check of a store: its loop, its answers, and what a good answer says.
use mathlib.Core.Path.{◌≡◌, refl, sym, ap, ◌∙◌}
use Prim.Native.Nat.{ℕ, ◌+◌, ◌-◌, ◌*◌, ◌≤◌, ◌<◌}
use native.Mathlib.Omega.{arith}
use mathlib.Core.List.{List}
use mathlib.Core.Bool.{Bool, true, false, ◌&&◌, cond}
use lib.ListN.{length}
use lib.Dec.{eqb, leb}
use borrow.Author.Tests.{eq-eqb, ne_eqb, le-leb, lt-leb, eqb-true, leb-true}
use Rattle.fields.specs.Bytes.{byte_at}
use Rattle.fields.proofs.Tests.{never, and-fst, and-snd}
use Rattle.fields.specs.Refusals.{need}
use Rattle.fields.specs.Model.{Disk}
use Rattle.fields.specs.declared.refusal.Refusal.TheVariants.{BadStore}
use Rattle.store.specs.Store.{table_length, room_of, sum_at, count_at, counts_at, bytes_at, tracks_at, well_laid, disk_of, transfer_room}
use Rattle.store.specs.Spots.{end_at, tally_of, Walkable, tallied}
use Rattle.store.proofs.Sums.{counts_step, bytes-step, end_step, counts-none, bytes-none, end_none, end_is, track-sum}
use Rattle.fields.specs.Capacities.{most_sectors, most_tracks, most_data, most_transfer}
use Rattle.std.specs.Prelude.{Result, Ok, Err}
use Rattle.fields.specs.declared.refusal.Refusal.{Refusal}
use Rattle.store.specs.declared.check.Tallied.{Tallied}
use Rattle.store.proofs.Same.{ok-same, one-less}

-- ---- a conjunction, part by part

-- a number v that was read, compared with b as its first part or its last
module _ (v a b : ℕ) (e : v ≡ a) where
  pub test-other : (y : Bool) → (v ≡ b → ⊥) → false ≡ (eqb a b && y)
  test-other y h = rw (← e) (simp (ne_eqb v b h))

  pub test-same : (y z : Bool) → v ≡ b → z ≡ y → z ≡ (eqb a b && y)
  test-same y z h q = rw (← e) (simp (eq-eqb v b h) q)

  pub test-last : eqb v b ≡ eqb a b
  test-last = ap (λ (n : ℕ). eqb n b) e

-- ---- a table that keeps the layout

-- what its test says
pub record Kept (t : List ℕ) (room : ℕ) : Type 0 where
  pub long : length t ≡ table_length
  pub tracks : byte_at t 0 ≤ most_tracks
  pub sectors : counts_at t 1 (byte_at t 0) ≤ most_sectors
  pub bytes : bytes_at t 1 (byte_at t 0) ≤ room

pub kept : (t : List ℕ) (room : ℕ) → well_laid t room ≡ true → Kept t room
unfolding well_laid
kept t room e =
    let few : Bool = leb (counts_at t 1 (byte_at t 0)) most_sectors in
    let small : Bool = leb (bytes_at t 1 (byte_at t 0)) room in
    let f = and-snd (eqb (length t) table_length) (leb (byte_at t 0) most_tracks && (few && small)) e in
    let g = and-snd (leb (byte_at t 0) most_tracks) (few && small) f in
    record {
      long = eqb-true _ _ (and-fst _ _ e);
      tracks = leb-true _ _ (and-fst _ _ f);
      sectors = leb-true _ _ (and-fst _ _ g);
      bytes = leb-true _ _ (and-snd few small g);
    }

pub well-laid : (t : List ℕ) (room : ℕ) → Kept t room → well_laid t room ≡ true
unfolding well_laid
well-laid t room l = simp (eq-eqb _ _ l.long, le-leb _ _ l.tracks, le-leb _ _ l.sectors, le-leb _ _ l.bytes)

-- a room is inside its buffer, and no more than the most
pub room_in : (b : List ℕ) → (room_of b ≤ length b) × (room_of b ≤ most_data)
unfolding room_of
room_in b = (omega arith, omega arith)

pub transfer-in : (x : List ℕ) → (transfer_room x ≤ length x) × (transfer_room x ≤ most_transfer)
unfolding transfer_room
transfer-in x = (omega arith, omega arith)

-- and can be walked
pub walkable : (t b : List ℕ) → well_laid t (room_of b) ≡ true → Walkable t
walkable t b e =
    let l = kept t (room_of b) e in
    record { long = l.long; ends = omega (arith, end_is t 1 (byte_at t 0)); total = omega (arith, room_in b) }

-- the disk that a store holds, by its check
pub disk-bad : (t b : List ℕ) → well_laid t (room_of b) ≡ false → disk_of t b ≡ Err BadStore
unfolding disk_of
disk-bad t b e = rw e

pub disk-good : (t b : List ℕ) → well_laid t (room_of b) ≡ true → disk_of t b ≡ Ok (tracks_at t b 1 0 (byte_at t 0))
unfolding disk_of
disk-good t b e = rw e

pub disk-told : (t b : List ℕ) (d : Disk) → disk_of t b ≡ Ok d → (well_laid t (room_of b) ≡ true) × (d ≡ tracks_at t b 1 0 (byte_at t 0))
unfolding disk_of
disk-told t b d e = told (well_laid t (room_of b)) e
  where
    told : (v : Bool) → need v BadStore (Ok (tracks_at t b 1 0 (byte_at t 0))) ≡ Ok d → (v ≡ true) × (d ≡ tracks_at t b 1 0 (byte_at t 0))
    told true q = (refl, cc)
    told false q = never (cc)

-- ---- the answers of `tally`

-- how much a table holds, and where its rows end
abbrev totals_of : List ℕ → Result Tallied Refusal
totals_of t = tallied (counts_at t 1 (byte_at t 0)) (bytes_at t 1 (byte_at t 0)) (end_at t 1 (byte_at t 0))

pub bad-length : (t : List ℕ) (room : ℕ) → (length t ≡ table_length → ⊥) → (Err BadStore) ≡ tally_of t room
unfolding tally_of well_laid
bad-length t room h = simp (ne_eqb _ _ h)

pub bad-tracks : (t : List ℕ) (room n : ℕ) → length t ≡ table_length → n ≡ byte_at t 0 → most_tracks < n → (Err BadStore) ≡ tally_of t room
unfolding tally_of well_laid
bad-tracks t room n l e h = let k : most_tracks < byte_at t 0 = omega arith in simp (eq-eqb _ _ l, lt-leb _ _ k)

bad-sectors : (t : List ℕ) (room : ℕ) → length t ≡ table_length → byte_at t 0 ≤ most_tracks → most_sectors < counts_at t 1 (byte_at t 0) → (Err BadStore) ≡ tally_of t room
unfolding tally_of well_laid
bad-sectors t room l k h = simp (eq-eqb _ _ l, le-leb _ _ k, lt-leb _ _ h)

bad-bytes : (t : List ℕ) (room : ℕ) → length t ≡ table_length → byte_at t 0 ≤ most_tracks → counts_at t 1 (byte_at t 0) ≤ most_sectors
    → room < bytes_at t 1 (byte_at t 0) → (Err BadStore) ≡ tally_of t room
unfolding tally_of well_laid
bad-bytes t room l k n h = simp (eq-eqb _ _ l, le-leb _ _ k, le-leb _ _ n, lt-leb _ _ h)

good-all : (t : List ℕ) (room : ℕ) → Kept t room → totals_of t ≡ tally_of t room
unfolding tally_of
good-all t room l = simp (well-laid t room l)

-- ---- its loop

-- what it knows at its head
pub record Tallying (t : List ℕ) (left at sectors bytes : ℕ) : Type 0 where
  pub long : length t ≡ table_length
  pub tracks : byte_at t 0 ≤ most_tracks
  pub inside : at + 6 * left + 8 * (most_sectors - sectors) ≤ table_length
  pub few : sectors ≤ most_sectors
  pub small : bytes ≤ 65535 * sectors
  pub counts : sectors + counts_at t at left ≡ counts_at t 1 (byte_at t 0)
  pub total : bytes + bytes_at t at left ≡ bytes_at t 1 (byte_at t 0)
  pub end : end_at t at left ≡ end_at t 1 (byte_at t 0)

module _ (t : List ℕ) where
  pub tally-start : (k : ℕ) → k ≡ byte_at t 0 → length t ≡ table_length → k ≤ most_tracks → Tallying t k 1 0 0
  tally-start k e l h = record {
    long = l;
    tracks = omega arith;
    inside = omega arith;
    few = omega arith;
    small = omega arith;
    counts = rw e (omega arith);
    total = rw e (omega arith);
    end = rw e;
  }

  module _ (left at sectors bytes : ℕ) (s : Tallying t left at sectors bytes) where
    pub tally-again : (n b : ℕ) → 0 < left → n ≡ count_at t at → sectors + n ≤ most_sectors → b ≡ sum_at t (at + 6) n → b ≤ 65535 * n
        → Tallying t (left - 1) (at + (6 + 8 * n)) (sectors + n) (bytes + b)
    tally-again n b h en few eb small = record {
      long = s.long;
      tracks = s.tracks;
      inside = omega arith;
      few = few;
      small = omega arith;
      counts = rw en (omega (arith, counts_step t at left h));
      total = rw (track-sum t at n b en eb, en) (omega (arith, bytes-step t at left h));
      end = rw en (omega (arith, end_step t at left h));
    }

    module _ (room : ℕ) where
      pub bad_more : (n : ℕ) → 0 < left → n ≡ count_at t at → most_sectors < sectors + n → (Err BadStore) ≡ tally_of t room
      bad_more n h e m = bad-sectors t room s.long s.tracks (omega (arith, counts_step t at left h))

      pub bad-end : left ≤ 0 → room < bytes → (Err BadStore) ≡ tally_of t room
      bad-end h m = bad-bytes t room s.long s.tracks (omega (arith, counts-none t at left h)) (omega (arith, bytes-none t at left h))

      pub good-end : left ≤ 0 → bytes ≤ room → tallied sectors bytes at ≡ tally_of t room
      good-end h m =
          let e : sectors ≡ counts_at t 1 (byte_at t 0) = omega (arith, counts-none t at left h) in
          let f : bytes ≡ bytes_at t 1 (byte_at t 0) = omega (arith, bytes-none t at left h) in
          let g : at ≡ end_at t 1 (byte_at t 0) = omega (arith, end_none t at left h) in
          let l : Kept t room = record { long = s.long; tracks = s.tracks; sectors = omega arith; bytes = omega arith } in
          cc (e, f, g, good-all t room l)

  -- the same of a loop that counts up to n
  pub tally-on : (n k at sectors bytes : ℕ) → Tallying t (n - k) at sectors bytes → (c b : ℕ) → k < n → c ≡ count_at t at → sectors + c ≤ most_sectors
      → b ≡ sum_at t (at + 6) c → b ≤ 65535 * c → Tallying t (n - (k + 1)) (at + (6 + 8 * c)) (sectors + c) (bytes + b)
  tally-on n k at sectors bytes s c b h ec few eb small =
      one-less (λ m. Tallying t m (at + (6 + 8 * c)) (sectors + c) (bytes + b)) n k
      (tally-again (n - k) at sectors bytes s c b (omega arith) ec few eb small)

-- ---- what an answer says, at the room that the code worked out

module _ (t b : List ℕ) (room : ℕ) (e : room ≡ room_of b) (r : Result Tallied Refusal) (s : r ≡ tally_of t room) where
  -- the test that the answer was made by
  tested : (x : Result Tallied Refusal) → r ≡ x → x ≡ cond (well_laid t (room_of b)) (totals_of t) (Err BadStore)
  unfolding tally_of
  tested x f = sym f ∙ s ∙ ap (tally_of t) e

  pub laid-no : (why : Refusal) → r ≡ Err why → (well_laid t (room_of b) ≡ false) × (why ≡ BadStore)
  laid-no why f = told (well_laid t (room_of b)) (tested (Err why) f)
    where
      told : (v : Bool) → Err why ≡ cond v (totals_of t) (Err BadStore) → (v ≡ false) × (why ≡ BadStore)
      told true q = never (cc)
      told false q = (refl, cc)

  pub laid-yes : (x y z : ℕ) → r ≡ tallied x y z → well_laid t (room_of b) ≡ true
  laid-yes x y z f = told (well_laid t (room_of b)) (tested (tallied x y z) f)
    where
      told : (v : Bool) → tallied x y z ≡ cond v (totals_of t) (Err BadStore) → v ≡ true
      told true q = refl
      told false q = never (cc)

  -- and so many bytes were counted
  pub laid-bytes : (x y z : ℕ) → r ≡ tallied x y z → y ≡ bytes_at t 1 (byte_at t 0)
  laid-bytes x y z f = told (well_laid t (room_of b)) (tested (tallied x y z) f)
    where
      told : (v : Bool) → tallied x y z ≡ cond v (totals_of t) (Err BadStore) → y ≡ bytes_at t 1 (byte_at t 0)
      told true q = ap (λ (x : Tallied). x.bytes) (ok-same _ _ q)
      told false q = never (cc)
