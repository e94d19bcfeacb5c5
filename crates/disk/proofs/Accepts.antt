-- Every store that a successful change leaves is accepted, and holds the disk that the change makes.
use mathlib.Core.Path.{◌≡◌, refl, ap, ◌∙◌}
use Prim.Native.Nat.{ℕ, ◌+◌, ◌≤◌}
use native.Mathlib.Omega.{arith}
use mathlib.Core.Bool.{Bool, true, false, cond}
use mathlib.Core.List.{List, [], ◌∷◌}
use lib.ListN.{length}
use lib.Dec.{leb}
use borrow.Author.Tests.{leb-true}
use Rattle.buffer.specs.Over.{over}
use Rattle.fields.specs.Refusals.{need, after}
use Rattle.fields.specs.Model.{Sector, Track, Disk, total, sector_count, byte_count}
use Rattle.fields.specs.declared.id.SectorId.{SectorId}
use Rattle.fields.specs.declared.refusal.Refusal.TheVariants.{NoRoom}
use Rattle.fields.proofs.Tests.{never}
use Rattle.store.specs.Store.{room_of, table_of, data_of, disk_of}
use Rattle.store.specs.Find.{Found, nothing, found}
use Rattle.store.specs.Search.{is_track, is_sector, sector_at, match_at}
use Rattle.store.specs.Calls.{outcome, laid_as, laid, fitting}
use Rattle.store.specs.declared.answer.Match.{Match}
use Rattle.store.proofs.Rounds.{laid-back}
use Rattle.store.proofs.Leaves.{fitting-accepted, fitting-left}
use Rattle.disk.specs.Change.{change, with_content, saved_in, saved, set_track}
use Rattle.disk.specs.Calls.{set_of, save_found, save_in, save_of, Altered}
use Rattle.disk.proofs.Holds.{fits}
use Rattle.disk.proofs.Cuts.{change-length}
use Rattle.std.specs.Prelude.{Result, Ok, Err, Some}
use Rattle.fields.specs.declared.refusal.Refusal.{Refusal}

-- ---- a save keeps the number of tracks and of sectors

-- a change that keeps a number of each element keeps their sum
change-total : {A : Type 0} (g : A → ℕ) (p : A → Bool) (f : A → A) → ((x : A) → g (f x) ≡ g x) → (xs : List A) → total g (change p f xs) ≡ total g xs
unfolding change total
change-total g p f h [] = refl
change-total g p f h (x ∷ xs) = told (p x) (change-total g p f h xs)
  where
    told : (v : Bool) → total g (change p f xs) ≡ total g xs → total g (cond v (f x ∷ xs) (x ∷ change p f xs)) ≡ g x + total g xs
    told true ih = ap (λ (n : ℕ). n + total g xs) (h x)
    told false ih = ap (λ (n : ℕ). g x + n) ih

module _ (side cylinder : ℕ) (id : SectorId) (new : List ℕ) (d : Disk) where
  pub saved-tracks : length (saved side cylinder id new d) ≡ length d
  unfolding saved
  saved-tracks = change-length (is_track side cylinder) (saved_in id new) d

  pub saved-sectors : sector_count (saved side cylinder id new d) ≡ sector_count d
  unfolding saved
  saved-sectors =
      change-total (λ (t : Track). length t.sectors) (is_track side cylinder) (saved_in id new) (λ t. change-length (is_sector id) (with_content new) t.sectors) d

-- ---- so the store is accepted

module _ (t b : List ℕ) (d : Disk) (e : disk_of t b ≡ Ok d) where
  pub format-accepted : (made new : Disk) → fitting (room_of b) made ≡ Ok new → disk_of (over t 0 (table_of new)) (over b 0 (data_of new)) ≡ Ok new
  format-accepted made new f = fitting-accepted t b (fits t b d e).long made new f

  pub save-accepted : (side cylinder : ℕ) (id : SectorId) (new : List ℕ) → byte_count (saved side cylinder id new d) ≤ room_of b
      → disk_of (over t 0 (table_of (saved side cylinder id new d))) (over b 0 (data_of (saved side cylinder id new d))) ≡ Ok (saved side cylinder id new d)
  save-accepted side cylinder id new h =
      let f = fits t b d e in
      laid-back t b (saved side cylinder id new d) f.long
      (omega (arith, saved-tracks side cylinder id new d, f.tracks))
      (omega (arith, saved-sectors side cylinder id new d, f.sectors))
      h

-- ---- what a call leaves

-- so of a store whose disk is known
pub altered-is : (f : Disk → Disk) (t b t' b' : List ℕ) (d : Disk) → disk_of t b ≡ Ok d → Altered f t b t' b' → disk_of t' b' ≡ Ok (f d)
altered-is f t b t' b' d e a =
    let p : a.before ≡ d = cc in
    a.holds ∙ ap (λ (x : Disk). Ok (f x)) p

module _ (t b t' b' : List ℕ) where
  -- A format that succeeds: the store was accepted, and the one that is left is accepted and holds the same disk with the track set.
  pub set-left : (side cylinder : ℕ) (new : Track) → set_of side cylinder new t b ≡ outcome (Ok tt) t' b' → Altered (set_track side cylinder new) t b t' b'
  unfolding set_of
  set-left side cylinder new e = told (disk_of t b) refl e
    where
      told : (r : Result Disk Refusal) → disk_of t b ≡ r → laid t b (after r (λ d. fitting (room_of b) (set_track side cylinder new d))) ≡ outcome (Ok tt) t' b'
          → Altered (set_track side cylinder new) t b t' b'
      told (Err why) h q = never (cc)
      told (Ok d) h q = record { before = d; held = h; holds = fitting-left t b (fits t b d h).long (set_track side cylinder new d) t' b' q }

  -- A save that is done: the store was accepted, and the one that is left is accepted and holds the same disk with the sector saved.
  pub save-left : (side cylinder : ℕ) (id : SectorId) (new : List ℕ) (m : Match) → save_of t b side cylinder id new ≡ outcome (Ok (Some m)) t' b'
      → Altered (saved side cylinder id new) t b t' b'
  unfolding save_of
  save-left side cylinder id new m e = told (disk_of t b) refl e
    where
      put : (k : Match) (d : Disk) → disk_of t b ≡ Ok d → (u v : Bool) → leb (byte_count (saved side cylinder id new d)) (room_of b) ≡ v
          → laid_as Err (Ok (Some k)) t b (need u NoRoom (need v NoRoom (Ok (saved side cylinder id new d)))) ≡ outcome (Ok (Some m)) t' b'
          → Altered (saved side cylinder id new) t b t' b'
      put k d h true true r q = record { before = d; held = h; holds = cc (save-accepted t b d h side cylinder id new (leb-true _ _ r)) }
      put k d h true false r q = never (cc)
      put k d h false v r q = never (cc)

      found? : (k : Match) (d : Disk) → disk_of t b ≡ Ok d → (s : Found Sector)
          → save_found t b (length new) k (saved side cylinder id new d) s ≡ outcome (Ok (Some m)) t' b'
          → Altered (saved side cylinder id new) t b t' b'
      found? k d h nothing q = never (cc)
      found? k d h (found i s) q = put k d h (leb (length new) 65535) (leb (byte_count (saved side cylinder id new d)) (room_of b)) refl q

      told : (r : Result Disk Refusal) → disk_of t b ≡ r → save_in t b side cylinder id new r ≡ outcome (Ok (Some m)) t' b' → Altered (saved side cylinder id new) t b t' b'
      told (Err why) h q = never (cc)
      told (Ok d) h q = found? (match_at d side cylinder id) d h (sector_at d side cylinder id) q
