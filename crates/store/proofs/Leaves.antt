-- What the capacities allow; a call that lays a disk which they allow leaves a store that is accepted and holds it.
use mathlib.Core.Path.{◌≡◌, refl, sym}
use Prim.Native.Nat.{ℕ, ◌≤◌}
use mathlib.Core.List.{List}
use lib.ListN.{length}
use lib.Dec.{leb}
use borrow.Author.Tests.{leb-true}
use Rattle.buffer.specs.Over.{over}
use Rattle.fields.specs.Capacities.{most_tracks, most_sectors}
use Rattle.fields.specs.Model.{Disk, sector_count, byte_count}
use Rattle.fields.proofs.Tests.{never, need-good}
use Rattle.store.specs.Store.{table_length, room_of, table_of, data_of, disk_of}
use Rattle.store.specs.Calls.{outcome, laid, within, fitting}
use Rattle.store.proofs.Rounds.{laid-back}
use Rattle.std.specs.Prelude.{Result, Ok, Err}
use Rattle.fields.specs.declared.refusal.Refusal.{Refusal}

-- ---- what the capacities allow

pub record Allowed (room : ℕ) (d : Disk) : Type 0 where
  pub tracks : length d ≤ most_tracks
  pub sectors : sector_count d ≤ most_sectors
  pub bytes : byte_count d ≤ room

pub fitting-good : (room : ℕ) (d new : Disk) → fitting room d ≡ Ok new → (d ≡ new) × Allowed room d
unfolding within
fitting-good room d new e =
    let a = need-good (leb (length d) most_tracks) _ _ new e in
    let b = need-good (leb (sector_count d) most_sectors) _ _ new a.1 in
    let c = need-good (leb (byte_count d) room) _ _ new b.1 in
    (cc c.1, record { tracks = leb-true _ _ a.0; sectors = leb-true _ _ b.0; bytes = leb-true _ _ c.0 })

-- ---- so the store is accepted

module _ (t b : List ℕ) (long : length t ≡ table_length) (made : Disk) where
  pub fitting-accepted : (new : Disk) → fitting (room_of b) made ≡ Ok new → disk_of (over t 0 (table_of new)) (over b 0 (data_of new)) ≡ Ok new
  fitting-accepted new f =
      let w = fitting-good (room_of b) made new f in
      let s = w.1 in
      rw (sym w.0) (laid-back t b made long s.tracks s.sectors s.bytes)

  -- A call that lays a disk where the capacities allow it, and has succeeded: the store that it leaves is accepted, and holds that disk.
  pub fitting-left : (t' b' : List ℕ) → laid t b (fitting (room_of b) made) ≡ outcome (Ok tt) t' b' → disk_of t' b' ≡ Ok made
  fitting-left t' b' e = told (fitting (room_of b) made) refl e
    where
      told : (r : Result Disk Refusal) → fitting (room_of b) made ≡ r → laid t b r ≡ outcome (Ok tt) t' b' → disk_of t' b' ≡ Ok made
      told (Err why) f q = never (cc)
      told (Ok new) f q = cc ((fitting-good (room_of b) made new f).0, fitting-accepted new f)
