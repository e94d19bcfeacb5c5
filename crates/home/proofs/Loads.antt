-- What comes home is what was there: the image of a disk that a store holds loads as that disk.
use mathlib.Core.Path.{◌≡◌, refl}
use Prim.Native.Nat.{ℕ, ◌≤◌}
use mathlib.Core.List.{List}
use mathlib.Core.Bool.{false}
use lib.ListN.{length}
use borrow.Author.Tests.{eq-eqb, le-leb}
use Rattle.buffer.specs.Over.{over}
use Rattle.fields.specs.Model.{Disk, byte_count}
use Rattle.store.specs.Store.{table_length, room_of, table_of, data_of, disk_of}
use Rattle.store.specs.Calls.{outcome, within, load_of}
use Rattle.store.proofs.Rounds.{laid-back}
use Rattle.disk.proofs.Holds.{fits}
use Rattle.home.specs.Home.{image_for, unwritable, home_of}
use Rattle.home.specs.Calls.{image_in}
use Rattle.home.proofs.Homes.{home-back}
use Rattle.std.specs.Prelude.{Ok}

module _ (t b : List ℕ) (d : Disk) (holds : disk_of t b ≡ Ok d) (can : unwritable d ≡ false) where
  -- the image that is written
  pub image-is : image_in t b ≡ Ok (image_for d)
  unfolding image_in home_of
  image-is = rw (holds, can) refl

  -- loaded into any store with room for the disk's bytes, whatever that held before
  module _ (t' b' : List ℕ) (long : length t' ≡ table_length) (room : byte_count d ≤ room_of b') where
    pub home-loads : load_of (image_for d) t' b' ≡ outcome (Ok tt) (over t' 0 (table_of d)) (over b' 0 (data_of d))
    unfolding load_of within
    home-loads =
        let f = fits t b d holds in
        rw (eq-eqb _ _ long, home-back d can, le-leb _ _ f.tracks, le-leb _ _ f.sectors, le-leb _ _ room) refl

    pub home-holds : disk_of (over t' 0 (table_of d)) (over b' 0 (data_of d)) ≡ Ok d
    home-holds = let f = fits t b d holds in laid-back t' b' d long f.tracks f.sectors room
