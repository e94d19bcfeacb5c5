-- The store that a successful load or fresh format leaves is accepted, and holds the disk that the definition says.
use mathlib.Core.Path.{◌≡◌, refl}
use Prim.Native.Nat.{ℕ}
use mathlib.Core.Bool.{Bool, true, false}
use mathlib.Core.List.{List}
use lib.ListN.{length}
use lib.Dec.{eqb}
use borrow.Author.Tests.{eqb-true}
use Rattle.fields.specs.Refusals.{need, after}
use Rattle.fields.specs.Model.{Disk}
use Rattle.fields.specs.declared.refusal.Refusal.TheVariants.{BadStore}
use Rattle.fields.proofs.Tests.{never}
use Rattle.image.specs.Dsk.{Dsk, dsk_of}
use Rattle.store.specs.Store.{table_length, room_of, disk_of}
use Rattle.store.specs.Fresh.{fresh}
use Rattle.store.specs.Calls.{outcome, laid, fitting, load_of, fresh_of, Loaded}
use Rattle.store.proofs.Leaves.{fitting-left}
use Rattle.std.specs.Prelude.{Result, Ok, Err}
use Rattle.fields.specs.declared.refusal.Refusal.{Refusal}

module _ (t b t' b' : List ℕ) where
  -- a success has passed the test of the table's length
  needed : (r : Result Disk Refusal) → laid t b (need (eqb (length t) table_length) BadStore r) ≡ outcome (Ok tt) t' b'
      → (length t ≡ table_length) × (laid t b r ≡ outcome (Ok tt) t' b')
  needed r e = told (eqb (length t) table_length) refl e
    where
      told : (v : Bool) → eqb (length t) table_length ≡ v → laid t b (need v BadStore r) ≡ outcome (Ok tt) t' b'
          → (length t ≡ table_length) × (laid t b r ≡ outcome (Ok tt) t' b')
      told true p q = (eqb-true _ _ p, q)
      told false p q = never (cc)

  -- A load that succeeds: the bytes are an image, and the store that is left is accepted and holds its disk.
  pub load-left : (image : List ℕ) → load_of image t b ≡ outcome (Ok tt) t' b' → Loaded image t' b'
  unfolding load_of
  load-left image e = let n = needed (after (dsk_of image) (λ d. fitting (room_of b) d.disk)) e in told n.0 (dsk_of image) refl n.1
    where
      told : length t ≡ table_length → (r : Result Dsk Refusal) → dsk_of image ≡ r → laid t b (after r (λ d. fitting (room_of b) d.disk)) ≡ outcome (Ok tt) t' b'
          → Loaded image t' b'
      told l (Err why) p q = never (cc)
      told l (Ok d) p q = record { dsk = d; read = p; holds = fitting-left t b l d.disk t' b' q }

  -- A fresh format that succeeds: the store that is left is accepted and holds the fresh disk.
  pub fresh-left : fresh_of t b ≡ outcome (Ok tt) t' b' → disk_of t' b' ≡ Ok fresh
  unfolding fresh_of
  fresh-left e = let n = needed (fitting (room_of b) fresh) e in fitting-left t b n.0 fresh t' b' n.1
