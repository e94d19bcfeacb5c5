-- What the pass that measures tells of a store: the shape of its disk's image, or why there is none.
use mathlib.Core.Path.{◌≡◌, refl, sym, ap, ◌∙◌}
use Prim.Native.Nat.{ℕ, ◌+◌, ◌≤◌}
use native.Mathlib.Omega.{arith}
use mathlib.Core.List.{List}
use mathlib.Core.Bool.{Bool, true, false, not, cond}
use lib.ListN.{length}
use Rattle.fields.specs.Bytes.{byte_at}
use Rattle.fields.specs.Refusals.{need, after}
use Rattle.fields.specs.Model.{Disk}
use Rattle.fields.proofs.Tests.{never}
use Rattle.fields.specs.declared.refusal.Refusal.{Refusal}
use Rattle.fields.specs.declared.refusal.Refusal.TheVariants.{BadStore, NoImage}
use Rattle.store.specs.Store.{room_of, bytes_at, well_laid, disk_of}
use Rattle.store.proofs.Checks.{kept, room_in, disk-bad, disk-good}
use Rattle.home.specs.Home.{image_for, unwritable, home_of}
use Rattle.home.specs.Calls.{image_in, extent_of}
use Rattle.home.specs.Passes.{met_none, met_at, measured_of, Modest, shape_by, shape_of, shape_if, shaped_as, disk_at, Outbound}
use Rattle.home.specs.declared.measure.Met.{Met}
use Rattle.home.specs.declared.measure.Shape.{Shape}
use Rattle.home.proofs.Shapes.{met-disk, shape-disk}
use Rattle.std.specs.Prelude.{Result, Ok, Err}

-- ---- what `measure` answered

module _ (t b : List ℕ) (room : ℕ) (e : room ≡ room_of b) (r : Result Met Refusal) (s : (r ≡ measured_of t room) × Modest r) where
  -- the test that the answer was made by
  tested : (x : Result Met Refusal) → r ≡ x → x ≡ cond (well_laid t (room_of b)) (Ok (met_at t met_none 1 (byte_at t 0))) (Err BadStore)
  unfolding measured_of
  tested x f = sym f ∙ s.0 ∙ ap (measured_of t) e

  pub judged-bad : (why : Refusal) → r ≡ Err why → Err why ≡ shaped_as (disk_of t b)
  judged-bad why f = told (well_laid t (room_of b)) refl (tested (Err why) f)
    where
      told : (v : Bool) → well_laid t (room_of b) ≡ v → Err why ≡ cond v (Ok (met_at t met_none 1 (byte_at t 0))) (Err BadStore)
          → Err why ≡ shaped_as (disk_of t b)
      told true w q = never (cc)
      told false w q = let e : why ≡ BadStore = cc in ap Err e ∙ ap shaped_as (sym (disk-bad t b w))

  module _ (m : Met) (f : r ≡ Ok m) where
    pub judged-good : (x : Result Shape Refusal) → x ≡ shape_by m → x ≡ shaped_as (disk_of t b)
    judged-good x g = told (well_laid t (room_of b)) refl (tested (Ok m) f)
      where
        told : (v : Bool) → well_laid t (room_of b) ≡ v → Ok m ≡ cond v (Ok (met_at t met_none 1 (byte_at t 0))) (Err BadStore) → x ≡ shaped_as (disk_of t b)
        told false w q = never (cc)
        told true w q =
            let n : m ≡ met_at t met_none 1 (byte_at t 0) = cc in
            let inside : 0 + bytes_at t 1 (byte_at t 0) ≤ length b = omega (arith, (kept t (room_of b) w).bytes, room_in b) in
            g ∙ ap shape_by (n ∙ met-disk t b met_none 1 0 (byte_at t 0) inside) ∙ shape-disk (disk_at t b) ∙ ap shaped_as (sym (disk-good t b w))

-- ---- what `judge` answered

module _ (t b : List ℕ) (r : Result Shape Refusal) (e : r ≡ shaped_as (disk_of t b)) where
  -- there is no image, and why
  pub image-refused : (why : Refusal) → r ≡ Err why → image_in t b ≡ Err why
  unfolding image_in
  image-refused why f = told (disk_of t b) (sym e ∙ f)
    where
      none : (v : Bool) (d : Disk) → shape_if v d ≡ Err why → need (not v) NoImage (Ok (image_for d)) ≡ Err why
      none true d q = cc
      none false d q = never (cc)

      told : (x : Result Disk Refusal) → shaped_as x ≡ Err why → after x home_of ≡ Err why
      told (Err w) q = cc
      told (Ok d) q = unfold home_of in none (unwritable d) d q

  -- there is one, and this is its shape
  pub image-shaped : (s : Shape) → r ≡ Ok s → Outbound t b s × (image_in t b ≡ Ok (image_for (disk_at t b)))
  unfolding image_in home_of
  image-shaped s f = laid (well_laid t (room_of b)) refl
    where
      laid : (v : Bool) → well_laid t (room_of b) ≡ v → Outbound t b s × (after (disk_of t b) home_of ≡ Ok (image_for (disk_at t b)))
      laid false w = never (let q : Err BadStore ≡ Ok s = ap shaped_as (sym (disk-bad t b w)) ∙ sym e ∙ f in cc)
      laid true w = can (unwritable (disk_at t b)) refl (ap shaped_as (sym (disk-good t b w)) ∙ sym e ∙ f)
        where
          can : (v : Bool) → unwritable (disk_at t b) ≡ v → shape_if v (disk_at t b) ≡ Ok s
              → Outbound t b s × (after (disk_of t b) home_of ≡ Ok (image_for (disk_at t b)))
          can true u q = never (cc)
          can false u q =
              let same : shape_of (disk_at t b) ≡ s = cc in
              (record { laid = w; can = u; shape = sym same }, rw (disk-good t b w, u) refl)

  -- how long it is
  pub extent-refused : (why : Refusal) → r ≡ Err why → Err why ≡ extent_of (image_in t b)
  extent-refused why f = ap extent_of (sym (image-refused why f))

  pub extent-shaped : (s : Shape) → r ≡ Ok s → Ok s.long ≡ extent_of (image_in t b)
  extent-shaped s f =
      let w = image-shaped s f in
      ap (λ (x : Shape). Ok x.long) w.0.shape ∙ ap extent_of (sym w.1)
