-- What the pass that measures and the pass that writes go by.
use Rattle.std.specs.Prelude.{◌≡◌, ℕ, zero, suc, ◌+◌, ◌*◌, ◌/◌, ◌≤◌, ◌<◌, max, Bool, true, false, cond, ◌&&◌, ◌||◌, List, [], ◌∷◌, ◌++◌, length, drop, replicate, eqb, leb, Result, Ok, Err}
use Rattle.buffer.specs.Over.{over}
use Rattle.fields.specs.Bytes.{byte_at}
use Rattle.fields.specs.Model.{Disk}
use Rattle.fields.specs.declared.refusal.Refusal.TheVariants.{NoImage, BadStore}
use Rattle.tracks.specs.Block.{track_text}
use Rattle.store.specs.Store.{count_at, next_at, track_sum, tracks_at, well_laid, room_of}
use Rattle.home.specs.Home.{units, home_text, cylinders_of, sides_of, entry_for, block_for, image_for, unwritable}
use Rattle.home.specs.declared.measure.Met.{Met}
use Rattle.home.specs.declared.measure.Shape.{Shape}
use Rattle.fields.specs.declared.refusal.Refusal.{Refusal}

-- ---- The pass that measures

-- before the first track: the disk block
abbrev pub met_none : Met
met_none = record { next = 0; fits = true; cylinders = 0; second = false; long = 256 }

-- one more track, by cylinder, side, number of sectors and stored bytes
unfoldable pub met_with : Met → ℕ → ℕ → ℕ → ℕ → Met
met_with m c s n stored = record {
  next = c * 256 + s + 1;
  fits = ((((m.fits && leb m.next (c * 256 + s)) && leb s 1) && leb n 29) && leb (256 + 256 * units stored) 65280);
  cylinders = max m.cylinders (c + 1);
  second = m.second || eqb s 1;
  long = m.long + (256 + 256 * units stored);
}

-- so many tracks of a table, from a place on
unfoldable pub met_at : List ℕ → Met → ℕ → ℕ → Met
met_at t m at zero = m
met_at t m at (suc left) = met_at t (met_with m (byte_at t at) (byte_at t (at + 1)) (count_at t at) (track_sum t at)) (next_at t at) left

-- all tracks of a table that keeps the layout
unfoldable pub measured_of : List ℕ → ℕ → Result Met Refusal
measured_of t room = cond (well_laid t room) (Ok (met_at t met_none 1 (byte_at t 0))) (Err BadStore)

-- few cylinders, and a length of four bytes
abbrev pub Modest : Result Met Refusal → Type 0
Modest (Err why) = Unit {0}
Modest (Ok m) = (m.cylinders ≤ 256) × (m.long < 4294967296)

-- sides by whether a track has side 1
abbrev pub sides_if : Bool → ℕ
sides_if second = cond second 2 1

-- what was met as an image's shape, or 12
unfoldable pub shape_by : Met → Result Shape Refusal
shape_by m =
    cond (m.fits && leb (m.cylinders * sides_if m.second) 204)
    (Ok (record { cylinders = m.cylinders; sides = sides_if m.second; long = m.long })) (Err NoImage)

-- the shape of a disk's image
abbrev pub shape_of : Disk → Shape
shape_of d = record { cylinders = cylinders_of d; sides = sides_of d; long = length (image_for d) }

abbrev pub shape_if : Bool → Disk → Result Shape Refusal
shape_if true d = Err NoImage
shape_if false d = Ok (shape_of d)

-- 2, 12, or the shape
abbrev pub shaped_as : Result Disk Refusal → Result Shape Refusal
shaped_as (Err why) = Err why
shaped_as (Ok d) = shape_if (unwritable d) d

-- ---- The pass that writes

-- the disk whose tracks stand in a store
abbrev pub disk_at : List ℕ → List ℕ → Disk
disk_at t b = tracks_at t b 1 0 (byte_at t 0)

-- a store whose disk has an image, and its shape
pub record Outbound (t b : List ℕ) (s : Shape) : Type 0 where
  pub laid : well_laid t (room_of b) ≡ true
  pub can : unwritable (disk_at t b) ≡ false
  pub shape : s ≡ shape_of (disk_at t b)

-- a block's header by a track's bytes in a table
abbrev pub info_by : List ℕ → List ℕ
info_by k =
    track_text
    ++ (0 ∷ 0 ∷ 0 ∷ 0 ∷ byte_at k 0 ∷ byte_at k 1 ∷ 0 ∷ 0 ∷ byte_at k 2 ∷ byte_at k 5 ∷ byte_at k 3 ∷ byte_at k 4 ∷ drop 6 k)

-- a disk block with no size in it
unfoldable pub empty_block : ℕ → ℕ → List ℕ
empty_block cylinders sides = home_text ++ (replicate 14 0 ++ (cylinders ∷ sides ∷ replicate 206 0))

-- sizes laid at their entries in a disk block
unfoldable pub sizes_in : ℕ → Disk → List ℕ → List ℕ
sizes_in sides [] block = block
sizes_in sides (t ∷ ts) block = sizes_in sides ts (over block (0x34 + entry_for sides t) (length (block_for t) / 256 ∷ []))
