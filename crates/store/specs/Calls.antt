-- What the public calls answer and leave, in terms of the disk that the store holds.
use Rattle.std.specs.Prelude.{◌≡◌, ℕ, List, [], Bool, true, false, not, length, eqb, leb, Result, Ok, Err, Option, Some, None}
use Rattle.buffer.specs.Over.{over}
use Rattle.fields.specs.Refusals.{need, after}
use Rattle.fields.specs.Capacities.{most_tracks, most_sectors}
use Rattle.fields.specs.Model.{Sector, Disk, sector_count, byte_count}
use Rattle.image.specs.Dsk.{dsk_of, Dsk}
use Rattle.fields.specs.declared.id.SectorId.{SectorId}
use Rattle.fields.specs.declared.refusal.Refusal.{Refusal}
use Rattle.fields.specs.declared.refusal.Refusal.TheVariants.{BadStore, TooManyTracks, TooManySectors, NoRoom, ShortBuffer}
use Rattle.store.specs.Find.{Found, nothing, found}
use Rattle.store.specs.Search.{sector_at, match_at, sector_by_index, greatest, is_side0}
use Rattle.store.specs.Store.{table_length, room_of, table_of, data_of, disk_of}
use Rattle.store.specs.Fresh.{fresh}
use Rattle.store.specs.declared.answer.Match.{Match}
use Rattle.store.specs.declared.answer.Geometry.{Geometry}

-- ---- Looking

-- the bytes of a sector that was found, none where there is none
abbrev pub content_of : Found Sector → List ℕ
content_of nothing = []
content_of (found i s) = s.content

-- lookup by address: empty where none is found or 2 applies
abbrev pub lookup_of : Result Disk Refusal → ℕ → ℕ → SectorId → List ℕ
lookup_of (Err why) side cylinder id = []
lookup_of (Ok d) side cylinder id = content_of (sector_at d side cylinder id)

-- whether a sector was found, and which one
abbrev pub found_of : Match → Found Sector → Result (Option Match) Refusal
found_of m nothing = Ok None
found_of m (found i s) = Ok (Some m)

-- `has_sector`: yes, and which one; no; or 2
abbrev pub has_of : Result Disk Refusal → ℕ → ℕ → SectorId → Result (Option Match) Refusal
has_of (Err why) side cylinder id = Err why
has_of (Ok d) side cylinder id = found_of (match_at d side cylinder id) (sector_at d side cylinder id)

-- the greatest cylinders of a disk
abbrev pub two_sides : ℕ → ℕ → Geometry
two_sides c0 c1 = record { c0 = c0; c1 = c1 }

-- `geometry`: the greatest cylinder of side 0 and of all other sides, or 2
abbrev pub geometry_of : Result Disk Refusal → Result Geometry Refusal
geometry_of (Err why) = Err why
geometry_of (Ok d) = Ok (two_sides (greatest is_side0 d) (greatest (λ t. not (is_side0 t)) d))

-- the ID of a sector that was found
abbrev pub named_of : Found Sector → Result (Option SectorId) Refusal
named_of nothing = Ok None
named_of (found i s) = Ok (Some s.id)

-- `id_by_idx`: 2, missing, or the ID of the sector with an index, counted round the track
abbrev pub id_by_index : Result Disk Refusal → ℕ → ℕ → ℕ → Result (Option SectorId) Refusal
id_by_index (Err why) side cylinder i = Err why
id_by_index (Ok d) side cylinder i = named_of (sector_by_index d side cylinder i)

-- ---- Changing

-- what a changing call answers and leaves in the table and in the data buffer
pub data Outcome (A : Type 0) : Type 0 where
  outcome : A → List ℕ → List ℕ → Outcome A

-- a refusal leaves every byte as it came; a new disk is laid over what was there
abbrev pub laid_as : {A : Type 0} → (Refusal → A) → A → List ℕ → List ℕ → Result Disk Refusal → Outcome A
laid_as refusal done t b (Err why) = outcome (refusal why) t b
laid_as refusal done t b (Ok d) = outcome done (over t 0 (table_of d)) (over b 0 (data_of d))

abbrev pub laid : List ℕ → List ℕ → Result Disk Refusal → Outcome (Result (Unit {0}) Refusal)
laid t b r = laid_as Err (Ok tt) t b r

-- the capacities: so many tracks, sectors and bytes in so much room; 6, 7, 8
unfoldable pub within : {A : Type 0} → ℕ → ℕ → ℕ → ℕ → Result A Refusal → Result A Refusal
within tracks sectors bytes room next =
    need (leb tracks most_tracks) TooManyTracks (need (leb sectors most_sectors) TooManySectors (need (leb bytes room) NoRoom next))

-- a disk that a store with so much room can hold
abbrev pub fitting : ℕ → Disk → Result Disk Refusal
fitting room d = within (length d) (sector_count d) (byte_count d) room (Ok d)

-- `Disk::new`: 2 for the table's length, then what the reader meets, then the capacities
unfoldable pub load_of : List ℕ → List ℕ → List ℕ → Outcome (Result (Unit {0}) Refusal)
load_of image t b = laid t b (need (eqb (length t) table_length) BadStore (after (dsk_of image) (λ d. fitting (room_of b) d.disk)))

-- `new_formatted`: 2 for the table's length, then 8
unfoldable pub fresh_of : List ℕ → List ℕ → Outcome (Result (Unit {0}) Refusal)
fresh_of t b = laid t b (need (eqb (length t) table_length) BadStore (fitting (room_of b) fresh))

-- the image that was loaded, and that the store holds its disk
pub record Loaded (image t b : List ℕ) : Type 0 where
  pub dsk : Dsk
  pub read : dsk_of image ≡ Ok dsk
  pub holds : disk_of t b ≡ Ok dsk.disk

-- ---- Writing out

-- the answer, and the buffer that is written to
pub data Penned : Type 0 where
  penned : Result ℕ Refusal → List ℕ → Penned

-- bytes at a buffer's start, and how many they are; 13 where they do not fit, and the buffer stays
abbrev pub penned_if : Bool → List ℕ → List ℕ → Penned
penned_if true x s = penned (Ok (length x)) (over s 0 x)
penned_if false x s = penned (Err ShortBuffer) s

unfoldable pub penned_to : List ℕ → List ℕ → Penned
penned_to x s = penned_if (leb (length x) (length s)) x s
