-- The disk goes home (02, request 2026-03): the extended image that a disk is written as, or refusal 12.
-- Places are those of the published description; `Dsk` of crate `image` and `Block` of crate `tracks` read what is written.
-- Track blocks stand before the disk block here, since its table has their sizes.
use Rattle.std.specs.Prelude.{ℕ, ◌+◌, ◌-◌, ◌*◌, ◌/◌, max, List, [], ◌∷◌, ◌++◌, Bool, true, false, not, cond, ◌&&◌, ◌||◌, length, replicate, eqb, ltb, Result, Ok}
use Rattle.buffer.specs.Over.{over}
use Rattle.fields.specs.Refusals.{need}
use Rattle.fields.specs.Model.{Track, Disk}
use Rattle.fields.specs.declared.refusal.Refusal.TheVariants.{NoImage}
use Rattle.tracks.specs.Block.{track_text}
use Rattle.tracks.specs.Rows.{rows_for}
use Rattle.image.specs.Dsk.{extended_text}
use Rattle.store.specs.Store.{contents}
use Rattle.disk.specs.Change.{earlier}
use Rattle.fields.specs.declared.refusal.Refusal.{Refusal}

-- ---- Padding

-- bytes in units of 256, the last one begun counted whole
unfoldable pub units : ℕ → ℕ
units n = (n + 255) / 256

-- bytes padded with zeros to 256
unfoldable pub padded : List ℕ → List ℕ
padded x = x ++ replicate (256 * units (length x) - length x) 0

-- ---- A track block

-- its header: the text, four unused bytes, cylinder, side, two unused bytes, size n, number of sectors, gap, filler, the sector list
unfoldable pub track_info : Track → List ℕ
track_info t =
    track_text
    ++ (0 ∷ 0 ∷ 0 ∷ 0 ∷ t.cylinder ∷ t.side ∷ 0 ∷ 0 ∷ t.size ∷ length t.sectors ∷ t.gap ∷ t.filler ∷ rows_for t.sectors [])

-- the header, then the sectors' data in the list's order
unfoldable pub block_for : Track → List ℕ
block_for t = padded (track_info t) ++ padded (contents t.sectors)

-- the blocks of tracks, one behind another
unfoldable pub blocks_for : Disk → List ℕ
blocks_for [] = []
blocks_for (t ∷ ts) = block_for t ++ blocks_for ts

-- ---- The disk block

-- `EXTENDED CPC DSK File` CR LF `Disk-Info` CR LF
abbrev pub home_text : List ℕ
home_text =
    extended_text
    ++ (0x20 ∷ 0x44 ∷ 0x53 ∷ 0x4B ∷ 0x20 ∷ 0x46 ∷ 0x69 ∷ 0x6C ∷ 0x65 ∷ 0x0D ∷ 0x0A
    ∷ 0x44 ∷ 0x69 ∷ 0x73 ∷ 0x6B ∷ 0x2D ∷ 0x49 ∷ 0x6E ∷ 0x66 ∷ 0x6F ∷ 0x0D ∷ 0x0A ∷ [])

-- cylinders: the greatest cylinder plus one, 0 where there is no track
unfoldable pub cylinders_of : Disk → ℕ
cylinders_of [] = 0
cylinders_of (t ∷ ts) = max (t.cylinder + 1) (cylinders_of ts)

-- whether a track passes a test
unfoldable pub some_track : (Track → Bool) → Disk → Bool
some_track p [] = false
some_track p (t ∷ ts) = p t || some_track p ts

-- sides: 1 if no track has side 1, else 2
unfoldable pub sides_of : Disk → ℕ
sides_of d = cond (some_track (λ t. eqb t.side 1) d) 2 1

-- a track's entry in the table, in order of cylinder, then side
abbrev pub entry_for : ℕ → Track → ℕ
entry_for sides t = t.cylinder * sides + t.side

-- the size of each track block, in units of 256, laid at its track's entry
unfoldable pub sizes_over : ℕ → Disk → List ℕ → List ℕ
sizes_over sides [] table = table
sizes_over sides (t ∷ ts) table = sizes_over sides ts (over table (entry_for sides t) (length (block_for t) / 256 ∷ []))

-- the table: an entry for each cylinder and side, 0 for a track that is absent
unfoldable pub size_table : Disk → List ℕ
size_table d = sizes_over (sides_of d) d (replicate (cylinders_of d * sides_of d) 0)

-- what the disk block has: the text, no creator, cylinders, sides, two unused bytes, the table
unfoldable pub disk_info : Disk → List ℕ
disk_info d = home_text ++ (replicate 14 0 ++ (cylinders_of d ∷ sides_of d ∷ 0 ∷ 0 ∷ size_table d))

-- ---- The image

-- the disk block, and the track blocks behind it
unfoldable pub image_for : Disk → List ℕ
image_for d = padded (disk_info d) ++ blocks_for d

-- ---- Refusal 12

-- tracks behind a track: each is later than the one before it
unfoldable pub rising_from : Track → Disk → Bool
rising_from t [] = true
rising_from t (u ∷ us) = earlier t u && rising_from u us

-- tracks are strictly rising by cylinder and side
unfoldable pub rising : Disk → Bool
rising [] = true
rising (t ∷ ts) = rising_from t ts

-- a side exceeds 1
unfoldable pub side_over_1 : Disk → Bool
side_over_1 d = some_track (λ t. ltb 1 t.side) d

-- cylinders times sides exceeds 204
unfoldable pub entries_over_204 : Disk → Bool
entries_over_204 d = ltb 204 (cylinders_of d * sides_of d)

-- a track has over 29 sectors
unfoldable pub sectors_over_29 : Disk → Bool
sectors_over_29 d = some_track (λ t. ltb 29 (length t.sectors)) d

-- a padded track exceeds 65,280 bytes
unfoldable pub track_over_65280 : Disk → Bool
track_over_65280 d = some_track (λ t. ltb 65280 (length (block_for t))) d

-- whether one of the five is so
unfoldable pub unwritable : Disk → Bool
unwritable d = not (rising d) || (side_over_1 d || (entries_over_204 d || (sectors_over_29 d || track_over_65280 d)))

-- the image of a disk, or 12
unfoldable pub home_of : Disk → Result (List ℕ) Refusal
home_of d = need (not (unwritable d)) NoImage (Ok (image_for d))
