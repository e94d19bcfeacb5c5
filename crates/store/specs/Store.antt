-- The store: a table of 17,609 bytes and a data buffer. How a disk is laid in them, and which disk they hold.
--
-- table[0] is the number of tracks. Then, track after track: cylinder, side, size n, gap, filler, number of sectors, and at once so many
-- rows of eight bytes: c, h, r, n, st1, st2, stored length (low byte first). The sectors' bytes lie in the data buffer from 0 on, one after
-- another in the order of their rows.
use Rattle.std.specs.Prelude.{ℕ, zero, suc, ◌+◌, ◌*◌, min, List, [], ◌∷◌, ◌++◌, Bool, ◌&&◌, length, drop, eqb, leb, Result, Ok}
use Rattle.fields.specs.Refusals.{need}
use Rattle.fields.specs.Capacities.{most_tracks, most_sectors, most_data, most_transfer}
use Rattle.fields.specs.Bytes.{byte_at}
use Rattle.fields.specs.Model.{Sector, Track, Disk}
use Rattle.tracks.specs.Block.{row_at, sector_of, track_head}
use Rattle.tracks.specs.Rows.{head_for, rows_for}
use Rattle.fields.specs.declared.refusal.Refusal.TheVariants.{BadStore}
use Rattle.fields.specs.declared.refusal.Refusal.{Refusal}

-- ---- Capacities

-- the table's one length: a count, 204 tracks of 6 bytes, 2,048 rows of 8
abbrev pub table_length : ℕ
table_length = 17609

-- a data buffer's room: its length, or 1,048,576 if that is less
unfoldable pub room_of : List ℕ → ℕ
room_of b = min (length b) most_data

-- a transfer buffer's room: its length, or 65,536 if that is less
unfoldable pub transfer_room : List ℕ → ℕ
transfer_room x = min (length x) most_transfer

-- ---- Laying a disk

-- the heads and rows of tracks, before what follows them
unfoldable pub tracks_for : List Track → List ℕ → List ℕ
tracks_for [] rest = rest
tracks_for (t ∷ ts) rest = head_for (track_head t) (rows_for t.sectors (tracks_for ts rest))

-- the used part of the table
unfoldable pub table_of : Disk → List ℕ
table_of d = length d ∷ tracks_for d []

-- the bytes of sectors, one after another
unfoldable pub contents : List Sector → List ℕ
contents [] = []
contents (s ∷ ss) = s.content ++ contents ss

-- the used part of the data buffer
unfoldable pub data_of : Disk → List ℕ
data_of [] = []
data_of (t ∷ ts) = contents t.sectors ++ data_of ts

-- ---- Reading it back: `at` is a place in the table, `place` one in the data buffer, the last number what is left

-- the sectors of so many rows
unfoldable pub sectors_at : List ℕ → List ℕ → ℕ → ℕ → ℕ → List Sector
sectors_at t b at place zero = []
sectors_at t b at place (suc left) = sector_of (row_at t at) (drop place b) ∷ sectors_at t b (at + 8) (place + (row_at t at).stored) left

-- the sum of the stored lengths of so many rows
unfoldable pub sum_at : List ℕ → ℕ → ℕ → ℕ
sum_at t at zero = 0
sum_at t at (suc left) = (row_at t at).stored + sum_at t (at + 8) left

-- of the track at a place: how many sectors it has, where the next one stands, and how many bytes it stores
abbrev pub count_at : List ℕ → ℕ → ℕ
count_at t at = byte_at t (at + 5)

abbrev pub next_at : List ℕ → ℕ → ℕ
next_at t at = at + (6 + 8 * count_at t at)

abbrev pub track_sum : List ℕ → ℕ → ℕ
track_sum t at = sum_at t (at + 6) (count_at t at)

abbrev pub track_at : List ℕ → List ℕ → ℕ → ℕ → Track
track_at t b at place = record {
  cylinder = byte_at t at;
  side = byte_at t (at + 1);
  size = byte_at t (at + 2);
  gap = byte_at t (at + 3);
  filler = byte_at t (at + 4);
  sectors = sectors_at t b (at + 6) place (count_at t at);
}

-- so many tracks
unfoldable pub tracks_at : List ℕ → List ℕ → ℕ → ℕ → ℕ → List Track
tracks_at t b at place zero = []
tracks_at t b at place (suc left) = track_at t b at place ∷ tracks_at t b (next_at t at) (place + track_sum t at) left

-- how many sectors and bytes so many tracks have
unfoldable pub counts_at : List ℕ → ℕ → ℕ → ℕ
counts_at t at zero = 0
counts_at t at (suc left) = count_at t at + counts_at t (next_at t at) left

unfoldable pub bytes_at : List ℕ → ℕ → ℕ → ℕ
bytes_at t at zero = 0
bytes_at t at (suc left) = track_sum t at + bytes_at t (next_at t at) left

-- whether a table keeps the layout: its length, and counts and bytes inside the capacities
unfoldable pub well_laid : List ℕ → ℕ → Bool
well_laid t room =
    eqb (length t) table_length
    && (leb (byte_at t 0) most_tracks && (leb (counts_at t 1 (byte_at t 0)) most_sectors && leb (bytes_at t 1 (byte_at t 0)) room))

-- the disk that a store holds; 2 where it breaks the layout
unfoldable pub disk_of : List ℕ → List ℕ → Result Disk Refusal
disk_of t b = need (well_laid t (room_of b)) BadStore (Ok (tracks_at t b 1 0 (byte_at t 0)))
