-- What the private calls and those that are lent to the crates above answer, by place. The last part, where a sector stands, is what `disk_sector` goes by.
use Rattle.std.specs.Prelude.{ℕ, zero, suc, ◌+◌, ◌-◌, ◌*◌, ◌%◌, ◌≤◌, max, List, Bool, ◌&&◌, cond, ◌≡◌, length, drop, eqb, Result, Ok, Err, Option, Some, None}
use Rattle.fields.specs.Capacities.{most_data}
use Rattle.fields.specs.Bytes.{byte_at}
use Rattle.fields.specs.Model.{Sector, Disk}
use Rattle.tracks.specs.Block.{row_at, sector_of}
use Rattle.fields.specs.declared.id.SectorId.{SectorId}
use Rattle.fields.specs.declared.refusal.Refusal.TheVariants.{BadStore}
use Rattle.store.specs.Find.{Found, nothing, found}
use Rattle.store.specs.Search.{sector_at, no_match, match_at}
use Rattle.store.specs.Store.{table_length, room_of, count_at, next_at, track_sum, counts_at, bytes_at, well_laid, disk_of}
use Rattle.store.specs.declared.answer.Match.{Match}
use Rattle.fields.specs.declared.refusal.Refusal.{Refusal}
use Rattle.store.specs.declared.answer.Geometry.{Geometry}
use Rattle.store.specs.declared.find.Hit.{Hit}
use Rattle.store.specs.declared.find.Place.{Place}
use Rattle.store.specs.declared.find.Spot.{Spot}
use Rattle.store.specs.declared.check.Tallied.{Tallied}
use Rattle.store.specs.declared.find.Turned.{Turned}

-- the place after the last row of so many tracks
unfoldable pub end_at : List ℕ → ℕ → ℕ → ℕ
end_at t at zero = at
end_at t at (suc left) = end_at t (next_at t at) left

-- how many sectors and bytes, and where the rows end
abbrev pub tallied : ℕ → ℕ → ℕ → Result Tallied Refusal
tallied sectors bytes end = Ok (record { sectors = sectors; bytes = bytes; end = end })

-- the check of a store: how much it holds, and where its rows end
unfoldable pub tally_of : List ℕ → ℕ → Result Tallied Refusal
tally_of t room =
    cond (well_laid t room) (tallied (counts_at t 1 (byte_at t 0)) (bytes_at t 1 (byte_at t 0)) (end_at t 1 (byte_at t 0))) (Err BadStore)

-- whether the track at a place is the one that is looked for
abbrev pub track_here : List ℕ → ℕ → ℕ → ℕ → Bool
track_here t side cylinder at = eqb (byte_at t at) cylinder && eqb (byte_at t (at + 1)) side

-- what was found: its index, its place and that of its data
abbrev pub spot : ℕ → ℕ → ℕ → Option Spot
spot i at place = Some (record { index = i; at = at; place = place })

-- the first such track among so many: its index, its place and that of its data
unfoldable pub track_spot : List ℕ → ℕ → ℕ → ℕ → ℕ → ℕ → ℕ → Option Spot
track_spot t side cylinder i at place zero = None
track_spot t side cylinder i at place (suc left) =
    cond (track_here t side cylinder at) (spot i at place) (track_spot t side cylinder (i + 1) (next_at t at) (place + track_sum t at) left)

-- whether the row at a place has the ID that is looked for
abbrev pub row_here : List ℕ → SectorId → ℕ → Bool
row_here t id at =
    eqb (byte_at t at) id.c && (eqb (byte_at t (at + 1)) id.h && (eqb (byte_at t (at + 2)) id.r && eqb (byte_at t (at + 3)) id.n))

-- the first such row among so many
unfoldable pub sector_spot : List ℕ → SectorId → ℕ → ℕ → ℕ → ℕ → Option Spot
sector_spot t id i at place zero = None
sector_spot t id i at place (suc left) =
    cond (row_here t id at) (spot i at place) (sector_spot t id (i + 1) (at + 8) (place + (row_at t at).stored) left)

-- the row in a track that was found
abbrev pub spot_in : List ℕ → SectorId → Option Spot → Option Spot
spot_in t id None = None
spot_in t id (Some s) = sector_spot t id 0 (s.at + 6) s.place (count_at t s.at)

-- the row at an address
unfoldable pub store_spot : List ℕ → ℕ → ℕ → SectorId → Option Spot
store_spot t side cylinder id = spot_in t id (track_spot t side cylinder 0 1 0 (byte_at t 0))

-- how many of so many rows bear an ID, and of those of a track that was found
unfoldable pub bearing_at : List ℕ → SectorId → ℕ → ℕ → ℕ
bearing_at t id at zero = 0
bearing_at t id at (suc left) = cond (row_here t id at) 1 0 + bearing_at t id (at + 8) left

abbrev pub bearing_in : List ℕ → SectorId → Option Spot → ℕ
bearing_in t id None = 0
bearing_in t id (Some s) = bearing_at t id (s.at + 6) (count_at t s.at)

-- how many rows of the track at an address bear the ID
unfoldable pub store_bearing : List ℕ → ℕ → ℕ → SectorId → ℕ
store_bearing t side cylinder id = bearing_in t id (track_spot t side cylinder 0 1 0 (byte_at t 0))

-- a row that was found: which one it is, its place and that of its bytes
abbrev pub hit_at : Match → ℕ → ℕ → Option Hit
hit_at m at from = Some (record { which = m; row = at; from = from })

-- the same of a spot, where so many bear its ID
abbrev pub hit_of : ℕ → Option Spot → Option Hit
hit_of many None = None
hit_of many (Some s) = hit_at (record { place = s.index + 1; count = many }) s.at s.place

-- the first of so many rows with an ID; and the row at an address
unfoldable pub row_hit : List ℕ → SectorId → ℕ → ℕ → ℕ → Option Hit
row_hit t id start first count = hit_of (bearing_at t id start count) (sector_spot t id 0 start first count)

unfoldable pub store_hit : List ℕ → ℕ → ℕ → SectorId → Option Hit
store_hit t side cylinder id = hit_of (store_bearing t side cylinder id) (store_spot t side cylinder id)

-- the greatest cylinders of side 0 and of the other sides among so many tracks, and those met before
unfoldable pub cylinders_at : List ℕ → ℕ → ℕ → ℕ → ℕ → Geometry
cylinders_at t c0 c1 at zero = record { c0 = c0; c1 = c1 }
cylinders_at t c0 c1 at (suc left) =
    cond (eqb (byte_at t (at + 1)) 0) (cylinders_at t (max c0 (byte_at t at)) c1 (next_at t at) left)
    (cylinders_at t c0 (max c1 (byte_at t at)) (next_at t at) left)

-- a row by its index
abbrev pub turned_at : ℕ → ℕ → Option Turned
turned_at i at = Some (record { index = i; at = at })

-- the place of a row by its index, counted round the track at a place; none in a track without sectors
abbrev pub turned : List ℕ → ℕ → ℕ → ℕ → Option Turned
turned t at i zero = None
turned t at i (suc n) = turned_at (i % suc n) (at + 6 + 8 * (i % suc n))

abbrev pub index_spot : List ℕ → ℕ → ℕ → Option Turned
index_spot t at i = turned t at i (count_at t at)

-- what a walk of the table asks: its rows are within it, and its bytes are few
pub record Walkable (t : List ℕ) : Type 0 where
  pub long : length t ≡ table_length
  pub ends : end_at t 1 (byte_at t 0) ≤ table_length
  pub total : bytes_at t 1 (byte_at t 0) ≤ most_data

-- ---- Where a sector stands

-- which sector it is, its row, and where its bytes begin and end, before the end of all bytes
abbrev pub part : Match → ℕ → ℕ → ℕ → ℕ → Result (Option Place) Refusal
part m row from to end = Ok (Some (record { which = m; row = row; from = from; to = to; end = end }))

-- the same of a row that was found
abbrev pub place_at : List ℕ → Option Hit → Result (Option Place) Refusal
place_at t None = Ok None
place_at t (Some hit) = part hit.which hit.row hit.from (hit.from + (row_at t hit.row).stored) (bytes_at t 1 (byte_at t 0))

-- `locate`: 2, nothing, or where the first match stands
unfoldable pub place_of : List ℕ → List ℕ → ℕ → ℕ → SectorId → Result (Option Place) Refusal
place_of t b side cylinder id = cond (well_laid t (room_of b)) (place_at t (store_hit t side cylinder id)) (Err BadStore)

-- the sector that stands at a place of a store, with its index
abbrev pub stands_at : List ℕ → List ℕ → Result (Option Place) Refusal → Result (Found Sector) Refusal
stands_at t b (Err why) = Err why
stands_at t b (Ok None) = Ok nothing
stands_at t b (Ok (Some p)) = Ok (found (p.which.place - 1) (sector_of (row_at t p.row) (drop p.from b)))

-- which sector of its track that is
abbrev pub matched_at : Result (Option Place) Refusal → Match
matched_at (Err why) = no_match
matched_at (Ok None) = no_match
matched_at (Ok (Some p)) = p.which

-- what a search of a store answers: the sector, and which one it is
abbrev pub searched : Result Disk Refusal → ℕ → ℕ → SectorId → Result (Found Sector) Refusal
searched (Err why) side cylinder id = Err why
searched (Ok d) side cylinder id = Ok (sector_at d side cylinder id)

abbrev pub matched : Result Disk Refusal → ℕ → ℕ → SectorId → Match
matched (Err why) side cylinder id = no_match
matched (Ok d) side cylinder id = match_at d side cylinder id

-- a row and its bytes within a store
pub record Placed (t b : List ℕ) (row from to end : ℕ) : Type 0 where
  pub row_inside : row + 8 ≤ length t
  pub bytes : to ≡ from + (row_at t row).stored
  pub bytes_inside : to ≤ end
  pub all : end ≡ bytes_at t 1 (byte_at t 0)
  pub all-inside : end ≤ room_of b

abbrev pub Within : List ℕ → List ℕ → Result (Option Place) Refusal → Type 0
Within t b (Err why) = Unit {0}
Within t b (Ok None) = Unit {0}
Within t b (Ok (Some p)) = Placed t b p.row p.from p.to p.end

-- a place is within the store, and what stands there is what the search finds, with its place and how many bear its ID
pub record Located (t b : List ℕ) (side cylinder : ℕ) (id : SectorId) (r : Result (Option Place) Refusal) : Type 0 where
  pub says : stands_at t b r ≡ searched (disk_of t b) side cylinder id
  pub which : matched_at r ≡ matched (disk_of t b) side cylinder id
  pub within : Within t b r
