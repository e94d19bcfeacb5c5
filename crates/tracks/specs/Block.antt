-- A track block of a DSK image: which track it holds, or why it is refused (01, "Reading an image").
-- Places are those of the published description, from the block's own start.
use Rattle.std.specs.Prelude.{ℕ, zero, suc, ◌+◌, ◌*◌, List, [], ◌∷◌, length, take, drop, leb, Result, Ok, Err}
use Rattle.fields.specs.Refusals.{need}
use Rattle.fields.specs.Bytes.{byte_at, number_at, text_at}
use Rattle.fields.specs.Model.{size_of, Sector, Track, track_bytes}
use Rattle.fields.specs.declared.refusal.Refusal.TheVariants.{ShortImage, NotATrack}
use Rattle.fields.specs.declared.id.SectorId.{SectorId}
use Rattle.tracks.specs.declared.track.Kind.{Kind}
use Rattle.tracks.specs.declared.track.Kind.TheVariants.{Normal, Extended}
use Rattle.tracks.specs.declared.track.Row.{Row}
use Rattle.tracks.specs.declared.track.Head.{Head}
use Rattle.fields.specs.declared.refusal.Refusal.{Refusal}

-- `Track-Info` CR LF
abbrev pub track_text : List ℕ
track_text = 0x54 ∷ 0x72 ∷ 0x61 ∷ 0x63 ∷ 0x6B ∷ 0x2D ∷ 0x49 ∷ 0x6E ∷ 0x66 ∷ 0x6F ∷ 0x0D ∷ 0x0A ∷ []

-- the ID that stands at a place
abbrev pub id_at : List ℕ → ℕ → SectorId
id_at b at = record { c = byte_at b at; h = byte_at b (at + 1); r = byte_at b (at + 2); n = byte_at b (at + 3) }

-- the entry that stands at a place: c, h, r, n, st1, st2, stored length
unfoldable pub row_at : List ℕ → ℕ → Row
row_at b at = record {
  id = id_at b at;
  st1 = record { bits = byte_at b (at + 4) };
  st2 = record { bits = byte_at b (at + 5) };
  stored = number_at 2 b (at + 6);
}

-- a normal image ignores the stored length and takes the size by n
abbrev pub row_by : Kind → Row → Row
row_by Normal row = record { id = row.id; st1 = row.st1; st2 = row.st2; stored = size_of row.id.n }
row_by Extended row = row

-- entry k of the sector list: from 0x18, eight bytes each
abbrev pub row_place : ℕ → ℕ
row_place k = 0x18 + 8 * k

unfoldable pub row_of : Kind → List ℕ → ℕ → Row
row_of kind b k = row_by kind (row_at b (row_place k))

-- the sector of an entry whose data begin the bytes given
abbrev pub sector_of : Row → List ℕ → Sector
sector_of row b = record { id = row.id; st1 = row.st1; st2 = row.st2; content = take row.stored b }

-- so many sectors from entry k on, their data one after another from a place
unfoldable pub sectors_from : Kind → List ℕ → ℕ → ℕ → ℕ → List Sector
sectors_from kind b k place zero = []
sectors_from kind b k place (suc left) =
    sector_of (row_of kind b k) (drop place b) ∷ sectors_from kind b (k + 1) (place + (row_of kind b k).stored) left

-- the sum of their stored lengths
unfoldable pub stored_from : Kind → List ℕ → ℕ → ℕ → ℕ
stored_from kind b k zero = 0
stored_from kind b k (suc left) = (row_of kind b k).stored + stored_from kind b (k + 1) left

-- where data of so many bytes end: they start at 0x100, and where there are none no byte is needed
abbrev pub data_end : ℕ → ℕ
data_end zero = 0
data_end (suc n) = 0x100 + suc n

-- the track that a block holds, its header read as good
unfoldable pub track_in : Kind → List ℕ → Track
track_in kind b = record {
  cylinder = byte_at b 0x10;
  side = byte_at b 0x11;
  size = byte_at b 0x14;
  gap = byte_at b 0x16;
  filler = byte_at b 0x17;
  sectors = sectors_from kind b 0 0x100 (byte_at b 0x15);
}

-- a track block behind its signature: the sector list ends inside, and so do the data
unfoldable pub body_of : Kind → List ℕ → Result Track Refusal
body_of kind b =
    need (leb (row_place (byte_at b 0x15)) (length b)) ShortImage
    (need (leb (data_end (stored_from kind b 0 (byte_at b 0x15))) (length b)) ShortImage
    (Ok (track_in kind b)))

-- the track block that these bytes begin with
unfoldable pub track_of : Kind → List ℕ → Result Track Refusal
track_of kind b =
    need (leb 12 (length b)) ShortImage
    (need (text_at track_text b 0) NotATrack
    (body_of kind b))

-- ---- What the calls answer

-- a track's fields, how many sectors it has and how many bytes they store
abbrev pub track_head : Track → Head
track_head t = record {
  cylinder = t.cylinder;
  side = t.side;
  size = t.size;
  sectors = length t.sectors;
  gap = t.gap;
  filler = t.filler;
  stored = track_bytes t;
}

-- reading a track block
abbrev pub block_of : Result Track Refusal → Result Head Refusal
block_of (Err why) = Err why
block_of (Ok t) = Ok (track_head t)
