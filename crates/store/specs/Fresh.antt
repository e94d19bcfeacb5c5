-- Formatted tracks, and the fresh format (01, "Reading an image" and "Commands", Format).
use Rattle.std.specs.Prelude.{ℕ, zero, suc, ◌+◌, List, [], ◌∷◌, replicate}
use Rattle.fields.specs.Model.{size_of, Sector, Track, Disk}
use Rattle.fields.specs.declared.id.SectorId.{SectorId}
use Rattle.tracks.specs.Rows.{ids_from}

-- a formatted sector: its ID, no status bits, and filler as long as the track's n says
abbrev pub blank : ℕ → ℕ → SectorId → Sector
blank n filler id = record { id = id; st1 = record { bits = 0 }; st2 = record { bits = 0 }; content = replicate (size_of n) filler }

-- one for each ID
unfoldable pub blanks : ℕ → ℕ → List SectorId → List Sector
blanks n filler [] = []
blanks n filler (id ∷ ids) = blank n filler id ∷ blanks n filler ids

-- a formatted track: cylinder, side, n, gap, filler and the IDs of its sectors
unfoldable pub formatted : ℕ → ℕ → ℕ → ℕ → ℕ → List SectorId → Track
formatted cylinder side n gap filler ids = record {
  cylinder = cylinder;
  side = side;
  size = n;
  gap = gap;
  filler = filler;
  sectors = blanks n filler ids;
}

-- a track of the fresh format: side 0, n 2, gap 0x2F, filler 0xE5, sectors 1 to 9
abbrev pub fresh_track : ℕ → Track
fresh_track cylinder = formatted cylinder 0 2 0x2F 0xE5 (ids_from cylinder 0 2 1 9)

-- so many of them, from a cylinder
unfoldable pub fresh_from : ℕ → ℕ → Disk
fresh_from cylinder zero = []
fresh_from cylinder (suc left) = fresh_track cylinder ∷ fresh_from (cylinder + 1) left

-- the fresh disk: cylinders 0 to 39
unfoldable pub fresh : Disk
fresh = fresh_from 0 40
