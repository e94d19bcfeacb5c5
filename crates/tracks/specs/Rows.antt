-- Entries, heads and IDs as bytes: an entry as a sector list and a store's table have it, a head as a store's table has it.
use Rattle.std.specs.Prelude.{ℕ, zero, suc, ◌+◌, ◌/◌, ◌%◌, List, [], ◌∷◌, length}
use Rattle.fields.specs.Model.{Sector}
use Rattle.fields.specs.declared.id.SectorId.{SectorId}
use Rattle.tracks.specs.declared.track.Row.{Row}
use Rattle.tracks.specs.declared.track.Head.{Head}
use Rattle.tracks.specs.Block.{id_at}

-- an entry, before what follows it: c, h, r, n, st1, st2, stored length (low byte, high byte)
abbrev pub row_for : Row → List ℕ → List ℕ
row_for x rest =
    x.id.c ∷ x.id.h ∷ x.id.r ∷ x.id.n ∷ x.st1.bits ∷ x.st2.bits ∷ x.stored % 256 ∷ x.stored / 256 ∷ rest

-- a head, before what follows it: cylinder, side, size n, gap, filler, number of sectors
abbrev pub head_for : Head → List ℕ → List ℕ
head_for h rest = h.cylinder ∷ h.side ∷ h.size ∷ h.gap ∷ h.filler ∷ h.sectors ∷ rest

-- a sector's entry
abbrev pub sector_row : Sector → Row
sector_row s = record { id = s.id; st1 = s.st1; st2 = s.st2; stored = length s.content }

-- the entries of sectors, before what follows them
unfoldable pub rows_for : List Sector → List ℕ → List ℕ
rows_for [] rest = rest
rows_for (s ∷ ss) rest = row_for (sector_row s) (rows_for ss rest)

-- ---- IDs

-- room for the IDs of a track: four bytes each, 255 at most
abbrev pub id_room : ℕ
id_room = 1020

-- so many IDs that stand one behind another from a place, four bytes each
unfoldable pub ids_at : List ℕ → ℕ → ℕ → List SectorId
ids_at b at zero = []
ids_at b at (suc left) = id_at b at ∷ ids_at b (at + 4) left

-- IDs as bytes, before what follows them: c, h, r, n of each
unfoldable pub ids_for : List SectorId → List ℕ → List ℕ
ids_for [] rest = rest
ids_for (x ∷ xs) rest = x.c ∷ x.h ∷ x.r ∷ x.n ∷ ids_for xs rest

-- so many IDs of one cylinder, head and n, numbered from r
unfoldable pub ids_from : ℕ → ℕ → ℕ → ℕ → ℕ → List SectorId
ids_from c h n r zero = []
ids_from c h n r (suc left) = record { c = c; h = h; r = r; n = n } ∷ ids_from c h n (r + 1) left
