-- What 01 says of disks: the searches and the geometry ("Modules in port order", 3).
use Rattle.std.specs.Prelude.{ℕ, zero, suc, ◌+◌, ◌-◌, ◌%◌, max, List, [], ◌∷◌, Bool, cond, ◌&&◌, length, eqb}
use Rattle.fields.specs.declared.id.SectorId.{SectorId}
use Rattle.fields.specs.Model.{Sector, Track, Disk, total}
use Rattle.store.specs.declared.answer.Match.{Match}
use Rattle.store.specs.Find.{Found, nothing, found, find, nth}

-- a track by cylinder and side
abbrev pub is_track : ℕ → ℕ → Track → Bool
is_track side cylinder t = eqb t.cylinder cylinder && eqb t.side side

-- a sector by all four ID bytes
abbrev pub is_sector : SectorId → Sector → Bool
is_sector id s = eqb s.id.c id.c && (eqb s.id.h id.h && (eqb s.id.r id.r && eqb s.id.n id.n))

-- the first matching sector of the track that was found
abbrev pub in_track : SectorId → Found Track → Found Sector
in_track id nothing = nothing
in_track id (found i t) = find (is_sector id) t.sectors

-- the sector at an address: the first matching track's first matching sector
unfoldable pub sector_at : Disk → ℕ → ℕ → SectorId → Found Sector
sector_at d side cylinder id = in_track id (find (is_track side cylinder) d)

-- how many sectors bear an ID (2026-05)
abbrev pub bearing : SectorId → List Sector → ℕ
bearing id ss = total (λ s. cond (is_sector id s) 1 0) ss

-- zero for both where none was found
abbrev pub no_match : Match
no_match = record { place = 0; count = 0 }

-- which sector was found: its place in the track, from 1, and how many bear that ID
abbrev pub match_of : ℕ → Found Sector → Match
match_of many nothing = no_match
match_of many (found i s) = record { place = i + 1; count = many }

-- which of a track's sectors is the first with an ID
abbrev pub first_match : SectorId → List Sector → Match
first_match id ss = match_of (bearing id ss) (find (is_sector id) ss)

-- the same of the track that was found
abbrev pub match_in : SectorId → Found Track → Match
match_in id nothing = no_match
match_in id (found i t) = first_match id t.sectors

-- which sector of its track the search at an address finds
unfoldable pub match_at : Disk → ℕ → ℕ → SectorId → Match
match_at d side cylinder id = match_in id (find (is_track side cylinder) d)

-- the same ID with another number
abbrev pub numbered : SectorId → ℕ → SectorId
numbered id r = record { c = id.c; h = id.h; r = r; n = id.n }

-- a sector before those read behind it; nothing is read behind a number that has no sector
abbrev pub joined : Found Sector → List Sector → List Sector
joined nothing rest = []
joined (found i s) rest = s ∷ rest

-- what is read of so many numbers from r on: the first match of each, up to the first number that has no sector
unfoldable pub run_from : SectorId → List Sector → ℕ → ℕ → List Sector
run_from id ss r zero = []
run_from id ss r (suc left) = joined (find (is_sector (numbered id r)) ss) (run_from id ss (r + 1) left)

-- what a Read Data reads of the track that was found: r, and if eot > r the numbers r + 1 to eot
abbrev pub read_in : SectorId → ℕ → Found Track → List Sector
read_in id eot nothing = []
read_in id eot (found i t) = run_from id t.sectors id.r (suc (eot - id.r))

-- the sectors that a Read Data reads, none where its first is missing
unfoldable pub read_at : Disk → ℕ → ℕ → SectorId → ℕ → List Sector
read_at d side cylinder id eot = read_in id eot (find (is_track side cylinder) d)

-- the sector with an index, counted round the track: `get_sector_by_idx`
unfoldable pub by_index : ℕ → Track → Found Sector
by_index i t = nth (i % length t.sectors) t.sectors

-- the sector with an index in the track that was found
abbrev pub turned_in : ℕ → Found Track → Found Sector
turned_in i nothing = nothing
turned_in i (found k t) = by_index i t

-- the sector that a Read ID finds
unfoldable pub sector_by_index : Disk → ℕ → ℕ → ℕ → Found Sector
sector_by_index d side cylinder i = turned_in i (find (is_track side cylinder) d)

-- the greatest cylinder of the tracks that pass a test, 0 where there is none
unfoldable pub greatest : (Track → Bool) → Disk → ℕ
greatest p [] = 0
greatest p (t ∷ ts) = max (cond (p t) t.cylinder 0) (greatest p ts)

-- whether a track is of side 0
abbrev pub is_side0 : Track → Bool
is_side0 t = eqb t.side 0
