-- What the private calls of a read answer, by place. A reader of the promises need not read this page.
use Rattle.std.specs.Prelude.{ℕ, zero, suc, ◌+◌, ◌-◌, ◌*◌, ◌≤◌, ◌<◌, List, cond, ◌≡◌, length}
use Rattle.tracks.specs.Block.{row_at}
use Rattle.fields.specs.declared.id.SectorId.{SectorId}
use Rattle.store.specs.Find.{Found, nothing, found}
use Rattle.store.specs.declared.answer.Match.{Match}
use Rattle.store.specs.Search.{first_match, numbered, run_from}
use Rattle.store.specs.Store.{sectors_at, sum_at, contents, table_length}
use Rattle.fields.specs.Model.{Sector}
use Rattle.store.specs.Spots.{row_here}
use Rattle.disk.specs.Calls.{Filled, filled_of}
use Rattle.disk.specs.declared.serve.Extent.{Extent}
use Rattle.fields.specs.Capacities.{most_data}

-- the place of the first of so many rows with an ID
unfoldable pub row_first : List ℕ → SectorId → ℕ → ℕ → Found ℕ
row_first t id at zero = nothing
row_first t id at (suc left) = cond (row_here t id at) (found 0 at) (row_first t id (at + 8) left)

-- one sector more, before what is read behind it
abbrev pub more : List ℕ → Found ℕ → Extent → Extent
more t nothing e = record { sectors = 0; total = 0 }
more t (found i at) e = record { sectors = e.sectors + 1; total = (row_at t at).stored + e.total }

-- how many sectors and bytes are read of so many numbers from r on
unfoldable pub extent_from : List ℕ → SectorId → ℕ → ℕ → ℕ → ℕ → Extent
extent_from t id start count r zero = record { sectors = 0; total = 0 }
extent_from t id start count r (suc left) = more t (row_first t (numbered id r) start count) (extent_from t id start count (r + 1) left)

-- what is read of so many numbers among rows of a store
abbrev pub run_of : List ℕ → List ℕ → ℕ → ℕ → ℕ → SectorId → ℕ → ℕ → List Sector
run_of t b start first count id r k = run_from id (sectors_at t b start first count) r k

-- which of the sectors is the first that is read
abbrev pub run_match : List ℕ → List ℕ → ℕ → ℕ → ℕ → SectorId → Match
run_match t b start first count id = first_match id (sectors_at t b start first count)

-- what a read among rows answers and leaves, from the number of an ID up to another
abbrev pub filled_at : List ℕ → List ℕ → List ℕ → ℕ → ℕ → ℕ → SectorId → ℕ → Filled
filled_at x t b start first count id eot =
    filled_of x (run_match t b start first count id) (run_of t b start first count id id.r (suc (eot - id.r)))

-- rows that lie in the table and whose bytes lie in the data buffer
pub record Rows (t b : List ℕ) (start first count : ℕ) : Type 0 where
  pub inside : start + 8 * count ≤ table_length
  pub few : count < 256
  pub total : first + sum_at t start count ≤ most_data
  pub held : first + sum_at t start count ≤ length b

-- sectors that are all there, and find room in a transfer buffer
pub record Gathered (t b : List ℕ) (start first count : ℕ) (id : SectorId) (sectors room : ℕ) : Type 0 where
  pub rows : Rows t b start first count
  pub numbers : id.r + sectors ≤ 256
  pub all : length (run_of t b start first count id id.r sectors) ≡ sectors
  pub fits : length (contents (run_of t b start first count id id.r sectors)) ≤ room
