-- What the calls that lay tracks leave, private or lent to crate `formatting`. A reader of the promises need not read this page.
use Rattle.std.specs.Prelude.{ℕ, zero, suc, ◌+◌, ◌*◌, ◌≤◌, List, [], ◌∷◌, ◌≡◌, length, take, drop, Result, Ok}
use Rattle.fields.specs.Model.{size_of, Track, sector_count, byte_count}
use Rattle.tracks.specs.Block.{row_of}
use Rattle.tracks.specs.Rows.{row_for, head_for, ids_at}
use Rattle.image.specs.Calls.{tracks_left, to_come}
use Rattle.tracks.specs.declared.track.Kind.{Kind}
use Rattle.image.specs.declared.walk.Walk.{Walk}
use Rattle.tracks.specs.declared.track.Head.{Head}
use Rattle.store.specs.Store.{tracks_for}
use Rattle.store.specs.Fresh.{formatted}
use Rattle.store.specs.Calls.{within}
use Rattle.fields.specs.declared.refusal.Refusal.{Refusal}

-- the rows of so many entries of a track block's sector list, from entry k on
unfoldable pub list_from : Kind → List ℕ → ℕ → ℕ → List ℕ
list_from kind b k zero = []
list_from kind b k (suc left) = row_for (row_of kind b k) (list_from kind b (k + 1) left)

-- the rows and the data of a track block whose head was read
abbrev pub block_rows : Kind → List ℕ → Head → List ℕ
block_rows kind b h = head_for h (list_from kind b 0 h.sectors)

abbrev pub block_data : List ℕ → Head → List ℕ
block_data b h = take h.stored (drop 0x100 b)

-- one track's part of the table
abbrev pub track_for : Track → List ℕ
track_for t = tracks_for (t ∷ []) []

-- the formatted track that a head and the bytes of its IDs describe
abbrev pub formatted_by : Head → List ℕ → Track
formatted_by h ids = formatted h.cylinder h.side h.size h.gap h.filler (ids_at ids 0 h.sectors)

-- a head that tells its formatted track's bytes
abbrev pub Whole : Head → Type 0
Whole h = h.stored ≡ h.sectors * size_of h.size

-- a walk whose tracks are good and find room from a place of the table and one of the data buffer on
pub record Layable (b : List ℕ) (w : Walk) (at place long room : ℕ) : Type 0 where
  pub whole : tracks_left b w ≡ Ok (to_come b w)
  pub rows : at + 6 * length (to_come b w) + 8 * sector_count (to_come b w) ≤ long
  pub bytes : place + byte_count (to_come b w) ≤ room

-- whether the capacities allow so much
abbrev pub capacity_of : ℕ → ℕ → ℕ → ℕ → Result (Unit {0}) Refusal
capacity_of tracks sectors bytes room = within tracks sectors bytes room (Ok tt)
