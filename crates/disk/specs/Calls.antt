-- What the public calls answer and leave, in terms of the disk that the store holds.
use Rattle.std.specs.Prelude.{◌≡◌, ℕ, List, [], ◌∷◌, cond, length, eqb, leb, Result, Ok, Err, Option, Some, None}
use Rattle.buffer.specs.Over.{over}
use Rattle.fields.specs.Refusals.{need, after}
use Rattle.fields.specs.Bytes.{with_bit}
use Rattle.fields.specs.Model.{size_of, Sector, Track, Disk, total, byte_count}
use Rattle.fields.specs.declared.id.SectorId.{SectorId}
use Rattle.fields.specs.declared.refusal.Refusal.TheVariants.{NoRoom, NoTransferRoom}
use Rattle.store.specs.Find.{Found, nothing, found}
use Rattle.store.specs.Search.{sector_at, match_at, read_at}
use Rattle.store.specs.Store.{transfer_room, room_of, contents, disk_of}
use Rattle.store.specs.Calls.{Outcome, outcome, laid_as, laid, fitting}
use Rattle.store.specs.declared.answer.Match.{Match}
use Rattle.disk.specs.Change.{saved, set_track}
use Rattle.fields.specs.declared.refusal.Refusal.{Refusal}
use Rattle.disk.specs.declared.answer.Served.{Served}

-- ---- Changing

-- `set_track`: 2, then the capacities of the disk that would result
unfoldable pub set_of : ℕ → ℕ → Track → List ℕ → List ℕ → Outcome (Result (Unit {0}) Refusal)
set_of side cylinder new t b = laid t b (after (disk_of t b) (λ d. fitting (room_of b) (set_track side cylinder new d)))

-- what a save of a found sector leaves: 8 where its length is over what a row can name, or the bytes of the disk that would result over the room
abbrev pub put_of : List ℕ → List ℕ → ℕ → Match → Disk → Outcome (Result (Option Match) Refusal)
put_of t b long m d =
    laid_as Err (Ok (Some m)) t b (need (leb long 65535) NoRoom (need (leb (byte_count d) (room_of b)) NoRoom (Ok d)))

-- a save where the search ended: missing; or put, and which one it was
abbrev pub save_found : List ℕ → List ℕ → ℕ → Match → Disk → Found Sector → Outcome (Result (Option Match) Refusal)
save_found t b long m d nothing = outcome (Ok None) t b
save_found t b long m d (found i s) = put_of t b long m d

abbrev pub save_in : List ℕ → List ℕ → ℕ → ℕ → SectorId → List ℕ → Result Disk Refusal → Outcome (Result (Option Match) Refusal)
save_in t b side cylinder id new (Err why) = outcome (Err why) t b
save_in t b side cylinder id new (Ok d) =
    save_found t b (length new) (match_at d side cylinder id) (saved side cylinder id new d) (sector_at d side cylinder id)

-- save: 2; missing where no sector matches; 8 on the sum that would result; or the first match takes the new bytes
unfoldable pub save_of : List ℕ → List ℕ → ℕ → ℕ → SectorId → List ℕ → Outcome (Result (Option Match) Refusal)
save_of t b side cylinder id new = save_in t b side cylinder id new (disk_of t b)

-- ---- Reading

-- what a read answers and leaves in the transfer buffer
pub data Filled : Type 0 where
  filled : Result (Option Served) Refusal → List ℕ → Filled

-- the total length, the sum of the sizes by n, the first sector's st1 and st2, and which one that is
abbrev pub reading_of : Match → Sector → List Sector → Result (Option Served) Refusal
reading_of m s ss =
    Ok (Some (record {
      total = length (contents (s ∷ ss));
      sizes = total (λ (x : Sector). size_of x.id.n) (s ∷ ss);
      st1 = s.st1;
      st2 = s.st2;
      sector = m;
    }))

-- st1 with 0x80 if the total length equals the sizes by n, else with 0x10
unfoldable pub end_of : ℕ → ℕ → ℕ → ℕ
end_of long sizes st1 = with_bit (cond (eqb long sizes) 0x80 0x10) st1

-- missing; 9 where the bytes exceed the transfer room; or all of them laid from the start, bytes past the total as they came
abbrev pub filled_of : List ℕ → Match → List Sector → Filled
filled_of x m [] = filled (Ok None) x
filled_of x m (s ∷ ss) =
    cond (leb (length (contents (s ∷ ss))) (transfer_room x)) (filled (reading_of m s ss) (over x 0 (contents (s ∷ ss))))
    (filled (Err NoTransferRoom) x)

abbrev pub filled_from : List ℕ → ℕ → ℕ → SectorId → ℕ → Result Disk Refusal → Filled
filled_from x side cylinder id eot (Err why) = filled (Err why) x
filled_from x side cylinder id eot (Ok d) = filled_of x (match_at d side cylinder id) (read_at d side cylinder id eot)

-- read: 2, missing, 9, or what Read Data reads
unfoldable pub read_of : List ℕ → List ℕ → ℕ → ℕ → SectorId → ℕ → List ℕ → Filled
read_of t b side cylinder id eot x = filled_from x side cylinder id eot (disk_of t b)

-- a store that held a disk, and holds it changed now
pub record Altered (f : Disk → Disk) (t b t' b' : List ℕ) : Type 0 where
  pub before : Disk
  pub held : disk_of t b ≡ Ok before
  pub holds : disk_of t' b' ≡ Ok (f before)
