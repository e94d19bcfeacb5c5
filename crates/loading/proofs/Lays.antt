-- Laying tracks: what the parts of a table and of a data buffer are, and how one is laid behind another.
use mathlib.Core.Path.{◌≡◌, refl, sym, ap, ◌∙◌}
use Prim.Native.Nat.{ℕ, zero, suc, ◌+◌, ◌-◌, ◌*◌, ◌≤◌, ◌<◌}
use native.Mathlib.Omega.{arith}
use native.Mathlib.Nat.{suc-mul}
use mathlib.Core.List.{List, [], ◌∷◌, ◌++◌}
use lib.ListN.{length, take, drop, replicate, length-replicate, replicate-append-replicate}
use lib.Seq.{take-add, drop-drop}
use Rattle.buffer.specs.Over.{over}
use Rattle.buffer.proofs.Overs.{over-over, over-nil, over-length}
use Rattle.fields.specs.Bytes.{byte_at}
use Rattle.fields.specs.Model.{size_of, Sector, Track, Disk, total, track_bytes, sector_count, byte_count}
use Rattle.fields.specs.declared.id.SectorId.{SectorId}
use Rattle.fields.proofs.Sizes.{size-2}
use Rattle.tracks.specs.Block.{id_at, row_of, sector_of, sectors_from, stored_from, track_in, track_of, track_head}
use Rattle.tracks.specs.declared.track.Kind.{Kind}
use Rattle.tracks.specs.declared.track.Head.{Head}
use Rattle.tracks.specs.declared.track.Row.{Row}
use Rattle.tracks.proofs.Tracks.{down, by_entries, contents-whole, track-good, track-count}
use Rattle.tracks.proofs.Numbering.{ids-length}
use Rattle.store.proofs.Rounds.{rows-length, rows_before, contents-length}
use Rattle.store.specs.Store.{tracks_for, contents, data_of}
use Rattle.tracks.specs.Rows.{row_for, head_for, sector_row, rows_for, ids_at, ids_from}
use Rattle.store.specs.Fresh.{blanks, formatted, fresh_track, fresh_from}
use Rattle.loading.specs.Laying.{list_from, block_rows, block_data, track_for, formatted_by, Whole}
use Rattle.std.specs.Prelude.{Ok}

-- ---- one part behind another

-- what is still to be laid, once its first part is
pub lay-on : (t : List ℕ) (at : ℕ) (x rest goal : List ℕ) (at' : ℕ) → over t at (x ++ rest) ≡ goal → at' ≡ at + length x → at ≤ length t
    → over (over t at x) at' rest ≡ goal
lay-on t at x rest goal at' p e h = over-over t at x rest at' e h ∙ p

-- two parts, laid one behind the other
pub two-parts : (t t₁ t₂ : List ℕ) (at at' : ℕ) (x y : List ℕ) → t₁ ≡ over t at x → t₂ ≡ over t₁ at' y → at' ≡ at + length x → at ≤ length t
    → t₂ ≡ over t at (x ++ y)
two-parts t t₁ t₂ at at' x y e f q h = f ∙ ap (λ (z : List ℕ). over z at' y) e ∙ over-over t at x y at' q h

-- nothing is left to lay
pub lay-none : (t : List ℕ) (at : ℕ) (rest goal : List ℕ) → over t at rest ≡ goal → rest ≡ [] → t ≡ goal
lay-none t at rest goal p e = sym (over-nil t at) ∙ ap (over t at) (sym e) ∙ p

-- ---- the parts of a table

rows_append : (ss : List Sector) (rest : List ℕ) → rows_for ss rest ≡ rows_for ss [] ++ rest
rows_append ss rest = sym (rows_before ss [] rest)

pub tracks-append : (t : Track) (ts : Disk) → tracks_for (t ∷ ts) [] ≡ track_for t ++ tracks_for ts []
unfolding tracks_for
tracks-append t ts =
    ap (head_for (track_head t)) (rows_append t.sectors (tracks_for ts []))

pub track-length : (t : Track) → length (track_for t) ≡ 6 + 8 * length t.sectors
unfolding tracks_for
track-length t = omega (arith, rows-length t.sectors [])

-- a sector whose data are whole has the row of its entry
row_is : (row : Row) (b rest : List ℕ) → length (take row.stored b) ≡ row.stored → row_for (sector_row (sector_of row b)) rest ≡ row_for row rest
row_is row b rest e = cc

-- ---- a track block

pub list-step : (kind : Kind) (b : List ℕ) (k left : ℕ) → 0 < left → list_from kind b k left ≡ row_for (row_of kind b k) (list_from kind b (k + 1) (left - 1))
unfolding list_from
list-step kind b k = down (λ left l. list_from kind b k left ≡ row_for (row_of kind b k) (list_from kind b (k + 1) l)) (λ left. refl)

module _ (kind : Kind) (b : List ℕ) where
  -- the rows and the bytes of the sectors that a block holds
  list-rows : (k place left : ℕ) → (0 < stored_from kind b k left → place + stored_from kind b k left ≤ length b)
      → list_from kind b k left ≡ rows_for (sectors_from kind b k place left) []
  unfolding list_from rows_for
  list-rows =
      by_entries kind b (λ k left ss. list_from kind b k left ≡ rows_for ss []) (λ k. refl)
      (λ k place left ss e f. ap (row_for (row_of kind b k)) f ∙ sym (row_is (row_of kind b k) (drop place b) (rows_for ss []) e))

  contents-are : (k place left : ℕ) → take (stored_from kind b k left) (drop place b) ≡ contents (sectors_from kind b k place left)
  unfolding sectors_from stored_from contents
  contents-are k place zero = refl
  contents-are k place (suc left) =
      let n : ℕ = (row_of kind b k).stored in
      let m : ℕ = stored_from kind b (k + 1) left in
      take-add n m (drop place b)
      ∙ ap (λ (l : List ℕ). take n (drop place b) ++ take m l) (drop-drop n place b)
      ∙ ap (λ (l : List ℕ). take n (drop place b) ++ l) (contents-are (k + 1) (place + n) left)

  module _ (t : Track) (e : track_of kind b ≡ Ok t) where
    -- how many bytes the track of a block has, by the block
    pub track-stored : track_bytes t ≡ stored_from kind b 0 (byte_at b 0x15)
    unfolding track_in
    track-stored = ap track_bytes (sym (track-good kind b t e).0) ∙ contents-whole kind b 0 0x100 (byte_at b 0x15) (track-good kind b t e).1

    -- what is laid of a block is its track
    pub track-laid : block_rows kind b (track_head t) ≡ track_for t
    unfolding tracks_for track_in
    track-laid =
        let l : list_from kind b 0 (byte_at b 0x15) ≡ rows_for (track_in kind b).sectors [] = list-rows 0 0x100 (byte_at b 0x15) (track-good kind b t e).1 in
        let m : list_from kind b 0 (length t.sectors) ≡ rows_for t.sectors [] =
        ap (list_from kind b 0) (track-count kind b t e) ∙ l ∙ ap (λ (x : Track). rows_for x.sectors []) (track-good kind b t e).0 in
        ap (head_for (track_head t)) m

    pub bytes-laid : block_data b (track_head t) ≡ contents t.sectors
    unfolding track_in
    bytes-laid =
        ap (λ (n : ℕ). take n (drop 0x100 b)) track-stored
        ∙ contents-are 0 0x100 (byte_at b 0x15)
        ∙ ap (λ (x : Track). contents x.sectors) (track-good kind b t e).0

-- ---- loops that lay rows

-- what such a loop knows at its head: `rest` is still to be laid, `goal` is what will then be there
pub record Rowing (goal t₀ t : List ℕ) (start k : ℕ) (rest : List ℕ) : Type 0 where
  pub same : length t ≡ length t₀
  pub pending : over t (start + 8 * k) rest ≡ goal

pub rowing-done : (goal t₀ t : List ℕ) (start k : ℕ) (rest : List ℕ) → Rowing goal t₀ t start k rest → rest ≡ [] → t ≡ goal
rowing-done goal t₀ t start k rest r e = lay-none t (start + 8 * k) rest goal r.pending e

module _ (goal t₀ : List ℕ) (start count : ℕ) (fits : start + 8 * count ≤ length t₀) where
  pub rowing-again : (t : List ℕ) (k : ℕ) (rest : List ℕ) → Rowing goal t₀ t start k rest → k < count
      → (t' x rest' : List ℕ) → t' ≡ over t (start + 8 * k) x → length x ≡ 8 → rest ≡ x ++ rest' → Rowing goal t₀ t' start (k + 1) rest'
  rowing-again t k rest r h t' x rest' e l q =
      let at : ℕ = start + 8 * k in
      let in-t : at + length x ≤ length t = omega (arith, r.same) in
      let at-t : at ≤ length t = omega arith in
      let next : start + 8 * (k + 1) ≡ at + length x = omega arith in
      record {
        same = ap length e ∙ over-length t at x in-t ∙ r.same;
        pending =
            ap (λ (y : List ℕ). over y (start + 8 * (k + 1)) rest') e
            ∙ lay-on t at x rest' goal (start + 8 * (k + 1)) (ap (over t at) (sym q) ∙ r.pending) next at-t;
      }

-- what is left of a block's list: at the start, after a row, at the end
module _ (kind : Kind) (b : List ℕ) (count : ℕ) where
  pub list-rest : (k : ℕ) (row : Row) → k < count → row ≡ row_of kind b k
      → list_from kind b k (count - k) ≡ row_for row (list_from kind b (k + 1) (count - (k + 1)))
  list-rest k row h e =
      let p : 0 < count - k = omega arith in
      let q : count - k - 1 ≡ count - (k + 1) = omega arith in
      rw (e, ← q) (list-step kind b k (count - k) p)

  pub list-none : (k : ℕ) → count ≤ k → list_from kind b k (count - k) ≡ []
  unfolding list_from
  list-none k h = let e : count - k ≡ 0 = omega arith in rw e

-- ---- formatted tracks

-- the row of a formatted sector
abbrev pub blank_row : SectorId → ℕ → Row
blank_row id size = record { id = id; st1 = record { bits = 0 }; st2 = record { bits = 0 }; stored = size }

module _ (n f : ℕ) where
  pub blanks-length : (ids : List SectorId) → length (blanks n f ids) ≡ length ids
  unfolding blanks
  blanks-length [] = refl
  blanks-length (id ∷ ids) = ap suc (blanks-length ids)

  -- their bytes are filler
  pub blanks-bytes : (ids : List SectorId) → contents (blanks n f ids) ≡ replicate (length ids * size_of n) f
  unfolding blanks contents
  blanks-bytes [] = let e : 0 * size_of n ≡ 0 = omega arith in rw e
  blanks-bytes (id ∷ ids) =
      let e : size_of n + length ids * size_of n ≡ suc (length ids) * size_of n = omega (arith, suc-mul (length ids) (size_of n)) in
      ap (λ (l : List ℕ). replicate (size_of n) f ++ l) (blanks-bytes ids)
      ∙ replicate-append-replicate (size_of n) (length ids * size_of n) f
      ∙ ap (λ (m : ℕ). replicate m f) e

  pub blanks-total : (ids : List SectorId) → total (λ (s : Sector). length s.content) (blanks n f ids) ≡ length ids * size_of n
  blanks-total ids =
      sym (contents-length (blanks n f ids)) ∙ ap length (blanks-bytes ids) ∙ length-replicate (length ids * size_of n) f

-- the rows of formatted sectors by their IDs, and what is left of them
module _ (b : List ℕ) (size : ℕ) where
  -- those of so many IDs from a place on
  unfoldable pub id_rows : ℕ → ℕ → List ℕ
  id_rows at zero = []
  id_rows at (suc left) = row_for (blank_row (id_at b at) size) (id_rows (at + 4) left)

  pub rows-blank : (n f : ℕ) → size ≡ size_of n → (at left : ℕ) → id_rows at left ≡ rows_for (blanks n f (ids_at b at left)) []
  unfolding id_rows ids_at blanks rows_for
  rows-blank n f e at zero = refl
  rows-blank n f e at (suc left) =
      let q : size ≡ length (replicate (size_of n) f) = e ∙ sym (length-replicate (size_of n) f) in
      λ i. row_for (blank_row (id_at b at) (q i)) (rows-blank n f e (at + 4) left i)

  module _ (count : ℕ) where
    pub ids-rest : (k : ℕ) (id : SectorId) → k < count → id ≡ id_at b (4 * k)
        → id_rows (4 * k) (count - k) ≡ row_for (blank_row id size) (id_rows (4 * (k + 1)) (count - (k + 1)))
    unfolding id_rows
    ids-rest k id l g =
        let p : 0 < count - k = omega arith in
        let q : count - k - 1 ≡ count - (k + 1) = omega arith in
        let r : 4 * k + 4 ≡ 4 * (k + 1) = omega arith in
        rw (g, ← q, ← r) (step (count - k) p)
      where
        step : (left : ℕ) → 0 < left → id_rows (4 * k) left ≡ row_for (blank_row (id_at b (4 * k)) size) (id_rows (4 * k + 4) (left - 1))
        step = down (λ left l. id_rows (4 * k) left ≡ row_for (blank_row (id_at b (4 * k)) size) (id_rows (4 * k + 4) l)) (λ left. refl)

    pub ids-none : (k : ℕ) → count ≤ k → id_rows (4 * k) (count - k) ≡ []
    unfolding id_rows
    ids-none k l = let e : count - k ≡ 0 = omega arith in rw e

-- a formatted track by its head and the bytes of its IDs
module _ (h : Head) (ids : List ℕ) where
  pub formatted-count : length (formatted_by h ids).sectors ≡ h.sectors
  unfolding formatted
  formatted-count = blanks-length h.size h.filler (ids_at ids 0 h.sectors) ∙ ids-length ids 0 h.sectors

  pub formatted-rows : head_for h (rows_for (formatted_by h ids).sectors []) ≡ track_for (formatted_by h ids)
  unfolding tracks_for formatted
  formatted-rows = let e : length (formatted_by h ids).sectors ≡ h.sectors = formatted-count in cc

  pub formatted-bytes : Whole h → replicate h.stored h.filler ≡ contents (formatted_by h ids).sectors
  unfolding formatted
  formatted-bytes e =
      ap (λ (n : ℕ). replicate n h.filler) e
      ∙ sym (blanks-bytes h.size h.filler (ids_at ids 0 h.sectors) ∙ ap (λ (n : ℕ). replicate (n * size_of h.size) h.filler) (ids-length ids 0 h.sectors))

-- ---- the fresh format

-- one of its tracks: nine sectors of 512 bytes
fresh-nine : (c : ℕ) → length (fresh_track c).sectors ≡ 9
unfolding formatted ids_from
fresh-nine c = blanks-length 2 0xE5 (ids_from c 0 2 1 9)

fresh-whole : (c : ℕ) → track_bytes (fresh_track c) ≡ 4608
unfolding formatted ids_from
fresh-whole c = omega (arith, blanks-total 2 0xE5 (ids_from c 0 2 1 9), size-2)

-- what laying it by its head leaves is that track
pub fresh-laid : (c : ℕ) (h : Head) (ids : List ℕ) → h ≡ record { cylinder = c; side = 0; size = 2; sectors = 9; gap = 0x2F; filler = 0xE5; stored = 4608 }
    → ids_at ids 0 9 ≡ ids_from c 0 2 1 9 → formatted_by h ids ≡ fresh_track c
fresh-laid c h ids e f = ap (λ (x : Head). formatted_by x ids) e ∙ ap (formatted c 0 2 0x2F 0xE5) f

pub fresh_step : (c left : ℕ) → 0 < left → fresh_from c left ≡ fresh_track c ∷ fresh_from (c + 1) (left - 1)
unfolding fresh_from
fresh_step c = down (λ left l. fresh_from c left ≡ fresh_track c ∷ fresh_from (c + 1) l) (λ left. refl)

pub fresh-tracks : (c left : ℕ) → length (fresh_from c left) ≡ left
unfolding fresh_from
fresh-tracks c zero = refl
fresh-tracks c (suc left) = ap suc (fresh-tracks (c + 1) left)

pub fresh-sectors : (c left : ℕ) → sector_count (fresh_from c left) ≡ 9 * left
unfolding fresh_from total
fresh-sectors c zero = refl
fresh-sectors c (suc left) = omega (arith, fresh-nine c, fresh-sectors (c + 1) left)

pub fresh-bytes : (c left : ℕ) → byte_count (fresh_from c left) ≡ 4608 * left
unfolding fresh_from total
fresh-bytes c zero = refl
fresh-bytes c (suc left) = omega (arith, fresh-whole c, fresh-bytes (c + 1) left)

-- what the loop that lays them knows at its head
pub record Freshing (t₀ b₀ t b : List ℕ) (c : ℕ) : Type 0 where
  pub same-table : length t ≡ length t₀
  pub same_bytes : length b ≡ length b₀
  pub rows : over t (1 + 78 * c) (tracks_for (fresh_from c (40 - c)) []) ≡ over t₀ 1 (tracks_for (fresh_from 0 40) [])
  pub bytes : over b (4608 * c) (data_of (fresh_from c (40 - c))) ≡ over b₀ 0 (data_of (fresh_from 0 40))

module _ (t₀ b₀ : List ℕ) (ft : 3121 ≤ length t₀) (fb : 184320 ≤ length b₀) where
  module _ (t b : List ℕ) (c : ℕ) (r : Freshing t₀ b₀ t b c) where
    pub fresh-again : c < 40 → (t' b' : List ℕ) → t' ≡ over t (1 + 78 * c) (track_for (fresh_track c))
        → b' ≡ over b (4608 * c) (contents (fresh_track c).sectors) → Freshing t₀ b₀ t' b' (c + 1)
    unfolding data_of
    fresh-again h t' b' et eb =
        let tr : Track = fresh_track c in
        let at : ℕ = 1 + 78 * c in
        let place : ℕ = 4608 * c in
        let p : 0 < 40 - c = omega arith in
        let q : 40 - c - 1 ≡ 40 - (c + 1) = omega arith in
        let rest : Disk = fresh_from (c + 1) (40 - (c + 1)) in
        let s : fresh_from c (40 - c) ≡ tr ∷ rest = rw (← q) (fresh_step c (40 - c) p) in
        let lt : length (track_for tr) ≡ 78 = omega (arith, track-length tr, fresh-nine c) in
        let lb : length (contents tr.sectors) ≡ 4608 = omega (arith, contents-length tr.sectors, fresh-whole c) in
        record {
          same-table = ap length et ∙ over-length t at (track_for tr) (omega (arith, r.same-table)) ∙ r.same-table;
          same_bytes = ap length eb ∙ over-length b place (contents tr.sectors) (omega (arith, r.same_bytes)) ∙ r.same_bytes;
          rows =
              ap (λ (y : List ℕ). over y (1 + 78 * (c + 1)) (tracks_for rest [])) et
              ∙ lay-on t at (track_for tr) (tracks_for rest []) _ (1 + 78 * (c + 1))
              (ap (over t at) (sym (tracks-append tr rest) ∙ ap (λ (d : Disk). tracks_for d []) (sym s)) ∙ r.rows) (omega arith) (omega (arith, r.same-table));
          bytes =
              ap (λ (y : List ℕ). over y (4608 * (c + 1)) (data_of rest)) eb
              ∙ lay-on b place (contents tr.sectors) (data_of rest) _ (4608 * (c + 1))
              (ap (over b place) (ap data_of (sym s)) ∙ r.bytes) (omega arith) (omega (arith, r.same_bytes));
        }

    pub fresh-done : 40 ≤ c → (t ≡ over t₀ 1 (tracks_for (fresh_from 0 40) [])) × (b ≡ over b₀ 0 (data_of (fresh_from 0 40)))
    unfolding fresh_from tracks_for data_of
    fresh-done h =
        let e : 40 - c ≡ 0 = omega arith in
        let n : fresh_from c (40 - c) ≡ [] = rw e in (
          lay-none t _ (tracks_for (fresh_from c (40 - c)) []) _ r.rows (ap (λ (d : Disk). tracks_for d []) n),
          lay-none b _ (data_of (fresh_from c (40 - c))) _ r.bytes (ap data_of n),
        )
