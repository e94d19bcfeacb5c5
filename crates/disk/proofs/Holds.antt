-- The converse of the round trip: a store that holds a disk has it laid from the start of its table and its data buffer.
use mathlib.Core.Path.{◌≡◌, refl, sym, ap, ap₂, ◌∙◌}
use Prim.Native.Nat.{ℕ, zero, suc, ◌+◌, ◌*◌, ◌/◌, ◌%◌, ◌≤◌, ◌<◌}
use native.Mathlib.Omega.{arith}
use native.Mathlib.Nat.{add-zero}
use mathlib.Core.List.{List, [], ◌∷◌, ◌++◌, append_assoc}
use lib.ListN.{length, take, drop, length-take, length-drop, take-append-drop}
use lib.Seq.{drop-cons, drop-drop}
use Rattle.buffer.proofs.Overs.{over-front}
use Rattle.buffer.specs.Over.{over}
use Rattle.fields.specs.Bytes.{byte_at, number_at}
use Rattle.fields.specs.Model.{Sector, Disk, total, sector_count, byte_count}
use Rattle.tracks.specs.Block.{row_at, sector_of}
use Rattle.store.specs.Store.{table_length, room_of, tracks_for, table_of, contents, data_of, sectors_at, sum_at, count_at, next_at, track_sum, tracks_at, counts_at, bytes_at, disk_of}
use Rattle.tracks.specs.Rows.{row_for, sector_row, rows_for}
use Rattle.store.specs.Spots.{end_at}
use Rattle.store.proofs.Sums.{end_is}
use Rattle.store.proofs.Checks.{kept, disk-told}
use Rattle.store.proofs.Founds.{sectors-count}
use Rattle.store.proofs.Rounds.{size_in, table-length, data-length, tracks-before}
use Rattle.std.specs.Prelude.{Ok}

-- ---- how much is read

module _ (t b : List ℕ) where
  -- as many tracks as were counted, and as many sectors
  pub tracks-count : (at place k : ℕ) → length (tracks_at t b at place k) ≡ k
  unfolding tracks_at
  tracks-count at place zero = refl
  tracks-count at place (suc k) = ap suc (tracks-count (next_at t at) (place + track_sum t at) k)

  pub counts-are : (at place k : ℕ) → sector_count (tracks_at t b at place k) ≡ counts_at t at k
  unfolding tracks_at counts_at total
  counts-are at place zero = refl
  counts-are at place (suc k) =
      ap₂ ◌+◌ (sectors-count t b (at + 6) place (count_at t at)) (counts-are (next_at t at) (place + track_sum t at) k)

  -- bytes that end inside are as many as the rows say
  pub part-whole : (place n : ℕ) → place + n ≤ length b → length (take n (drop place b)) ≡ n
  part-whole place n h = simp (length-take, length-drop) (omega arith)

  pub sizes-are : (at place k : ℕ) → place + sum_at t at k ≤ length b → size_in (sectors_at t b at place k) ≡ sum_at t at k
  unfolding sectors_at sum_at total
  sizes-are at place zero h = refl
  sizes-are at place (suc k) h =
      ap₂ ◌+◌ (part-whole place (row_at t at).stored (omega arith)) (sizes-are (at + 8) (place + (row_at t at).stored) k (omega arith))

  pub bytes-are : (at place k : ℕ) → place + bytes_at t at k ≤ length b → byte_count (tracks_at t b at place k) ≡ bytes_at t at k
  unfolding tracks_at bytes_at total
  bytes-are at place zero h = refl
  bytes-are at place (suc k) h =
      ap₂ ◌+◌ (sizes-are (at + 6) place (count_at t at) (omega arith)) (bytes-are (next_at t at) (place + track_sum t at) k (omega arith))

  -- ---- the data buffer

  -- what stands from a place on is what is read there, before the rest
  pub contents-laid : (at place k : ℕ) → drop place b ≡ contents (sectors_at t b at place k) ++ drop (place + sum_at t at k) b
  unfolding sectors_at sum_at contents
  contents-laid at place zero = ap (λ (n : ℕ). drop n b) (sym (add-zero place))
  contents-laid at place (suc k) =
      let n : ℕ = (row_at t at).stored in
      let m : ℕ = sum_at t (at + 8) k in
      let z : place + n + m ≡ place + (n + m) = omega arith in
      let ss : List Sector = sectors_at t b (at + 8) (place + n) k in
      sym (take-append-drop n (drop place b))
      ∙ ap (λ (l : List ℕ). take n (drop place b) ++ l)
      (drop-drop n place b ∙ contents-laid (at + 8) (place + n) k ∙ ap (λ (i : ℕ). contents ss ++ drop i b) z)
      ∙ sym (append_assoc (take n (drop place b)) (contents ss) (drop (place + (n + m)) b))

  pub data-laid : (at place k : ℕ) → drop place b ≡ data_of (tracks_at t b at place k) ++ drop (place + bytes_at t at k) b
  unfolding tracks_at bytes_at data_of
  data-laid at place zero = ap (λ (n : ℕ). drop n b) (sym (add-zero place))
  data-laid at place (suc k) =
      let n : ℕ = track_sum t at in
      let m : ℕ = bytes_at t (next_at t at) k in
      let z : place + n + m ≡ place + (n + m) = omega arith in
      let c : List ℕ = contents (sectors_at t b (at + 6) place (count_at t at)) in
      let d : Disk = tracks_at t b (next_at t at) (place + n) k in
      contents-laid (at + 6) place (count_at t at)
      ∙ ap (λ (l : List ℕ). c ++ l) (data-laid (next_at t at) (place + n) k ∙ ap (λ (i : ℕ). data_of d ++ drop i b) z)
      ∙ sym (append_assoc c (data_of d) (drop (place + (n + m)) b))

-- ---- the table

module _ (t : List ℕ) (at : ℕ) where
  -- one byte, and the six that a track and a row begin with
  cut : (i : ℕ) → at + i < length t → drop (at + i) t ≡ byte_at t (at + i) ∷ drop (at + (i + 1)) t
  cut i h =
      let z : suc (at + i) ≡ at + (i + 1) = omega arith in
      drop-cons t (at + i) 0 h ∙ ap (λ (n : ℕ). byte_at t (at + i) ∷ drop n t) z

  cut-six : at + 6 ≤ length t → drop at t
      ≡ byte_at t at ∷ byte_at t (at + 1) ∷ byte_at t (at + 2) ∷ byte_at t (at + 3) ∷ byte_at t (at + 4) ∷ byte_at t (at + 5) ∷ drop (at + 6) t
  cut-six h =
      let z : drop (at + 0) t ≡ byte_at t (at + 0) ∷ drop (at + 1) t = cut 0 (omega arith) in
      (rw add-zero at z)
      ∙ ap (λ (l : List ℕ). byte_at t at ∷ l) (cut 1 (omega arith)
      ∙ ap (λ (l : List ℕ). byte_at t (at + 1) ∷ l) (cut 2 (omega arith)
      ∙ ap (λ (l : List ℕ). byte_at t (at + 2) ∷ l) (cut 3 (omega arith)
      ∙ ap (λ (l : List ℕ). byte_at t (at + 3) ∷ l) (cut 4 (omega arith)
      ∙ ap (λ (l : List ℕ). byte_at t (at + 4) ∷ l) (cut 5 (omega arith))))))

-- the two bytes of a stored length
stored_bytes : (x y n : ℕ) → x < 256 → n ≡ x + 256 * (y + 256 * 0) → (x ≡ n % 256) × (y ≡ n / 256)
stored_bytes x y n h e = (omega arith, omega arith)

module _ (t b : List ℕ) (small : (k : ℕ) → byte_at t k < 256) where
  -- what stands from a place on is what is read there, before the rest
  row_laid : (at place : ℕ) → at + 8 ≤ length t → place + (row_at t at).stored ≤ length b
      → drop at t ≡ row_for (sector_row (sector_of (row_at t at) (drop place b))) (drop (at + 8) t)
  unfolding row_at number_at
  row_laid at place h l =
      let n : length (take (row_at t at).stored (drop place b)) ≡ (row_at t at).stored = part-whole t b place (row_at t at).stored l in
      let z : at + 6 + 1 ≡ at + 7 = omega arith in
      let y : (row_at t at).stored ≡ byte_at t (at + 6) + 256 * (byte_at t (at + 7) + 256 * 0) =
      ap (λ (i : ℕ). byte_at t (at + 6) + 256 * (byte_at t i + 256 * 0)) z in
      let s = stored_bytes (byte_at t (at + 6)) (byte_at t (at + 7)) _ (small (at + 6)) (n ∙ y) in
      cut-six t at (omega arith)
      ∙ ap (λ (l : List ℕ). byte_at t at ∷ byte_at t (at + 1) ∷ byte_at t (at + 2) ∷ byte_at t (at + 3) ∷ byte_at t (at + 4) ∷ byte_at t (at + 5) ∷ l)
      (cut t at 6 (omega arith) ∙ ap₂ ◌∷◌ s.0 (cut t at 7 (omega arith) ∙ ap (λ (x : ℕ). x ∷ drop (at + 8) t) s.1))

  pub rows-laid : (at place k : ℕ) → at + 8 * k ≤ length t → place + sum_at t at k ≤ length b
      → drop at t ≡ rows_for (sectors_at t b at place k) (drop (at + 8 * k) t)
  unfolding sectors_at sum_at rows_for
  rows-laid at place zero h l = let z : at ≡ at + 8 * 0 = omega arith in ap (λ (n : ℕ). drop n t) z
  rows-laid at place (suc k) h l =
      let n : ℕ = (row_at t at).stored in
      let z : at + 8 + 8 * k ≡ at + 8 * suc k = omega arith in
      row_laid at place (omega arith) (omega arith)
      ∙ ap (row_for (sector_row (sector_of (row_at t at) (drop place b))))
      (rows-laid (at + 8) (place + n) k (omega arith) (omega arith)
      ∙ ap (λ (i : ℕ). rows_for (sectors_at t b (at + 8) (place + n) k) (drop i t)) z)

  pub tracks-laid : (at place k : ℕ) → end_at t at k ≤ length t → place + bytes_at t at k ≤ length b
      → drop at t ≡ tracks_for (tracks_at t b at place k) (drop (end_at t at k) t)
  unfolding tracks_at bytes_at end_at tracks_for
  tracks-laid at place zero h l = refl
  tracks-laid at place (suc k) h l =
      let n : ℕ = count_at t at in
      let e : end_at t (next_at t at) k ≡ next_at t at + 6 * k + 8 * counts_at t (next_at t at) k = end_is t (next_at t at) k in
      let z : at + 6 + 8 * n ≡ next_at t at = omega arith in
      let ss : List Sector = sectors_at t b (at + 6) place n in
      cut-six t at (omega arith)
      ∙ ap₂ (λ (i : ℕ) (r : List ℕ). byte_at t at ∷ byte_at t (at + 1) ∷ byte_at t (at + 2) ∷ byte_at t (at + 3) ∷ byte_at t (at + 4) ∷ i ∷ r)
      (sym (sectors-count t b (at + 6) place n))
      (rows-laid (at + 6) place n (omega arith) (omega arith)
      ∙ ap (λ (i : ℕ). rows_for ss (drop i t)) z
      ∙ ap (rows_for ss) (tracks-laid (next_at t at) (place + track_sum t at) k h (omega arith)))

-- ---- a whole store

-- a disk that a store holds is within the capacities
pub record Fits (t b : List ℕ) (d : Disk) : Type 0 where
  pub long : length t ≡ table_length
  pub tracks : length d ≤ 204
  pub sectors : sector_count d ≤ 2048
  pub bytes : byte_count d ≤ room_of b

-- what begins with s has s laid from its start
over-whole : (l s : List ℕ) (n : ℕ) → length s ≡ n → l ≡ s ++ drop n l → l ≡ over l 0 s
over-whole l s n e f = f ∙ ap (λ (i : ℕ). s ++ drop i l) (sym e) ∙ sym (over-front l s)

module _ (t b : List ℕ) (d : Disk) where
  pub fits : disk_of t b ≡ Ok d → Fits t b d
  unfolding room_of
  fits e =
      let w = disk-told t b d e in
      let l = kept t (room_of b) w.0 in
      let n = byte_at t 0 in
      rw w.1 (record {
        long = l.long;
        tracks = omega (arith, tracks-count t b 1 0 n, l.tracks);
        sectors = omega (arith, counts-are t b 1 0 n, l.sectors);
        bytes = omega (arith, bytes-are t b 1 0 n (omega (arith, l.bytes)), l.bytes);
      })

  -- and it is laid there
  pub is-laid : ((k : ℕ) → byte_at t k < 256) → disk_of t b ≡ Ok d → (t ≡ over t 0 (table_of d)) × (b ≡ over b 0 (data_of d))
  unfolding room_of table_of
  is-laid small e =
      let w = disk-told t b d e in
      let l = kept t (room_of b) w.0 in
      let n : ℕ = byte_at t 0 in
      let x : Disk = tracks_at t b 1 0 n in
      let end : ℕ = end_at t 1 n in
      let inside : end ≤ length t = omega (arith, end_is t 1 n, l.tracks, l.sectors, l.long) in
      let room : 0 + bytes_at t 1 n ≤ length b = omega (arith, l.bytes) in
      let long : length (table_of x) ≡ end = omega (arith, table-length x, end_is t 1 n, tracks-count t b 1 0 n, counts-are t b 1 0 n) in
      let table : t ≡ table_of x ++ drop end t =
      drop-cons t 0 0 (omega (arith, l.long))
      ∙ ap₂ ◌∷◌ (sym (tracks-count t b 1 0 n)) (tracks-laid t b small 1 0 n inside room ∙ sym (tracks-before x [] (drop end t))) in
      rw w.1 (
        over-whole t (table_of x) end long table,
        over-whole b (data_of x) (0 + bytes_at t 1 n) (data-length x ∙ omega (arith, bytes-are t b 1 0 n room)) (data-laid t b 1 0 n),
      )
