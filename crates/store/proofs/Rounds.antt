-- The round trip: a disk that is laid in a store is the disk that the store holds, and no store holds two.
use mathlib.Core.Path.{◌≡◌, refl, sym, ap, ap₂, ◌∙◌}
use Prim.Native.Nat.{ℕ, ◌+◌, ◌*◌, ◌/◌, ◌≤◌, min}
use native.Mathlib.Omega.{arith}
use native.Mathlib.Nat.{add-zero}
use mathlib.Core.List.{List, [], ◌∷◌, ◌++◌, append_assoc}
use lib.ListN.{length, take, drop, length-append}
use lib.Seq.{get_or-drop, drop-drop, take_at, drop_at}
use Rattle.buffer.specs.Over.{over}
use Rattle.buffer.proofs.Overs.{over-length, over-front}
use Rattle.fields.specs.Bytes.{byte_at, number_at}
use Rattle.fields.specs.Model.{Sector, Track, Disk, total, track_bytes, sector_count, byte_count}
use Rattle.tracks.specs.Block.{row_at}
use Rattle.tracks.specs.declared.track.Row.{Row}
use Rattle.store.specs.Store.{table_length, room_of, tracks_for, table_of, contents, data_of, sectors_at, sum_at, count_at, next_at, track_sum, track_at, tracks_at, counts_at, bytes_at, disk_of}
use Rattle.tracks.specs.Rows.{row_for, sector_row, rows_for}
use Rattle.store.proofs.Checks.{Kept, well-laid, disk-good}
use Rattle.fields.specs.Capacities.{most_tracks, most_sectors, most_data}
use Rattle.std.specs.Prelude.{Ok}

-- ---- lengths

-- how many bytes sectors store
abbrev pub size_in : List Sector → ℕ
size_in ss = total (λ s. length s.content) ss

-- a row has eight bytes, a track six more, a table one more
pub rows-length : (ss : List Sector) (r : List ℕ) → length (rows_for ss r) ≡ 8 * length ss + length r
unfolding rows_for
rows-length [] r = omega arith
rows-length (s ∷ ss) r = omega (arith, rows-length ss r)

pub tracks-length : (d : Disk) (r : List ℕ) → length (tracks_for d r) ≡ 6 * length d + 8 * sector_count d + length r
unfolding tracks_for total
tracks-length [] r = omega arith
tracks-length (x ∷ d) r = omega (arith, rows-length x.sectors (tracks_for d r), tracks-length d r)

pub table-length : (d : Disk) → length (table_of d) ≡ 1 + 6 * length d + 8 * sector_count d
unfolding table_of
table-length d = omega (arith, tracks-length d [])

-- the data are as long as the contents together
pub contents-length : (ss : List Sector) → length (contents ss) ≡ size_in ss
unfolding contents total
contents-length [] = refl
contents-length (s ∷ ss) = length-append s.content (contents ss) ∙ ap (λ (n : ℕ). length s.content + n) (contents-length ss)

pub data-length : (d : Disk) → length (data_of d) ≡ byte_count d
unfolding data_of total
data-length [] = refl
data-length (x ∷ d) = length-append (contents x.sectors) (data_of d) ∙ ap₂ ◌+◌ (contents-length x.sectors) (data-length d)

-- ---- what follows

-- what is put behind rows is what follows them
pub rows_before : (ss : List Sector) (r q : List ℕ) → rows_for ss r ++ q ≡ rows_for ss (r ++ q)
unfolding rows_for
rows_before [] r q = refl
rows_before (s ∷ ss) r q = ap (row_for (sector_row s)) (rows_before ss r q)

pub tracks-before : (d : Disk) (r q : List ℕ) → tracks_for d r ++ q ≡ tracks_for d (r ++ q)
unfolding tracks_for
tracks-before [] r q = refl
tracks-before (x ∷ d) r q =
    ap (λ (l : List ℕ). x.cylinder ∷ x.side ∷ x.size ∷ x.gap ∷ x.filler ∷ length x.sectors ∷ l)
    (rows_before x.sectors (tracks_for d r) q ∙ ap (rows_for x.sectors) (tracks-before d r q))

-- ---- reading back what stands from a place on

module _ (t : List ℕ) (at : ℕ) (u : List ℕ) (e : drop at t ≡ u) where
  -- the byte at a place, and what follows it
  pub byte-back : (i : ℕ) → byte_at t (at + i) ≡ byte_at u i
  byte-back i = sym (get_or-drop at t i 0) ∙ ap (λ (l : List ℕ). byte_at l i) e

  pub first_back : byte_at t at ≡ byte_at u 0
  first_back = ap (byte_at t) (sym (add-zero at)) ∙ byte-back 0

  pub next-back : (i : ℕ) → drop (at + i) t ≡ drop i u
  next-back i = sym (drop-drop i at t) ∙ ap (drop i) e

-- a sector's row
pub row_back : (t : List ℕ) (at : ℕ) (s : Sector) (r : List ℕ) → drop at t ≡ row_for (sector_row s) r → row_at t at ≡ sector_row s
unfolding row_at number_at
row_back t at s r e =
    let b = byte-back t at (row_for (sector_row s) r) e in
    let seven : at + 6 + 1 ≡ at + 7 = omega arith in
    let z : byte_at t (at + 6 + 1) ≡ length s.content / 256 = ap (byte_at t) seven ∙ b 7 in
    let n : byte_at t (at + 6) + 256 * (byte_at t (at + 6 + 1) + 256 * 0) ≡ length s.content = omega (arith, b 6) in
    λ i. record {
      id = record { c = first_back t at (row_for (sector_row s) r) e i; h = b 1 i; r = b 2 i; n = b 3 i };
      st1 = record { bits = b 4 i };
      st2 = record { bits = b 5 i };
      stored = n i;
    }

-- ---- rows and contents

-- the sum of so many rows, and what follows them
pub sum_back : (ss : List Sector) (t : List ℕ) (at : ℕ) (r : List ℕ) → drop at t ≡ rows_for ss r → sum_at t at (length ss) ≡ size_in ss
unfolding sum_at rows_for total
sum_back [] t at r e = refl
sum_back (s ∷ ss) t at r e =
    ap₂ ◌+◌ (ap (λ (x : Row). x.stored) (row_back t at s (rows_for ss r) e)) (sum_back ss t (at + 8) r (next-back t at (row_for (sector_row s) (rows_for ss r)) e 8))

pub rows-after : (ss : List Sector) (t : List ℕ) (at : ℕ) (r : List ℕ) → drop at t ≡ rows_for ss r → drop (at + 8 * length ss) t ≡ r
unfolding rows_for
rows-after [] t at r e = let z : at + 8 * 0 ≡ at = omega arith in rw z e
rows-after (s ∷ ss) t at r e =
    let z : at + 8 * length (s ∷ ss) ≡ at + 8 + 8 * length ss = omega arith in
    rw z (rows-after ss t (at + 8) r (next-back t at (row_for (sector_row s) (rows_for ss r)) e 8))

-- bytes that stand at a place, and what follows them
module _ (b : List ℕ) (place : ℕ) (c q : List ℕ) (e : drop place b ≡ c ++ q) (n : ℕ) (h : length c ≡ n) where
  pub part-back : take n (drop place b) ≡ c
  part-back = ap (take n) e ∙ take_at c q n h

  pub part-after : drop (place + n) b ≡ q
  part-after = next-back b place (c ++ q) e n ∙ drop_at c q n h

-- the sectors of so many rows
pub sectors-back : (ss : List Sector) (t b : List ℕ) (at place : ℕ) (r q : List ℕ) → drop at t ≡ rows_for ss r → drop place b ≡ contents ss ++ q
    → sectors_at t b at place (length ss) ≡ ss
unfolding sectors_at rows_for contents
sectors-back [] t b at place r q e f = refl
sectors-back (s ∷ ss) t b at place r q e f =
    let g : drop place b ≡ s.content ++ (contents ss ++ q) = f ∙ append_assoc s.content (contents ss) q in
    let w : row_at t at ≡ sector_row s = row_back t at s (rows_for ss r) e in
    let c : take (length s.content) (drop place b) ≡ s.content = part-back b place s.content (contents ss ++ q) g (length s.content) refl in
    let k : drop (place + length s.content) b ≡ contents ss ++ q = part-after b place s.content (contents ss ++ q) g (length s.content) refl in
    let rest : sectors_at t b (at + 8) (place + length s.content) (length ss) ≡ ss =
    sectors-back ss t b (at + 8) (place + length s.content) r q (next-back t at (row_for (sector_row s) (rows_for ss r)) e 8) k in
    rw w (λ i. record { id = s.id; st1 = s.st1; st2 = s.st2; content = c i } ∷ rest i)

-- ---- tracks

-- a track's six bytes and its rows, before what follows them
abbrev pub track_for : Track → List ℕ → List ℕ
track_for x r = x.cylinder ∷ x.side ∷ x.size ∷ x.gap ∷ x.filler ∷ length x.sectors ∷ rows_for x.sectors r

module _ (t : List ℕ) (at : ℕ) (x : Track) (r : List ℕ) (e : drop at t ≡ track_for x r) where
  -- how many sectors and bytes a track has, what follows it, and the track
  pub count-back : count_at t at ≡ length x.sectors
  count-back = byte-back t at (track_for x r) e 5

  pub track-sum-back : track_sum t at ≡ track_bytes x
  track-sum-back = rw count-back (sum_back x.sectors t (at + 6) r (next-back t at (track_for x r) e 6))

  pub track-after : drop (next_at t at) t ≡ r
  track-after =
      let z : at + (6 + 8 * length x.sectors) ≡ at + 6 + 8 * length x.sectors = omega arith in
      rw (count-back, z) (rows-after x.sectors t (at + 6) r (next-back t at (track_for x r) e 6))

  pub track-back : (b : List ℕ) (place : ℕ) (q : List ℕ) → drop place b ≡ contents x.sectors ++ q → track_at t b at place ≡ x
  track-back b place q f =
      let g = byte-back t at (track_for x r) e in
      let ss : sectors_at t b (at + 6) place (count_at t at) ≡ x.sectors =
      rw count-back (sectors-back x.sectors t b (at + 6) place r q (next-back t at (track_for x r) e 6) f) in
      λ i. record {
        cylinder = first_back t at (track_for x r) e i;
        side = g 1 i;
        size = g 2 i;
        gap = g 3 i;
        filler = g 4 i;
        sectors = ss i;
      }

-- how many sectors and bytes so many tracks have, and the tracks
pub counts-back : (d : Disk) (t : List ℕ) (at : ℕ) (r : List ℕ) → drop at t ≡ tracks_for d r → counts_at t at (length d) ≡ sector_count d
unfolding counts_at tracks_for total
counts-back [] t at r e = refl
counts-back (x ∷ d) t at r e =
    ap₂ ◌+◌ (count-back t at x (tracks_for d r) e) (counts-back d t (next_at t at) r (track-after t at x (tracks_for d r) e))

pub bytes_back : (d : Disk) (t : List ℕ) (at : ℕ) (r : List ℕ) → drop at t ≡ tracks_for d r → bytes_at t at (length d) ≡ byte_count d
unfolding bytes_at tracks_for total
bytes_back [] t at r e = refl
bytes_back (x ∷ d) t at r e =
    ap₂ ◌+◌ (track-sum-back t at x (tracks_for d r) e) (bytes_back d t (next_at t at) r (track-after t at x (tracks_for d r) e))

pub tracks-back : (d : Disk) (t b : List ℕ) (at place : ℕ) (r q : List ℕ) → drop at t ≡ tracks_for d r → drop place b ≡ data_of d ++ q
    → tracks_at t b at place (length d) ≡ d
unfolding tracks_at tracks_for data_of
tracks-back [] t b at place r q e f = refl
tracks-back (x ∷ d) t b at place r q e f =
    let g : drop place b ≡ contents x.sectors ++ (data_of d ++ q) = f ∙ append_assoc (contents x.sectors) (data_of d) q in
    let n : length (contents x.sectors) ≡ track_sum t at = contents-length x.sectors ∙ sym (track-sum-back t at x (tracks_for d r) e) in
    ap₂ ◌∷◌ (track-back t at x (tracks_for d r) e b place (data_of d ++ q) g)
    (tracks-back d t b (next_at t at) (place + track_sum t at) r q (track-after t at x (tracks_for d r) e)
    (part-after b place (contents x.sectors) (data_of d ++ q) g (track_sum t at) n))

-- ---- a whole store

module _ (t b : List ℕ) (d : Disk) (long : length t ≡ table_length) (tracks : length d ≤ most_tracks) (sectors : sector_count d ≤ most_sectors) (bytes : byte_count d ≤ room_of b) where
  -- the table as it stands then
  table-laid : over t 0 (table_of d) ≡ length d ∷ tracks_for d (drop (length (table_of d)) t)
  unfolding table_of
  table-laid = over-front t (table_of d) ∙ ap (λ (l : List ℕ). length d ∷ l) (tracks-before d [] (drop (length (table_of d)) t))

  -- neither length changes
  pub table-long : length (over t 0 (table_of d)) ≡ table_length
  table-long = over-length t 0 (table_of d) (omega (arith, table-length d)) ∙ long

  pub room-kept : room_of (over b 0 (data_of d)) ≡ room_of b
  unfolding room_of
  room-kept = ap (λ (n : ℕ). min n most_data) (over-length b 0 (data_of d) (omega (arith, data-length d)))

  -- what is laid is read back
  pub laid-back : disk_of (over t 0 (table_of d)) (over b 0 (data_of d)) ≡ Ok d
  laid-back =
      let r : List ℕ = drop (length (table_of d)) t in
      let u : List ℕ = over t 0 (table_of d) in
      let v : List ℕ = over b 0 (data_of d) in
      let n : byte_at u 0 ≡ length d = ap (λ (l : List ℕ). byte_at l 0) table-laid in
      let e : drop 1 u ≡ tracks_for d r = ap (drop 1) table-laid in
      let counts : counts_at u 1 (byte_at u 0) ≡ sector_count d = rw n (counts-back d u 1 r e) in
      let size : bytes_at u 1 (byte_at u 0) ≡ byte_count d = rw n (bytes_back d u 1 r e) in
      let l : Kept u (room_of v) = record { long = table-long; tracks = omega arith; sectors = omega arith; bytes = omega (arith, room-kept) } in
      disk-good u v (well-laid u (room_of v) l)
      ∙ ap Ok (rw n (tracks-back d u v 1 0 r (drop (length (data_of d)) b) e (over-front b (data_of d))))

  -- a store in which the disk stands already
  pub held : t ≡ over t 0 (table_of d) → b ≡ over b 0 (data_of d) → disk_of t b ≡ Ok d
  held e f = ap₂ disk_of e f ∙ laid-back

-- two disks that stand in one store are one
pub holds-one : (t b : List ℕ) (d e : Disk) → length t ≡ table_length
    → length d ≤ most_tracks → sector_count d ≤ most_sectors → byte_count d ≤ room_of b → t ≡ over t 0 (table_of d) → b ≡ over b 0 (data_of d)
    → length e ≤ most_tracks → sector_count e ≤ most_sectors → byte_count e ≤ room_of b → t ≡ over t 0 (table_of e) → b ≡ over b 0 (data_of e)
    → d ≡ e
holds-one t b d e l n s c x y n' s' c' x' y' =
    let p : disk_of t b ≡ Ok d = held t b d l n s c x y in
    let q : disk_of t b ≡ Ok e = held t b e l n' s' c' x' y' in
    cc
