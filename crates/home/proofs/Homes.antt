-- The way home and back: the image that a disk is written as is read as that disk.
use mathlib.Core.Path.{◌≡◌, refl, sym, ap, ◌∙◌}
use Prim.Native.Nat.{ℕ, zero, suc, ◌+◌, ◌-◌, ◌*◌, ◌/◌, ◌≤◌, ◌<◌}
use native.Mathlib.Omega.{arith}
use mathlib.Core.Bool.{Bool, true, false, not, cond}
use mathlib.Core.List.{List, [], ◌∷◌, ◌++◌, append_assoc}
use lib.ListN.{length, drop, set, replicate, length-append, length-replicate, get_or-replicate, get_or-append}
use lib.Seq.{drop_at, get_or-set_same, get_or-set_other}
use lib.Dec.{eqb}
use borrow.Author.Tests.{le-leb, eqb-true, eqb-false, ne_eqb, eq-eqb, not-true}
use Rattle.buffer.specs.Over.{over}
use Rattle.buffer.proofs.Overs.{over-length, over-set}
use Rattle.buffer.proofs.Sames.{same_refl}
use Rattle.fields.specs.Bytes.{byte_at, text_at}
use Rattle.fields.specs.Model.{Sector, Track, Disk, Each, track_bytes}
use Rattle.fields.specs.declared.refusal.Refusal.TheVariants.{NoImage}
use Rattle.fields.proofs.Tests.{need-good}
use Rattle.tracks.specs.Block.{track_text, row_place, row_of, sector_of, row_at, sectors_from, stored_from, data_end, track_in, body_of, track_of}
use Rattle.tracks.specs.Rows.{rows_for}
use Rattle.tracks.specs.declared.track.Kind.TheVariants.{Extended}
use Rattle.image.specs.Dsk.{extended_text, image_kind, entries, header_of, entry_of, tracks_from, dsk_of}
use Rattle.store.specs.Store.{contents, sectors_at, sum_at}
use Rattle.store.proofs.Rounds.{rows_before, byte-back, sum_back, sectors-back, part-after}
use Rattle.home.specs.Home.{units, padded, track_info, block_for, blocks_for, home_text, cylinders_of, sides_of, entry_for, sizes_over, size_table, disk_info, image_for, unwritable, home_of}
use Rattle.home.proofs.Sizes.{units-up, head-length, block-length, block_size, each_map, Fine, is-rising, entries-few, all-fine, table-long, disk-block-length, image-length}
use Rattle.home.proofs.Orders.{Ordered, rising-ordered}
use Rattle.std.specs.Prelude.{Result, Ok}
use Rattle.fields.specs.declared.refusal.Refusal.{Refusal}

-- what pads bytes
abbrev padding : List ℕ → List ℕ
padding x = replicate (256 * units (length x) - length x) 0

-- padded bytes before others are the bytes, then the padding
padded-before : (x q : List ℕ) → padded x ++ q ≡ x ++ (padding x ++ q)
unfolding padded
padded-before x q = append_assoc x (padding x) q

-- ---- a track block

-- the sectors of a block, and their stored lengths, as a store's table has them
sectors-at : (b : List ℕ) (k place n : ℕ) → sectors_from Extended b k place n ≡ sectors_at b b (row_place k) place n
unfolding sectors_from sectors_at row_of
sectors-at b k place zero = refl
sectors-at b k place (suc n) =
    let z : row_place (k + 1) ≡ row_place k + 8 = omega arith in
    let next : ℕ = place + (row_at b (row_place k)).stored in
    ap (λ (ss : List Sector). sector_of (row_at b (row_place k)) (drop place b) ∷ ss)
    (sectors-at b (k + 1) next n ∙ ap (λ (at : ℕ). sectors_at b b at next n) z)

stored_at : (b : List ℕ) (k n : ℕ) → stored_from Extended b k n ≡ sum_at b (row_place k) n
unfolding stored_from sum_at row_of
stored_at b k zero = refl
stored_at b k (suc n) =
    let z : row_place (k + 1) ≡ row_place k + 8 = omega arith in
    ap (λ (s : ℕ). (row_at b (row_place k)).stored + s) (stored_at b (k + 1) n ∙ ap (λ (at : ℕ). sum_at b at n) z)

-- data that end inside
data-end : (n l : ℕ) → 0x100 + n ≤ l → data_end n ≤ l
data-end zero l h = omega arith
data-end (suc n) l h = h

-- a header with other bytes behind it
abbrev head_with : Track → List ℕ → List ℕ
head_with t l =
    track_text ++ (0 ∷ 0 ∷ 0 ∷ 0 ∷ t.cylinder ∷ t.side ∷ 0 ∷ 0 ∷ t.size ∷ length t.sectors ∷ t.gap ∷ t.filler ∷ l)

module _ (t : Track) (few : length t.sectors ≤ 29) (rest : List ℕ) where
  -- what follows the header's rows
  rows-rest : List ℕ
  rows-rest = padding (track_info t) ++ (padded (contents t.sectors) ++ rest)

  -- the block by its header, and by its data
  head-is : block_for t ++ rest ≡ head_with t (rows_for t.sectors rows-rest)
  unfolding block_for track_info rows-rest
  head-is =
      append_assoc (padded (track_info t)) (padded (contents t.sectors)) rest
      ∙ padded-before (track_info t) (padded (contents t.sectors) ++ rest)
      ∙ ap (head_with t) (rows_before t.sectors [] rows-rest)

  data_is : drop 0x100 (block_for t ++ rest) ≡ contents t.sectors ++ (padding (contents t.sectors) ++ rest)
  unfolding block_for
  data_is =
      ap (drop 0x100) (append_assoc (padded (track_info t)) (padded (contents t.sectors)) rest)
      ∙ drop_at (padded (track_info t)) (padded (contents t.sectors) ++ rest) 0x100 (head-length t few)
      ∙ padded-before (contents t.sectors) rest

  -- a block is read as its track
  pub block_back : track_of Extended (block_for t ++ rest) ≡ Ok t
  unfolding track_of body_of text_at track_in
  block_back =
      let b : List ℕ = block_for t ++ rest in
      let ss : List Sector = t.sectors in
      let rows : drop 0x18 b ≡ rows_for ss rows-rest = ap (drop 0x18) head-is in
      let count : byte_at b 0x15 ≡ length ss = ap (λ (l : List ℕ). byte_at l 0x15) head-is in
      let text : text_at track_text b 0 ≡ true = ap (λ (l : List ℕ). text_at track_text l 0) head-is ∙ same_refl track_text in
      let sum : stored_from Extended b 0 (byte_at b 0x15) ≡ track_bytes t = rw count (stored_at b 0 (length ss) ∙ sum_back ss b 0x18 rows-rest rows) in
      let back : sectors_from Extended b 0 0x100 (byte_at b 0x15) ≡ ss =
      rw count (sectors-at b 0 0x100 (length ss) ∙ sectors-back ss b b 0x18 0x100 rows-rest (padding (contents ss) ++ rest) rows data_is) in
      let long : 256 + track_bytes t ≤ length b = omega (arith, length-append (block_for t) rest, block-length t few, units-up (track_bytes t)) in
      let whole : data_end (stored_from Extended b 0 (byte_at b 0x15)) ≤ length b = rw sum (data-end (track_bytes t) (length b) long) in
      let inside : row_place (byte_at b 0x15) ≤ length b = omega arith in
      let same : track_in Extended b ≡ t = λ i. record {
        cylinder = byte_at (head-is i) 0x10;
        side = byte_at (head-is i) 0x11;
        size = byte_at (head-is i) 0x14;
        gap = byte_at (head-is i) 0x16;
        filler = byte_at (head-is i) 0x17;
        sectors = back i;
      } in
      simp (le-leb 12 (length b) (omega arith), text, le-leb _ _ inside, le-leb _ _ whole) (ap Ok same)

-- ---- the table

-- the size of the track that has an entry, or another number where none has it
unfoldable size_or : ℕ → Disk → ℕ → ℕ → ℕ
size_or sides [] k z = z
size_or sides (t ∷ ts) k z = cond (eqb k (entry_for sides t)) (length (block_for t) / 256) (size_or sides ts k z)

-- of a track's own entry, and of any other
size-here : (sides : ℕ) (t : Track) (ts : Disk) (k z : ℕ) → k ≡ entry_for sides t → size_or sides (t ∷ ts) k z ≡ length (block_for t) / 256
unfolding size_or
size-here sides t ts k z q = rw (eq-eqb k (entry_for sides t) q)

size-other : (sides : ℕ) (t : Track) (ts : Disk) (k z : ℕ) → (k ≡ entry_for sides t → ⊥) → size_or sides (t ∷ ts) k z ≡ size_or sides ts k z
unfolding size_or
size-other sides t ts k z q = rw (ne_eqb k (entry_for sides t) q)

-- no track has an entry below the first
size_below : (sides from : ℕ) (ts : Disk) (k z : ℕ) → Ordered sides from ts → k < from → size_or sides ts k z ≡ z
unfolding Ordered size_or
size_below sides from [] k z o h = refl
size_below sides from (t ∷ ts) k z o h =
    let l : from ≤ entry_for sides t = o.0 in
    let n : k ≡ entry_for sides t → ⊥ = λ q. absurd (omega arith) in
    size-other sides t ts k z n ∙ size_below sides (entry_for sides t + 1) ts k z o.1 (omega arith)

-- what stands in a table in which sizes were laid
sizes-back : (sides n from : ℕ) (ts : Disk) (table : List ℕ) (k : ℕ) → Each (Fine sides n) ts → Ordered sides from ts → length table ≡ n
    → byte_at (sizes_over sides ts table) k ≡ size_or sides ts k (byte_at table k)
unfolding Each Ordered sizes_over size_or
sizes-back sides n from [] table k f o e = refl
sizes-back sides n from (t ∷ ts) table k f o e =
    let at : ℕ = entry_for sides t in
    let v : ℕ = length (block_for t) / 256 in
    let l : at < length table = omega (arith, f.0.entry) in
    let next : length (over table at (v ∷ [])) ≡ n = over-length table at (v ∷ []) (omega arith) ∙ e in
    sizes-back sides n (at + 1) ts (over table at (v ∷ [])) k f.1 o.1 next
    ∙ ap (λ (x : List ℕ). size_or sides ts k (byte_at x k)) (sym (over-set table at v l))
    ∙ by v l (eqb k at) (eqb-true k at) (eqb-false k at)
  where
    by : (v : ℕ) → entry_for sides t < length table → (x : Bool) → (x ≡ true → k ≡ entry_for sides t) → (x ≡ false → k ≡ entry_for sides t → ⊥)
        → size_or sides ts k (byte_at (set table (entry_for sides t) v) k) ≡ cond x v (size_or sides ts k (byte_at table k))
    by v l true p q =
        let at : ℕ = entry_for sides t in
        let y : k ≡ at = p refl in
        size_below sides (at + 1) ts k (byte_at (set table at v) k) o.1 (omega arith)
        ∙ ap (byte_at (set table at v)) y
        ∙ get_or-set_same table at v 0 l
    by v l false p q = ap (size_or sides ts k) (get_or-set_other table (entry_for sides t) k v 0 (q refl))

-- ---- the tracks

module _ (b : List ℕ) (i at left : ℕ) where
  -- an entry of 0 is passed over
  skip-one : (r : Result Disk Refusal) → byte_at b (0x34 + i) ≡ 0 → tracks_from Extended b (i + 1) at left ≡ r → tracks_from Extended b i at (suc left) ≡ r
  unfolding tracks_from entry_of
  skip-one r z e = rw z e

  -- at any other the track is read, and the next one stands its size further
  read_one : (t : Track) (ts : Disk) (m : ℕ) → byte_at b (0x34 + i) ≡ suc m → track_of Extended (drop at b) ≡ Ok t
      → tracks_from Extended b (i + 1) (at + 256 * suc m) left ≡ Ok ts → tracks_from Extended b i at (suc left) ≡ Ok (t ∷ ts)
  unfolding tracks_from entry_of
  read_one t ts m z r e = rw (z, r, e)

module _ (b : List ℕ) (sides n : ℕ) where
  -- the tracks of the entries that are left are those whose blocks stand there
  tracks-back : (left i at : ℕ) (ts : Disk) → i + left ≡ n → Each (Fine sides n) ts → Ordered sides i ts
      → ((k : ℕ) → i ≤ k → k < n → byte_at b (0x34 + k) ≡ size_or sides ts k 0) → drop at b ≡ blocks_for ts → tracks_from Extended b i at left ≡ Ok ts
  unfolding Each Ordered tracks_from size_or blocks_for
  tracks-back zero i at [] e f o table blocks = refl
  tracks-back zero i at (t ∷ ts) e f o table blocks = absurd (omega (arith, o.0, f.0.entry))
  tracks-back (suc left) i at [] e f o table blocks =
      skip-one b i at left (Ok []) (table i (omega arith) (omega arith))
      (tracks-back left (i + 1) at [] (omega arith) f o (λ k h l. table k (omega arith) l) blocks)
  tracks-back (suc left) i at (t ∷ ts) e f o table blocks =
      let m : ℕ = units (track_bytes t) in
      let next : i + 1 + left ≡ n = omega arith in
      let size : length (block_for t) ≡ 256 * suc m = omega (arith, block-length t f.0.fit.sectors) in
      let past : drop (at + 256 * suc m) b ≡ blocks_for ts = part-after b at (block_for t) (blocks_for ts) blocks (256 * suc m) size in
      by (eqb i (entry_for sides t)) refl
      (λ q. tracks-back left (i + 1) (at + 256 * suc m) ts next f.1 (rw q o.1)
      (λ k h l. table k (omega arith) l ∙ size-other sides t ts k 0 (λ y. absurd (omega arith))) past)
      (λ h. tracks-back left (i + 1) at (t ∷ ts) next f (omega arith, o.1) (λ k h l. table k (omega arith) l) blocks)
    where
      by : (x : Bool) → eqb i (entry_for sides t) ≡ x
          → (i ≡ entry_for sides t → tracks_from Extended b (i + 1) (at + 256 * suc (units (track_bytes t))) left ≡ Ok ts)
          → (i < entry_for sides t → tracks_from Extended b (i + 1) at left ≡ Ok (t ∷ ts))
          → tracks_from Extended b i at (suc left) ≡ Ok (t ∷ ts)
      by true y here later =
          let q : i ≡ entry_for sides t = eqb-true i (entry_for sides t) y in
          let few : length t.sectors ≤ 29 = f.0.fit.sectors in
          let s : length (block_for t) / 256 ≡ suc (units (track_bytes t)) = omega (arith, block_size t few) in
          read_one b i at left t ts (units (track_bytes t)) (table i (omega arith) (omega arith) ∙ size-here sides t ts i 0 q ∙ s)
          (ap (track_of Extended) blocks ∙ block_back t few (blocks_for ts)) (here q)
      by false y here later =
          let q : i ≡ entry_for sides t → ⊥ = eqb-false i (entry_for sides t) y in
          let l : i < entry_for sides t = omega (arith, o.0) in
          skip-one b i at left (Ok (t ∷ ts))
          (table i (omega arith) (omega arith) ∙ size-other sides t ts i 0 q ∙ size_below sides (entry_for sides t + 1) ts i 0 o.1 (omega arith)) (later l)

-- ---- the image

module _ (d : Disk) (can : unwritable d ≡ false) where
  -- the disk block by its fields, and what follows it
  start_is : image_for d
      ≡ home_text ++ (replicate 14 0 ++ (cylinders_of d ∷ sides_of d ∷ 0 ∷ 0 ∷ (size_table d ++ (padding (disk_info d) ++ blocks_for d))))
  unfolding image_for disk_info
  start_is = padded-before (disk_info d) (blocks_for d)

  -- the first track block stands at 0x100
  blocks-are : drop 0x100 (image_for d) ≡ blocks_for d
  unfolding image_for
  blocks-are = drop_at (padded (disk_info d)) (blocks_for d) 0x100 (disk-block-length d can)

  -- the table has as many entries as the disk has cylinders times sides
  entries-are : entries (image_for d) ≡ cylinders_of d * sides_of d
  unfolding entries
  entries-are = ap (λ (l : List ℕ). byte_at l 0x30 * byte_at l 0x31) start_is

  -- the signature, and the table inside
  header-good : header_of (image_for d) ≡ Ok Extended
  unfolding header_of image_kind text_at
  header-good =
      let long : 256 ≤ length (image_for d) = omega (arith, image-length d can) in
      let text : text_at extended_text (image_for d) 0 ≡ true = ap (λ (l : List ℕ). text_at extended_text l 0) start_is ∙ same_refl extended_text in
      let inside : 0x34 + entries (image_for d) ≤ length (image_for d) = omega (arith, entries-are, entries-few d can) in
      simp (le-leb 12 (length (image_for d)) (omega arith), text, le-leb _ _ inside)

  -- the tracks' entries rise
  ordered : Ordered (sides_of d) 0 d
  ordered =
      let n : ℕ = cylinders_of d * sides_of d in
      rising-ordered (sides_of d) d (each_map (Fine (sides_of d) n) (λ t. t.side < sides_of d) (λ t f. f.within) d (all-fine d can)) (is-rising d can)

  -- what stands in the table
  table_is : (k : ℕ) → k < cylinders_of d * sides_of d → byte_at (image_for d) (0x34 + k) ≡ size_or (sides_of d) d k 0
  unfolding size_table
  table_is k h =
      let n : ℕ = cylinders_of d * sides_of d in
      let rest : List ℕ = padding (disk_info d) ++ blocks_for d in
      byte-back (image_for d) 0x34 (size_table d ++ rest) (ap (drop 0x34) start_is) k
      ∙ get_or-append (size_table d) rest 0 k (omega (arith, table-long d can))
      ∙ sizes-back (sides_of d) n 0 d (replicate n 0) k (all-fine d can) ordered (length-replicate n 0)
      ∙ ap (size_or (sides_of d) d k) (get_or-replicate n k 0 0 h)

  -- the image of a disk that is not refused is read as that disk, of the kind extended
  pub home-back : dsk_of (image_for d) ≡ Ok (record { kind = Extended; disk = d })
  unfolding dsk_of
  home-back =
      let n : ℕ = cylinders_of d * sides_of d in
      let tracks : tracks_from Extended (image_for d) 0 0x100 n ≡ Ok d =
      tracks-back (image_for d) (sides_of d) n n 0 0x100 d (omega arith) (all-fine d can) ordered (λ k h l. table_is k l) blocks-are in
      rw (header-good, entries-are, tracks)

-- the same of the answer
pub home-reads : (d : Disk) (x : List ℕ) → home_of d ≡ Ok x → dsk_of x ≡ Ok (record { kind = Extended; disk = d })
unfolding home_of
home-reads d x e =
    let g = need-good (not (unwritable d)) NoImage (Ok (image_for d)) x e in
    let q : image_for d ≡ x = cc g.1 in
    ap dsk_of (sym q) ∙ home-back d (not-true (unwritable d) g.0)
