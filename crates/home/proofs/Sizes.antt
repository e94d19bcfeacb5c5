-- How long what is written is, and what a disk is that can be written.
use mathlib.Core.Path.{◌≡◌, refl, ap, ap₂, ◌∙◌}
use Prim.Native.Nat.{ℕ, ◌+◌, ◌-◌, ◌*◌, ◌/◌, ◌≤◌, ◌<◌}
use native.Mathlib.Nat.{mul-le-mul_right}
use native.Mathlib.Omega.{arith}
use mathlib.Core.Bool.{Bool, true, false, not, cond, ◌||◌}
use mathlib.Core.List.{List, [], ◌∷◌}
use lib.ListN.{length, replicate, length-append, length-replicate}
use lib.Dec.{eqb, ltb}
use borrow.Author.Tests.{ltb-false, eqb-false, not-false}
use Rattle.buffer.specs.Over.{over}
use Rattle.buffer.proofs.Overs.{over-length}
use Rattle.fields.specs.Model.{Track, Disk, total, Each, track_bytes}
use Rattle.fields.proofs.Tests.{never}
use Rattle.store.specs.Store.{contents}
use Rattle.store.proofs.Rounds.{rows-length, contents-length}
use Rattle.home.specs.Home.{units, padded, track_info, block_for, blocks_for, cylinders_of, some_track, sides_of, entry_for}
use Rattle.home.specs.Home.{sizes_over, size_table, disk_info, image_for, rising, side_over_1, entries_over_204, sectors_over_29, track_over_65280, unwritable}

-- ---- padding

-- the units hold the bytes, and less than one of them is left empty
pub units-up : (n : ℕ) → (n ≤ 256 * units n) × (256 * units n ≤ n + 255)
unfolding units
units-up n = (omega arith, omega arith)

-- padded bytes are as long as their units
pub padded-length : (x : List ℕ) → length (padded x) ≡ 256 * units (length x)
unfolding padded
padded-length x =
    let n : ℕ = 256 * units (length x) - length x in
    length-append x (replicate n 0) ∙ omega (arith, length-replicate {A = ℕ} n 0, units-up (length x))

-- ---- a track block

-- a header: 24 bytes, and 8 for each sector
pub info-length : (t : Track) → length (track_info t) ≡ 24 + 8 * length t.sectors
unfolding track_info
info-length t = omega (arith, rows-length t.sectors [])

-- a header of at most 29 sectors is one unit
pub head-length : (t : Track) → length t.sectors ≤ 29 → length (padded (track_info t)) ≡ 256
head-length t h = omega (arith, padded-length (track_info t), units-up (length (track_info t)), info-length t)

-- a block: its header, and its data in units
pub block-length : (t : Track) → length t.sectors ≤ 29 → length (block_for t) ≡ 256 + 256 * units (track_bytes t)
unfolding block_for
block-length t h =
    length-append (padded (track_info t)) (padded (contents t.sectors))
    ∙ ap₂ ◌+◌ (head-length t h) (padded-length (contents t.sectors) ∙ ap (λ (n : ℕ). 256 * units n) (contents-length t.sectors))

-- and in the table
pub block_size : (t : Track) → length t.sectors ≤ 29 → length (block_for t) / 256 ≡ 1 + units (track_bytes t)
block_size t h = omega (arith, block-length t h)

-- ---- a disk that can be written

-- what holds of every track because something else does
pub each_map : (P Q : Track → Type 0) → ((t : Track) → P t → Q t) → (d : Disk) → Each P d → Each Q d
unfolding Each
each_map P Q f [] e = tt
each_map P Q f (t ∷ ts) e = (f t e.0, each_map P Q f ts e.1)

-- a track that has a block
pub record Fit (t : Track) : Type 0 where
  pub side : t.side ≤ 1
  pub sectors : length t.sectors ≤ 29
  pub block : 256 + 256 * units (track_bytes t) ≤ 65280

-- and an entry among so many
pub record Fine (sides n : ℕ) (t : Track) : Type 0 where
  pub fit : Fit t
  pub within : t.side < sides
  pub entry : entry_for sides t < n

-- neither part of a disjunction that does not hold
pub neither : (x y : Bool) → (x || y) ≡ false → (x ≡ false) × (y ≡ false)
neither true y e = never (cc)
neither false y e = (refl, e)

-- a track on side 1 makes two sides, and those of the tracks behind it are no more
side-counts : (s : ℕ) (more : Bool) (n : ℕ) → s ≤ 1 → cond (eqb s 1 || more) 2 1 ≤ n → (s < n) × (cond more 2 1 ≤ n)
side-counts s more n h l = by (eqb s 1) more (eqb-false s 1) l
  where
    by : (one m : Bool) → (one ≡ false → s ≡ 1 → ⊥) → cond (one || m) 2 1 ≤ n → (s < n) × (cond m 2 1 ≤ n)
    by true true f l = (omega arith, l)
    by true false f l = (omega arith, omega arith)
    by false true f l = (omega arith, l)
    by false false f l = let q : s ≡ 1 → ⊥ = f refl in (omega arith, l)

-- tracks among so many cylinders and sides that are not refused
fine-all : (c n : ℕ) (d : Disk) → cylinders_of d ≤ c → sides_of d ≤ n → side_over_1 d ≡ false → sectors_over_29 d ≡ false → track_over_65280 d ≡ false
    → Each (Fine n (c * n)) d
unfolding Each cylinders_of sides_of side_over_1 sectors_over_29 track_over_65280 some_track
fine-all c n [] hc hn side sectors long = tt
fine-all c n (t ∷ ts) hc hn side sectors long =
    let x = neither (ltb 1 t.side) (some_track (λ u. ltb 1 u.side) ts) side in
    let y = neither (ltb 29 (length t.sectors)) (some_track (λ u. ltb 29 (length u.sectors)) ts) sectors in
    let z = neither (ltb 65280 (length (block_for t))) (some_track (λ u. ltb 65280 (length (block_for u))) ts) long in
    let s : t.side ≤ 1 = ltb-false 1 t.side x.0 in
    let k : length t.sectors ≤ 29 = ltb-false 29 (length t.sectors) y.0 in
    let b : length (block_for t) ≤ 65280 = ltb-false 65280 (length (block_for t)) z.0 in
    let m = side-counts t.side (some_track (λ u. eqb u.side 1) ts) n s hn in
    let l : t.cylinder + 1 ≤ c = omega arith in (
      record {
        fit = record { side = s; sectors = k; block = omega (arith, block-length t k) };
        within = m.0;
        entry = omega (arith, m.0, mul-le-mul_right n l);
      },
      fine-all c n ts (omega arith) m.1 x.1 y.1 z.1,
    )

-- ---- the table and the blocks

-- laying sizes keeps the length of a table
pub sizes-length : (sides n : ℕ) (d : Disk) (table : List ℕ) → Each (Fine sides n) d → length table ≡ n → length (sizes_over sides d table) ≡ n
unfolding Each sizes_over
sizes-length sides n [] table f e = e
sizes-length sides n (t ∷ ts) table f e =
    let next : List ℕ = over table (entry_for sides t) (length (block_for t) / 256 ∷ []) in
    sizes-length sides n ts next f.1 (over-length table (entry_for sides t) (length (block_for t) / 256 ∷ []) (omega (arith, f.0.entry)) ∙ e)

-- the blocks of tracks that have one
pub blocks-length : (sides n : ℕ) (d : Disk) → Each (Fine sides n) d → length (blocks_for d) ≡ total (λ t. 256 + 256 * units (track_bytes t)) d
unfolding Each blocks_for total
blocks-length sides n [] f = refl
blocks-length sides n (t ∷ ts) f =
    length-append (block_for t) (blocks_for ts) ∙ ap₂ ◌+◌ (block-length t f.0.fit.sectors) (blocks-length sides n ts f.1)

module _ (d : Disk) (can : unwritable d ≡ false) where
  -- the tracks rise
  pub is-rising : rising d ≡ true
  unfolding unwritable
  is-rising = not-false (rising d) (neither (not (rising d)) _ can).0

  -- the cases behind the first, behind the second and behind the third
  sides-in : side_over_1 d || (entries_over_204 d || (sectors_over_29 d || track_over_65280 d)) ≡ false
  unfolding unwritable
  sides-in = (neither (not (rising d)) _ can).1

  entries-in : entries_over_204 d || (sectors_over_29 d || track_over_65280 d) ≡ false
  entries-in = (neither (side_over_1 d) _ sides-in).1

  tracks-in : sectors_over_29 d || track_over_65280 d ≡ false
  tracks-in = (neither (entries_over_204 d) _ entries-in).1

  -- the table has room in the disk block
  pub entries-few : cylinders_of d * sides_of d ≤ 204
  unfolding entries_over_204
  entries-few = ltb-false 204 (cylinders_of d * sides_of d) (neither (entries_over_204 d) _ entries-in).0

  -- every track has a block and an entry
  pub all-fine : Each (Fine (sides_of d) (cylinders_of d * sides_of d)) d
  all-fine =
      let c : cylinders_of d ≤ cylinders_of d = omega arith in
      let s : sides_of d ≤ sides_of d = omega arith in
      fine-all (cylinders_of d) (sides_of d) d c s (neither (side_over_1 d) _ sides-in).0
      (neither (sectors_over_29 d) _ tracks-in).0 (neither (sectors_over_29 d) _ tracks-in).1

  -- the table has an entry for each cylinder and side
  pub table-long : length (size_table d) ≡ cylinders_of d * sides_of d
  unfolding size_table
  table-long =
      let n : ℕ = cylinders_of d * sides_of d in
      sizes-length (sides_of d) n d (replicate n 0) all-fine (length-replicate n 0)

  -- the disk block is one unit
  pub disk-block-length : length (padded (disk_info d)) ≡ 256
  unfolding disk_info
  disk-block-length =
      let l : length (disk_info d) ≡ 0x34 + length (size_table d) = omega arith in
      omega (arith, padded-length (disk_info d), units-up (length (disk_info d)), table-long, entries-few)

  -- the image: the disk block and the blocks of the tracks
  pub image-length : length (image_for d) ≡ 256 + total (λ t. 256 + 256 * units (track_bytes t)) d
  unfolding image_for
  image-length =
      length-append (padded (disk_info d)) (blocks_for d)
      ∙ ap₂ ◌+◌ disk-block-length (blocks-length (sides_of d) (cylinders_of d * sides_of d) d all-fine)
