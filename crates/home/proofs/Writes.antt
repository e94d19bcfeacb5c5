-- What the pass that writes leaves: the parts of a track block, the blocks one behind another, the disk block, the whole image.
use mathlib.Core.Path.{◌≡◌, refl, sym, ap, ap₂, ◌∙◌}
use Prim.Native.Nat.{ℕ, ◌+◌, ◌-◌, ◌*◌, ◌/◌, ◌≤◌, ◌<◌}
use native.Mathlib.Omega.{arith}
use mathlib.Core.Bool.{Bool, true, false, cond}
use mathlib.Core.List.{List, [], ◌∷◌, ◌++◌, append_assoc}
use lib.ListN.{length, take, drop, set, replicate, length-append, length-take, length-drop, length-replicate, length-set, replicate-append-replicate}
use lib.Seq.{take-append-le, drop-append-le, take-append-add, drop-append-add, take_at, take_all}
use lib.Dec.{eqb}
use Rattle.buffer.specs.Over.{over}
use Rattle.buffer.proofs.Overs.{over-set, over-length, over-join}
use Rattle.fields.specs.Bytes.{byte_at}
use Rattle.fields.specs.declared.refusal.Refusal.{Refusal}
use Rattle.fields.specs.declared.refusal.Refusal.TheVariants.{ShortBuffer}
use Rattle.fields.specs.Model.{Track, Disk, Each, track_bytes}
use Rattle.tracks.specs.Block.{track_text}
use Rattle.tracks.proofs.Tracks.{down}
use Rattle.store.specs.Store.{table_length, room_of, tracks_for, contents, sum_at, count_at, next_at, track_sum, track_at, tracks_at, bytes_at, disk_of}
use Rattle.store.specs.Spots.{end_at}
use Rattle.store.specs.Calls.{penned}
use Rattle.store.proofs.Pens.{penned-short, penned-whole}
use Rattle.store.proofs.Sums.{down-none, bytes-step, end_step, within, track-sum}
use Rattle.store.proofs.Checks.{kept, room_in, walkable}
use Rattle.store.proofs.Founds.{sectors-count}
use Rattle.store.proofs.Rounds.{contents-length, tracks-before}
use Rattle.disk.proofs.Holds.{sizes-are, contents-laid, tracks-laid}
use Rattle.loading.specs.Laying.{track_for}
use Rattle.loading.proofs.Lays.{lay-on, two-parts, lay-none, track-length}
use Rattle.home.specs.Home.{units, padded, track_info, block_for, blocks_for, home_text, cylinders_of, some_track, sides_of, entry_for, sizes_over, size_table, disk_info, image_for, unwritable}
use Rattle.home.specs.Calls.{image_in, written_as}
use Rattle.home.specs.Passes.{shaped_as, disk_at, Outbound, info_by, empty_block, sizes_in}
use Rattle.home.specs.declared.measure.Shape.{Shape}
use Rattle.home.proofs.Sizes.{units-up, padded-length, block-length, block_size, each_map, Fine, blocks-length, entries-few, all-fine, table-long, disk-block-length, image-length}
use Rattle.home.proofs.Judges.{image-refused, image-shaped}
use Rattle.std.specs.Prelude.{Result, Ok, Err}

-- ---- bytes and the zeros behind them

-- the bytes, and zeros up to the next 256
pub padded-laid : (d d₁ d₂ x : List ℕ) (to u : ℕ) → to ≤ length d → d₁ ≡ over d to x → u ≡ units (length x)
    → d₂ ≡ over d₁ (to + length x) (replicate (256 * u - length x) 0) → d₂ ≡ over d to (padded x)
unfolding padded
padded-laid d d₁ d₂ x to u h e q f =
    two-parts d d₁ d₂ to (to + length x) x (replicate (256 * u - length x) 0) e f refl h
    ∙ ap (λ (n : ℕ). over d to (x ++ replicate (256 * n - length x) 0)) q

-- up to 256 bytes are one unit
one_unit : (n : ℕ) → 0 < n → n ≤ 256 → units n ≡ 1
unfolding units
one_unit n h k = omega arith

-- ---- a header by a track's bytes in a table

-- what stands before the sector list
abbrev pub first_by : List ℕ → List ℕ
first_by k = track_text ++ (0 ∷ 0 ∷ 0 ∷ 0 ∷ byte_at k 0 ∷ byte_at k 1 ∷ 0 ∷ 0 ∷ byte_at k 2 ∷ byte_at k 5 ∷ byte_at k 3 ∷ byte_at k 4 ∷ [])

module _ (k : List ℕ) (h : 6 ≤ length k) (l : length k ≤ 238) where
  -- how long it is before the zeros
  info-long : length (info_by k) ≡ 18 + length k
  info-long = omega (arith, length-drop 6 k)

  -- it is one unit
  header-length : length (padded (info_by k)) ≡ 256
  header-length =
      let u : units (length (info_by k)) ≡ 1 = one_unit (length (info_by k)) (omega (arith, info-long)) (omega (arith, info-long)) in
      padded-length (info_by k) ∙ ap (λ (n : ℕ). 256 * n) u

  -- the first bytes, the sector list and the zeros
  pub header-laid : (d d₁ d₂ d₃ : List ℕ) (to : ℕ) → to + 256 ≤ length d → d₁ ≡ over d to (first_by k) → d₂ ≡ over d₁ (to + 24) (take (length k - 6) (drop 6 k))
      → d₃ ≡ over d₂ (to + (18 + length k)) (replicate (256 - (18 + length k)) 0) → d₃ ≡ over d to (padded (info_by k))
  header-laid d d₁ d₂ d₃ to r e f g =
      let x : List ℕ = info_by k in
      let n : 18 + length k ≡ length x = sym info-long in
      let u : 1 ≡ units (length x) = sym (one_unit (length x) (omega (arith, info-long)) (omega (arith, info-long))) in
      let q : d₂ ≡ over d to x = two-parts d d₁ d₂ to (to + 24) (first_by k) (drop 6 k) e (f ∙ ap (over d₁ (to + 24)) (take_all (length k - 6) (drop 6 k) (simp length-drop (omega arith)))) refl (omega arith) in
      padded-laid d d₂ d₃ x to 1 (omega arith) q u (g ∙ ap (λ (m : ℕ). over d₂ (to + m) (replicate (256 - m) 0)) n)

  -- the header and the data
  pub track-put : (d d₁ d₂ x : List ℕ) (to : ℕ) → to ≤ length d → d₁ ≡ over d to (padded (info_by k)) → d₂ ≡ over d₁ (to + 256) (padded x)
      → d₂ ≡ over d to (padded (info_by k) ++ padded x)
  track-put d d₁ d₂ x to r e f = two-parts d d₁ d₂ to (to + 256) (padded (info_by k)) (padded x) e f (ap (λ (n : ℕ). to + n) (sym header-length)) r

-- ---- the disk block

-- cylinders and sides behind the text, over zeros
pub info-laid : (d d₁ : List ℕ) (c s : ℕ) → d ≡ replicate 256 0 → d₁ ≡ over d 0 home_text → set (set d₁ 48 c) 49 s ≡ empty_block c s
unfolding over empty_block
info-laid d d₁ c s e f = ap (λ (x : List ℕ). set (set x 48 c) 49 s) (f ∙ ap (λ (x : List ℕ). over x 0 home_text) e)

-- laying behind a front, and before a rest
over-behind : (p l s : List ℕ) (at : ℕ) → over (p ++ l) (length p + at) s ≡ p ++ over l at s
unfolding over
over-behind p l s at =
    let e : length p + at + length s ≡ length p + (at + length s) = omega arith in
    ap₂ (λ (x y : List ℕ). x ++ (s ++ y)) (take-append-add p l at) (ap (λ (n : ℕ). drop n (p ++ l)) e ∙ drop-append-add p l (at + length s))
    ∙ append_assoc p (take at l) (s ++ drop (at + length s) l)

over-inside : (l z s : List ℕ) (at : ℕ) → at + length s ≤ length l → over (l ++ z) at s ≡ over l at s ++ z
unfolding over
over-inside l z s at h =
    ap₂ (λ (x y : List ℕ). x ++ (s ++ y)) (take-append-le at l z (omega arith)) (drop-append-le (at + length s) l z h)
    ∙ sym (append_assoc (take at l) (s ++ drop (at + length s) l) z ∙ ap (λ (x : List ℕ). take at l ++ x) (append_assoc s (drop (at + length s) l) z))

-- the sizes that are laid in a block are those of its table
module _ (sides : ℕ) (p z : List ℕ) (e : length p ≡ 0x34) where
  sizes-inside : (d : Disk) (table : List ℕ) → Each (Fine sides (length table)) d → sizes_in sides d (p ++ (table ++ z)) ≡ p ++ (sizes_over sides d table ++ z)
  unfolding sizes_in sizes_over Each
  sizes-inside [] table f = refl
  sizes-inside (t ∷ ts) table f =
      let v : List ℕ = length (block_for t) / 256 ∷ [] in
      let n : ℕ = entry_for sides t in
      let q : n + length v ≤ length table = omega (arith, f.0.entry) in
      let one : over (p ++ (table ++ z)) (0x34 + n) v ≡ p ++ (over table n v ++ z) =
      ap (λ (m : ℕ). over (p ++ (table ++ z)) (m + n) v) (sym e) ∙ over-behind p (table ++ z) v n ∙ ap (λ (x : List ℕ). p ++ x) (over-inside table z v n q) in
      let l : length table ≡ length (over table n v) = sym (over-length table n v q) in
      ap (sizes_in sides ts) one ∙ sizes-inside ts (over table n v) (rw (← l) f.1)

module _ (d : Disk) (can : unwritable d ≡ false) where
  -- what stands before the table
  abbrev front : List ℕ
  front = home_text ++ (replicate 14 0 ++ (cylinders_of d ∷ sides_of d ∷ 0 ∷ 0 ∷ []))

  -- how long the table is
  abbrev entries : ℕ
  entries = cylinders_of d * sides_of d

  -- both blocks by their parts
  empty-is : empty_block (cylinders_of d) (sides_of d) ≡ front ++ (replicate entries 0 ++ replicate (204 - entries) 0)
  unfolding empty_block
  empty-is =
      let e : entries + (204 - entries) ≡ 204 = omega (arith, entries-few d can) in
      ap (λ (x : List ℕ). front ++ x) (sym (replicate-append-replicate entries (204 - entries) 0 ∙ ap (λ (n : ℕ). replicate n 0) e))

  info-is : padded (disk_info d) ≡ front ++ (size_table d ++ replicate (204 - entries) 0)
  unfolding padded disk_info
  info-is =
      let l : length (disk_info d) ≡ 52 + entries = omega (arith, table-long d can) in
      let u : units (length (disk_info d)) ≡ 1 = one_unit (length (disk_info d)) (omega arith) (omega (arith, entries-few d can)) in
      let n : 256 * units (length (disk_info d)) - length (disk_info d) ≡ 204 - entries = rw u (omega (arith, l)) in
      ap (λ (m : ℕ). disk_info d ++ replicate m 0) n

  -- one is the other with the sizes in it
  block-whole : sizes_in (sides_of d) d (empty_block (cylinders_of d) (sides_of d)) ≡ padded (disk_info d)
  unfolding size_table
  block-whole =
      let z : List ℕ = replicate entries 0 in
      let l : entries ≡ length z = sym (length-replicate entries 0) in
      ap (sizes_in (sides_of d) d) empty-is
      ∙ sizes-inside (sides_of d) front (replicate (204 - entries) 0) refl d z (rw (← l) (all-fine d can))
      ∙ sym info-is

-- ---- a track's bytes in a store

-- as many as its rows say
track-stored : (t b : List ℕ) (at place : ℕ) → place + track_sum t at ≤ length b → track_bytes (track_at t b at place) ≡ track_sum t at
track-stored t b at place = sizes-are t b (at + 6) place (count_at t at)

module _ (t b : List ℕ) (small : (k : ℕ) → byte_at t k < 256) (at place : ℕ) (rows : next_at t at ≤ length t) (bytes : place + track_sum t at ≤ length b) where
  -- those in the table
  rows_are : take (next_at t at - at) (drop at t) ≡ track_for (track_at t b at place)
  unfolding tracks_at bytes_at end_at
  rows_are =
      let x : Track = track_at t b at place in
      let e : length (track_for x) ≡ next_at t at - at = omega (arith, track-length x, sectors-count t b (at + 6) place (count_at t at)) in
      ap (take (next_at t at - at)) (tracks-laid t b small at place 1 rows (omega arith) ∙ sym (tracks-before (x ∷ []) [] (drop (next_at t at) t)))
      ∙ take_at (track_for x) (drop (next_at t at) t) (next_at t at - at) e

  -- and those in the data buffer
  contents-are : take (place + track_sum t at - place) (drop place b) ≡ contents (track_at t b at place).sectors
  contents-are =
      let x : Track = track_at t b at place in
      let n : ℕ = place + track_sum t at - place in
      let e : length (contents x.sectors) ≡ n = omega (arith, contents-length x.sectors, track-stored t b at place bytes) in
      ap (take n) (contents-laid t b (at + 6) place (count_at t at))
      ∙ take_at (contents x.sectors) (drop (place + track_sum t at) b) n e

  -- a header by a track's own bytes is its header
  info-here : info_by (track_for (track_at t b at place)) ≡ track_info (track_at t b at place)
  unfolding tracks_for track_info
  info-here = refl

  -- what is laid by them is the track's block
  block_here : padded (info_by (take (next_at t at - at) (drop at t))) ++ padded (take (place + track_sum t at - place) (drop place b))
      ≡ block_for (track_at t b at place)
  unfolding block_for
  block_here = ap₂ (λ (x y : List ℕ). padded x ++ padded y) (ap (λ (x : List ℕ). info_by x) rows_are ∙ info-here) contents-are

-- ---- the loop of `put_tracks`

module _ (t b : List ℕ) (at place : ℕ) where
  -- one track, and none
  tracks-step : (k : ℕ) → 0 < k → tracks_at t b at place k ≡ track_at t b at place ∷ tracks_at t b (next_at t at) (place + track_sum t at) (k - 1)
  unfolding tracks_at
  tracks-step = down (λ k j. tracks_at t b at place k ≡ track_at t b at place ∷ tracks_at t b (next_at t at) (place + track_sum t at) j) (λ k. refl)

  tracks-none : (k : ℕ) → k ≤ 0 → tracks_at t b at place k ≡ []
  unfolding tracks_at
  tracks-none = down-none (λ k. tracks_at t b at place k ≡ []) refl

-- what it knows at its head
pub record Putting (t b block₀ image₀ : List ℕ) (sides : ℕ) (block image : List ℕ) (left at place to : ℕ) : Type 0 where
  pub long : length t ≡ table_length
  pub ends : end_at t at left ≤ table_length
  pub bytes : place + bytes_at t at left ≤ length b
  pub same_block : length block ≡ 256
  pub same-image : length image ≡ length image₀
  pub room : to + length (blocks_for (tracks_at t b at place left)) ≤ length image₀
  pub two : sides ≤ 2
  pub fine : Each (Fine sides 204) (tracks_at t b at place left)
  pub blocks : over image to (blocks_for (tracks_at t b at place left)) ≡ over image₀ 256 (blocks_for (disk_at t b))
  pub sizes : sizes_in sides (tracks_at t b at place left) block ≡ sizes_in sides (disk_at t b) block₀

-- what it knows of the track at hand
pub record Here (t b image : List ℕ) (sides at place to : ℕ) : Type 0 where
  pub long : length t ≡ table_length
  pub rows : next_at t at ≤ table_length
  pub few : count_at t at ≤ 29
  pub bytes : place + track_sum t at ≤ length b
  pub room : to + 256 + 256 * units (track_sum t at) ≤ length image
  pub two : sides ≤ 2
  pub entry : byte_at t at * sides + byte_at t (at + 1) < 204
  pub size : 256 + 256 * units (track_sum t at) ≤ 65280

-- which is what `put_track` asks
pub track-asks : (t b image : List ℕ) (sides at place to : ℕ) → Here t b image sides at place to → (n stored : ℕ) → n ≡ count_at t at → stored ≡ track_sum t at
    → ((6 ≤ length (take (at + 6 + 8 * n - at) (drop at t)))
    × ((length (take (at + 6 + 8 * n - at) (drop at t)) ≤ 238) × (length (take (place + stored - place) (drop place b)) < 4294967296)))
    × (to + 256 + 256 * units (length (take (place + stored - place) (drop place b))) ≤ length image)
track-asks t b image sides at place to x n stored en es =
    let k : length (take (at + 6 + 8 * n - at) (drop at t)) ≡ 6 + 8 * n = simp (length-take, length-drop) (omega (arith, x.rows, x.long)) in
    let l : length (take (place + stored - place) (drop place b)) ≡ track_sum t at = simp (length-take, length-drop) (omega (arith, x.bytes)) in
    ((omega arith, (omega (arith, x.few), omega (arith, x.size, units-up (track_sum t at)))), rw l x.room)

-- entries among more
wider : (sides n : ℕ) (d : Disk) → n ≤ 204 → Each (Fine sides n) d → Each (Fine sides 204) d
wider sides n d h = each_map (Fine sides n) (Fine sides 204) (λ t g. record { fit = g.fit; within = g.within; entry = omega (arith, g.entry) }) d

-- there are no more than two sides
two-sides : (d : Disk) → sides_of d ≤ 2
unfolding sides_of
two-sides d = by (some_track (λ t. eqb t.side 1) d)
  where
    by : (v : Bool) → cond v 2 1 ≤ 2
    by true = omega arith
    by false = omega arith

module _ (t b block₀ image₀ : List ℕ) where
  -- before the first track
  pub putting-start : (s : Shape) → Outbound t b s → length block₀ ≡ 256 → s.long ≤ length image₀ → (k : ℕ) → k ≡ byte_at t 0
      → Putting t b block₀ image₀ s.sides block₀ image₀ k 1 0 256
  putting-start s w l h k e =
      let d : Disk = disk_at t b in
      let f = all-fine d w.can in
      let walk = walkable t b w.laid in
      let long : s.long ≡ 256 + length (blocks_for d) =
      ap (λ (x : Shape). x.long) w.shape ∙ image-length d w.can ∙ ap (λ (n : ℕ). 256 + n) (sym (blocks-length (sides_of d) (cylinders_of d * sides_of d) d f)) in
      let sides : s.sides ≡ sides_of d = ap (λ (x : Shape). x.sides) w.shape in
      rw (e, sides) (record {
        long = walk.long;
        ends = walk.ends;
        bytes = omega (arith, (kept t (room_of b) w.laid).bytes, room_in b);
        same_block = l;
        same-image = refl;
        room = omega (arith, long);
        two = two-sides d;
        fine = wider (sides_of d) (cylinders_of d * sides_of d) d (entries-few d w.can) f;
        blocks = refl;
        sizes = refl;
      })

  module _ (sides : ℕ) (block image : List ℕ) (left at place to : ℕ) (p : Putting t b block₀ image₀ sides block image left at place to) where
    module _ (h : 0 < left) where
      -- the track at hand, and those behind it
      abbrev track : Track
      track = track_at t b at place

      abbrev rest : Disk
      rest = tracks_at t b (next_at t at) (place + track_sum t at) (left - 1)

      -- what holds of them, and what their blocks are
      both : Fine sides 204 track × Each (Fine sides 204) rest
      unfolding Each
      both = rw (tracks-step t b at place left h) at p.fine

      blocks-both : blocks_for (tracks_at t b at place left) ≡ block_for track ++ blocks_for rest
      unfolding blocks_for
      blocks-both = ap blocks_for (tracks-step t b at place left h)

      -- the bytes of the track at hand, and how long its block is
      bytes-in : place + track_sum t at ≤ length b
      bytes-in = omega (arith, bytes-step t at left h, p.bytes)

      stored_here : track_bytes track ≡ track_sum t at
      stored_here = track-stored t b at place bytes-in

      block-long-here : length (block_for track) ≡ 256 + 256 * units (track_sum t at)
      block-long-here = block-length track both.0.fit.sectors ∙ ap (λ (m : ℕ). 256 + 256 * units m) stored_here

      blocks-long : length (blocks_for (tracks_at t b at place left)) ≡ 256 + 256 * units (track_sum t at) + length (blocks_for rest)
      blocks-long = ap length blocks-both ∙ length-append (block_for track) (blocks_for rest) ∙ ap (λ (n : ℕ). n + length (blocks_for rest)) block-long-here

      size-here : length (block_for track) / 256 ≡ 1 + units (track_sum t at)
      size-here = block_size track both.0.fit.sectors ∙ ap (λ (m : ℕ). 1 + units m) stored_here

      -- what is known of it
      pub putting-here : Here t b image sides at place to
      putting-here =
          let f = both.0 in
          let n : length track.sectors ≡ count_at t at = sectors-count t b (at + 6) place (count_at t at) in
          let l = blocks-long in
          record {
            long = p.long;
            rows = within t at left table_length h p.ends;
            few = omega (arith, f.fit.sectors, n);
            bytes = bytes-in;
            room = omega (arith, p.room, p.same-image, l);
            two = p.two;
            entry = f.entry;
            size = rw (← stored_here) f.fit.block;
          }

      -- the track's block is laid, and its size
      putting-past : ((k : ℕ) → byte_at t k < 256) → (image' : List ℕ)
          → image' ≡ over image to (padded (info_by (take (next_at t at - at) (drop at t))) ++ padded (take (place + track_sum t at - place) (drop place b)))
          → Putting t b block₀ image₀ sides (set block (0x34 + (byte_at t at * sides + byte_at t (at + 1))) (1 + units (track_sum t at))) image'
          (left - 1) (next_at t at) (place + track_sum t at) (to + 256 * (1 + units (track_sum t at)))
      unfolding sizes_in
      putting-past small image' e =
          let x = putting-here in
          let l = blocks-long in
          let size : ℕ = 1 + units (track_sum t at) in
          let entry : ℕ = 0x34 + entry_for sides track in
          let q : image' ≡ over image to (block_for track) = e ∙ ap (over image to) (block_here t b small at place (omega (arith, x.rows, x.long)) x.bytes) in
          let next : to + 256 * size ≡ to + length (block_for track) = omega (arith, block-long-here) in
          let in_image : to + length (block_for track) ≤ length image = omega (arith, block-long-here, x.room, p.same-image) in
          record {
            long = p.long;
            ends = omega (arith, end_step t at left h, p.ends);
            bytes = omega (arith, bytes-step t at left h, p.bytes);
            same_block = length-set block entry size ∙ p.same_block;
            same-image = ap length q ∙ over-length image to (block_for track) in_image ∙ p.same-image;
            room = omega (arith, p.room, l);
            two = p.two;
            fine = both.1;
            blocks =
                ap (λ (y : List ℕ). over y (to + 256 * size) (blocks_for rest)) q
                ∙ lay-on image to (block_for track) (blocks_for rest) (over image₀ 256 (blocks_for (disk_at t b))) (to + 256 * size)
                (ap (over image to) (sym blocks-both) ∙ p.blocks) next (omega arith);
            sizes =
                ap (sizes_in sides rest) (over-set block entry size (omega (arith, x.entry, p.same_block)))
                ∙ ap (λ (n : ℕ). sizes_in sides rest (over block entry (n ∷ []))) (sym size-here)
                ∙ ap (λ (d : Disk). sizes_in sides d block) (sym (tracks-step t b at place left h))
                ∙ p.sizes;
          }

      -- the same by the numbers that the code read
      pub putting-again : ((k : ℕ) → byte_at t k < 256) → (n stored u entry : ℕ) → n ≡ count_at t at → stored ≡ sum_at t (at + 6) n
          → u ≡ units stored → entry ≡ byte_at t at * sides + byte_at t (at + 1) → (image' : List ℕ)
          → image' ≡ over image to (padded (info_by (take (at + 6 + 8 * n - at) (drop at t))) ++ padded (take (place + stored - place) (drop place b)))
          → (left' : ℕ) → left' ≡ left - 1
          → Putting t b block₀ image₀ sides (set block (0x34 + entry) (1 + u)) image' left' (at + 6 + 8 * n) (place + stored) (to + 256 * (1 + u))
      putting-again small n stored u entry en es eu ee image' e left' el =
          let next : at + 6 + 8 * n ≡ next_at t at = omega arith in
          let sum : stored ≡ track_sum t at = track-sum t at n stored en es in
          let v : u ≡ units (track_sum t at) = eu ∙ ap units sum in
          rw (el, next, sum, v, ee) (putting-past small image' (rw (next, sum) at e))

    -- behind the last track
    pub putting-done : left ≤ 0 → (image ≡ over image₀ 256 (blocks_for (disk_at t b))) × (block ≡ sizes_in sides (disk_at t b) block₀)
    unfolding blocks_for sizes_in
    putting-done h =
        let n : tracks_at t b at place left ≡ [] = tracks-none t b at place left h in (
          lay-none image to (blocks_for (tracks_at t b at place left)) (over image₀ 256 (blocks_for (disk_at t b))) p.blocks (ap blocks_for n),
          ap (λ (d : Disk). sizes_in sides d block) (sym n) ∙ p.sizes,
        )

-- ---- the whole image

-- few entries are few cylinders of at most two sides
few-cylinders : (c : ℕ) (second : Bool) → c * cond second 2 1 ≤ 204 → (c < 256) × (cond second 2 1 < 256)
few-cylinders c true h = (omega arith, omega arith)
few-cylinders c false h = (omega arith, omega arith)

module _ (t b : List ℕ) (s : Shape) (w : Outbound t b s) where
  -- what a shape comes to
  pub shape-small : (s.cylinders < 256) × (s.sides < 256)
  unfolding sides_of
  shape-small =
      let d : Disk = disk_at t b in
      let second : Bool = some_track (λ x. eqb x.side 1) d in
      rw w.shape (few-cylinders (cylinders_of d) second (entries-few d w.can))

  pub shape-long : 256 ≤ s.long
  shape-long = let e : s.long ≡ length (image_for (disk_at t b)) = ap (λ (x : Shape). x.long) w.shape in omega (arith, e, image-length (disk_at t b) w.can)

  -- the blocks behind the disk block, and that before them
  pub image-laid : (image image₁ image₂ block block₁ : List ℕ) → s.long ≤ length image → block ≡ empty_block s.cylinders s.sides
      → (image₁ ≡ over image 256 (blocks_for (disk_at t b))) × (block₁ ≡ sizes_in s.sides (disk_at t b) block) → image₂ ≡ over image₁ 0 block₁
      → image₂ ≡ over image 0 (image_for (disk_at t b))
  unfolding image_for
  image-laid image image₁ image₂ block block₁ h e f g =
      let d : Disk = disk_at t b in
      let q : block₁ ≡ padded (disk_info d) =
      f.1 ∙ ap (sizes_in s.sides d) e ∙ ap (λ (x : Shape). sizes_in x.sides d (empty_block x.cylinders x.sides)) w.shape ∙ block-whole d w.can in
      let l : 256 ≡ 0 + length (padded (disk_info d)) = omega (arith, disk-block-length d w.can) in
      g
      ∙ ap₂ (λ (x y : List ℕ). over x 0 y) f.0 q
      ∙ over-join image 0 (padded (disk_info d)) (blocks_for d) 256 l (omega (arith, shape-long))

-- ---- the call

module _ (t b : List ℕ) (r : Result Shape Refusal) (j : r ≡ shaped_as (disk_of t b)) where
  -- no image
  pub written_none : (why : Refusal) → r ≡ Err why → (image : List ℕ) → penned (Err why) image ≡ written_as (image_in t b) image
  written_none why e image = ap (λ (x : Result (List ℕ) Refusal). written_as x image) (sym (image-refused t b r j why e))

  module _ (s : Shape) (e : r ≡ Ok s) where
    -- an image: what `put_image` asks, and how long it is
    pub writing : Outbound t b s
    writing = (image-shaped t b r j s e).0

    long-is : s.long ≡ length (image_for (disk_at t b))
    long-is = ap (λ (x : Shape). x.long) writing.shape

    -- a buffer that is too short, and one that is not
    pub written-short : (image : List ℕ) → length image < s.long → penned (Err ShortBuffer) image ≡ written_as (image_in t b) image
    written-short image h = rw (image-shaped t b r j s e).1 (penned-short (image_for (disk_at t b)) image s.long long-is h)

    pub written-whole : (image image₁ : List ℕ) → s.long ≤ length image → image₁ ≡ over image 0 (image_for (disk_at t b))
        → penned (Ok s.long) image₁ ≡ written_as (image_in t b) image
    written-whole image image₁ h q = rw (image-shaped t b r j s e).1 (penned-whole (image_for (disk_at t b)) image s.long long-is image₁ h q)
