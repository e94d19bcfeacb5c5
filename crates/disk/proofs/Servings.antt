-- What a read serves: the extent by place is that of the model's run, and the answers follow.
use mathlib.Core.Path.{◌≡◌, refl, sym, ap, ◌∙◌}
use Prim.Native.Nat.{ℕ, zero, suc, ◌+◌, ◌-◌, ◌*◌, ◌≤◌, ◌<◌, max}
use native.Mathlib.Omega.{arith}
use native.Mathlib.Nat.{suc-mul, mul-le-mul}
use mathlib.Core.List.{List, [], ◌∷◌, ◌++◌}
use mathlib.Core.Bool.{Bool, true, false, cond, ◌&&◌}
use lib.ListN.{length, take, drop, length-append}
use lib.Dec.{eqb, leb}
use borrow.Author.Tests.{eqb-true, le-leb, lt-leb}
use Rattle.buffer.specs.Over.{over}
use Rattle.fields.specs.Model.{size_of, Sector, Track, total}
use Rattle.fields.specs.Bytes.{byte_at}
use Rattle.tracks.specs.Block.{row_at, sector_of}
use Rattle.fields.specs.declared.id.SectorId.{SectorId}
use Rattle.fields.specs.declared.refusal.Refusal.TheVariants.{BadStore, NoTransferRoom}
use Rattle.tracks.specs.declared.track.Row.{Row}
use Rattle.fields.proofs.Sizes.{size-most}
use Rattle.fields.proofs.Tests.{never}
use Rattle.store.specs.Find.{Found, nothing, found, find_from, find}
use Rattle.store.specs.Search.{is_sector, is_track, match_in, match_at, numbered, joined, run_from, read_in, read_at}
use Rattle.store.specs.Store.{transfer_room, contents, sectors_at, sum_at, count_at, tracks_at, room_of, well_laid}
use Rattle.store.specs.Spots.{row_here, sector_spot, track_spot, row_hit, hit_at, spot}
use Rattle.disk.specs.Calls.{filled, reading_of, filled_of, read_of}
use Rattle.disk.specs.Serving.{row_first, more, extent_from, run_of, run_match, Rows, Gathered}
use Rattle.store.specs.declared.answer.Match.{Match}
use Rattle.disk.specs.declared.serve.Extent.{Extent}
use Rattle.store.proofs.Founds.{row_at_spot, track_at_spot, find-row, find-track, HitSpot, hit-missing, hit-spot, track-in, track-rows}
use Rattle.store.proofs.Checks.{kept, walkable, disk-bad, disk-good}
use Rattle.disk.proofs.Gathers.{row_inside, bytes_whole}
use Rattle.std.specs.Prelude.{Result, Ok, Err, Option, Some, None}
use Rattle.fields.specs.declared.refusal.Refusal.{Refusal}
use Rattle.store.specs.declared.find.Hit.{Hit}
use Rattle.disk.specs.declared.answer.Served.{Served}
use Rattle.store.specs.declared.find.Spot.{Spot}

-- ---- the run of the model

-- where a search by place ended, as the place of a row
abbrev place_of : Option Spot → Found ℕ
place_of None = nothing
place_of (Some sp) = found 0 sp.at

first-spot : (t : List ℕ) (w : SectorId) (i at place k : ℕ) → row_first t w at k ≡ place_of (sector_spot t w i at place k)
unfolding row_first sector_spot
first-spot t w i at place zero = refl
first-spot t w i at place (suc k) = told (row_here t w at) (first-spot t w (i + 1) (at + 8) (place + (row_at t at).stored) k)
  where
    told : (h : Bool) → row_first t w (at + 8) k ≡ place_of (sector_spot t w (i + 1) (at + 8) (place + (row_at t at).stored) k)
        → cond h (found 0 at) (row_first t w (at + 8) k) ≡ place_of (cond h (spot i at place) (sector_spot t w (i + 1) (at + 8) (place + (row_at t at).stored) k))
    told true e = refl
    told false e = e

-- how much a list of sectors is
abbrev pub extent_of : List Sector → Extent
extent_of ss = record { sectors = length ss; total = length (contents ss) }

-- a found element passed the test
find-passes : {A : Type 0} (p : A → Bool) (n : ℕ) (xs : List A) (i : ℕ) (x : A) → find_from n p xs ≡ found i x → p x ≡ true
unfolding find_from
find-passes p n [] i x e = cc
find-passes p n (y ∷ ys) i x e = told (p y) refl e (find-passes p (n + 1) ys i x)
  where
    told : (v : Bool) → p y ≡ v → cond v (found n y) (find_from (n + 1) p ys) ≡ found i x → (find_from (n + 1) p ys ≡ found i x → p x ≡ true) → p x ≡ true
    told true q f g = let z : y ≡ x = cc in ap p (sym z) ∙ q
    told false q f g = g f

-- its n is the one that was looked for
last-of-four : (a b c : Bool) (x y : ℕ) → (a && (b && (c && eqb x y))) ≡ true → x ≡ y
last-of-four true true true x y e = eqb-true x y e
last-of-four true true false x y e = never (cc)
last-of-four true false c x y e = never (cc)
last-of-four false b c x y e = never (cc)

same-n : (id : SectorId) (r : ℕ) (s : Sector) → is_sector (numbered id r) s ≡ true → s.id.n ≡ id.n
same-n id r s e = last-of-four (eqb s.id.c id.c) (eqb s.id.h id.h) (eqb s.id.r r) s.id.n id.n e

module _ (id : SectorId) (ss : List Sector) where
  -- a run is no longer than the numbers that were asked for
  pub run-few : (r k : ℕ) → length (run_from id ss r k) ≤ k
  unfolding run_from
  run-few r zero = omega arith
  run-few r (suc k) = told (find (is_sector (numbered id r)) ss) (run-few (r + 1) k)
    where
      told : (x : Found Sector) → length (run_from id ss (r + 1) k) ≤ k → length (joined x (run_from id ss (r + 1) k)) ≤ suc k
      told nothing l = omega arith
      told (found i s) l = omega arith

  -- as many numbers as were found give the same run
  pub run-again : (r k : ℕ) → run_from id ss r (length (run_from id ss r k)) ≡ run_from id ss r k
  unfolding run_from
  run-again r zero = refl
  run-again r (suc k) = told (find (is_sector (numbered id r)) ss) refl (run-again (r + 1) k)
    where
      told : (x : Found Sector) → find (is_sector (numbered id r)) ss ≡ x → run_from id ss (r + 1) (length (run_from id ss (r + 1) k)) ≡ run_from id ss (r + 1) k
          → run_from id ss r (length (joined x (run_from id ss (r + 1) k))) ≡ joined x (run_from id ss (r + 1) k)
      told nothing q e = refl
      told (found i s) q e = (λ j. joined (q j) (e j))

  -- every sector of a run has the same n
  pub run-sizes : (r k : ℕ) → total (λ (s : Sector). size_of s.id.n) (run_from id ss r k) ≡ length (run_from id ss r k) * size_of id.n
  unfolding run_from total
  run-sizes r zero = omega arith
  run-sizes r (suc k) = told (find (is_sector (numbered id r)) ss) refl (run-sizes (r + 1) k)
    where
      told : (x : Found Sector) → find (is_sector (numbered id r)) ss ≡ x
          → total (λ (s : Sector). size_of s.id.n) (run_from id ss (r + 1) k) ≡ length (run_from id ss (r + 1) k) * size_of id.n
          → total (λ (s : Sector). size_of s.id.n) (joined x (run_from id ss (r + 1) k)) ≡ length (joined x (run_from id ss (r + 1) k)) * size_of id.n
      told nothing q e = omega arith
      told (found i s) q e =
          let n : s.id.n ≡ id.n = same-n id r s (find-passes (is_sector (numbered id r)) 0 ss i s q) in
          omega (arith, ap size_of n, suc-mul (length (run_from id ss (r + 1) k)) (size_of id.n))

module _ (t b : List ℕ) (start first count : ℕ) (rows : Rows t b start first count) (id : SectorId) where
  -- what the search for a number says of the run from it on
  run-spot : (r k : ℕ) → run_of t b start first count id r (suc k)
      ≡ joined (row_at_spot t b (sector_spot t (numbered id r) 0 start first count)) (run_of t b start first count id (r + 1) k)
  unfolding run_from
  run-spot r k = ap (λ (x : Found Sector). joined x (run_of t b start first count id (r + 1) k)) (find-row t b (numbered id r) 0 start first count)

  -- the extent by place is that of the run
  pub extent-run : (r k : ℕ) → extent_from t id start count r k ≡ extent_of (run_of t b start first count id r k)
  unfolding extent_from run_from contents
  extent-run r zero = refl
  extent-run r (suc k) =
      (λ i. more t (first-spot t (numbered id r) 0 start first count i) (extent-run (r + 1) k i))
      ∙ told (sector_spot t (numbered id r) 0 start first count) refl
      ∙ ap extent_of (sym (run-spot r k))
    where
      told : (y : Option Spot) → sector_spot t (numbered id r) 0 start first count ≡ y
          → more t (place_of y) (extent_of (run_of t b start first count id (r + 1) k)) ≡ extent_of (joined (row_at_spot t b y) (run_of t b start first count id (r + 1) k))
      told None q = refl
      told (Some sp) q =
          let ss : List Sector = run_of t b start first count id (r + 1) k in
          let c : List ℕ = take (row_at t sp.at).stored (drop sp.place b) in
          let w : length c ≡ (row_at t sp.at).stored = bytes_whole t b start first count rows (numbered id r) (spot sp.index sp.at sp.place) (sym q) sp.index sp.at sp.place refl (row_at t sp.at).stored refl c refl in
          let x : length ss + 1 ≡ suc (length ss) = omega arith in
          let y : (row_at t sp.at).stored + length (contents ss) ≡ length (c ++ contents ss) = omega (arith, w, length-append c (contents ss)) in
          λ j. record { sectors = x j; total = y j }

  -- the row of the first sector stands in the table
  pub served-row : (r : Option Hit) → r ≡ row_hit t id start first count → (w : Match) (at place : ℕ) → r ≡ hit_at w at place → at + 8 ≤ 17609
  served-row r er w at place e =
      let h = hit-spot t b id start first count w at place (sym e ∙ er) in
      row_inside t b start first count rows id (spot h.index at place) h.spot h.index at place refl

  module _ (eot : ℕ) where
    pub serve-missing : None ≡ row_hit t id start first count → (x : List ℕ)
        → filled (Ok None) x ≡ filled_of x (run_match t b start first count id) (run_of t b start first count id id.r (suc (eot - id.r)))
    serve-missing e x =
        let q : run_of t b start first count id id.r (suc (eot - id.r)) ≡ [] =
        run-spot id.r (eot - id.r) ∙ ap (λ (y : Option Spot). joined (row_at_spot t b y) (run_of t b start first count id (id.r + 1) (eot - id.r))) (sym (hit-missing t b id start first count e)) in
        rw q

    module _ (r : Option Hit) (er : r ≡ row_hit t id start first count) (w : Match) (at place : ℕ) (e : r ≡ hit_at w at place)
        (last : ℕ) (el : last ≡ max id.r eot) (m : Extent) (em : m ≡ extent_from t id start count id.r (suc (last - id.r))) where
      here : HitSpot t b id start first count w at place
      here = hit-spot t b id start first count w at place (sym e ∙ er)

      -- the first sector, before the others
      head-is : run_of t b start first count id id.r (suc (eot - id.r))
          ≡ sector_of (row_at t at) (drop place b) ∷ run_of t b start first count id (id.r + 1) (eot - id.r)
      head-is =
          run-spot id.r (eot - id.r)
          ∙ ap (λ (y : Option Spot). joined (row_at_spot t b y) (run_of t b start first count id (id.r + 1) (eot - id.r))) (sym here.spot)

      extent-is : m ≡ extent_of (run_of t b start first count id id.r (suc (eot - id.r)))
      extent-is =
          let n : suc (last - id.r) ≡ suc (eot - id.r) = omega arith in
          em ∙ ap (extent_from t id start count id.r) n ∙ extent-run id.r (suc (eot - id.r))

      pub total-is : m.total ≡ length (contents (run_of t b start first count id id.r (suc (eot - id.r))))
      total-is = ap (λ (y : Extent). y.total) extent-is

      pub sectors-are : m.sectors ≡ length (run_of t b start first count id id.r (suc (eot - id.r)))
      sectors-are = ap (λ (y : Extent). y.sectors) extent-is

      -- as many numbers as were found
      found-run : run_of t b start first count id id.r m.sectors ≡ run_of t b start first count id id.r (suc (eot - id.r))
      found-run = ap (run_of t b start first count id id.r) sectors-are ∙ run-again id (sectors_at t b start first count) id.r (suc (eot - id.r))

      pub serve-gathered : id.r < 256 → eot < 256 → (room : ℕ) → m.total ≤ room → Gathered t b start first count id m.sectors room
      serve-gathered h k room l = record {
        rows = rows;
        numbers = omega (arith, sectors-are, run-few id (sectors_at t b start first count) id.r (suc (eot - id.r)));
        all = ap length found-run ∙ sym sectors-are;
        fits = rw found-run (omega (arith, total-is));
      }

      -- the sum of the sizes is small
      pub serve-small : id.r < 256 → eot < 256 → (size : ℕ) → size ≡ size_of id.n → m.sectors * size ≤ 262144
      serve-small h k size e =
          let n : m.sectors ≤ 256 = omega (arith, sectors-are, run-few id (sectors_at t b start first count) id.r (suc (eot - id.r))) in
          let z : size ≤ 1024 = omega (arith, size-most id.n) in
          mul-le-mul n z

      -- the answers where the first sector is there
      serve_is : (x : List ℕ) → filled_of x (run_match t b start first count id) (run_of t b start first count id id.r (suc (eot - id.r)))
          ≡ cond (leb (length (contents (run_of t b start first count id id.r (suc (eot - id.r))))) (transfer_room x))
          (filled (reading_of (run_match t b start first count id) (sector_of (row_at t at) (drop place b)) (run_of t b start first count id (id.r + 1) (eot - id.r)))
          (over x 0 (contents (run_of t b start first count id id.r (suc (eot - id.r))))))
          (filled (Err NoTransferRoom) x)
      serve_is x = rw head-is

      pub serve-refused : (x : List ℕ) (room : ℕ) → room ≡ transfer_room x → room < m.total
          → filled (Err NoTransferRoom) x ≡ filled_of x (run_match t b start first count id) (run_of t b start first count id id.r (suc (eot - id.r)))
      serve-refused x room ex h =
          let l : transfer_room x < length (contents (run_of t b start first count id id.r (suc (eot - id.r)))) = omega (arith, total-is) in
          sym (serve_is x ∙ simp (lt-leb _ _ l))

      pub serve-good : (x : List ℕ) (room : ℕ) → room ≡ transfer_room x → m.total ≤ room → (row : Row) → row ≡ row_at t at → (size : ℕ) → size ≡ size_of id.n
          → (x' : List ℕ) → x' ≡ over x 0 (contents (run_of t b start first count id id.r m.sectors))
          → filled (Ok (Some (record { total = m.total; sizes = m.sectors * size; st1 = row.st1; st2 = row.st2; sector = w }))) x'
          ≡ filled_of x (run_match t b start first count id) (run_of t b start first count id id.r (suc (eot - id.r)))
      serve-good x room ex h row erow size esize x' ex' =
          let whole : List Sector = run_of t b start first count id id.r (suc (eot - id.r)) in
          let l : length (contents whole) ≤ transfer_room x = omega (arith, total-is) in
          let a : m.total ≡ length (contents whole) = total-is in
          let s : m.sectors * size ≡ total (λ (y : Sector). size_of y.id.n) whole =
          (λ j. ◌*◌ (sectors-are j) (esize j)) ∙ sym (run-sizes id (sectors_at t b start first count) id.r (suc (eot - id.r))) in
          let y : x' ≡ over x 0 (contents whole) = ex' ∙ ap (λ (z : List Sector). over x 0 (contents z)) found-run in
          let a' : m.total ≡ length (contents (sector_of (row_at t at) (drop place b) ∷ run_of t b start first count id (id.r + 1) (eot - id.r))) = a ∙ ap (λ (z : List Sector). length (contents z)) head-is in
          let s' : m.sectors * size ≡ total (λ (y : Sector). size_of y.id.n) (sector_of (row_at t at) (drop place b) ∷ run_of t b start first count id (id.r + 1) (eot - id.r)) =
          s ∙ ap (total (λ (y : Sector). size_of y.id.n)) head-is in
          (λ j. filled (Ok (Some (record { total = a' j; sizes = s' j; st1 = (erow j).st1; st2 = (erow j).st2; sector = here.which j }))) (y j))
          ∙ sym (serve_is x ∙ simp (le-leb _ _ l))

-- ---- a read of a store

module _ (t b x : List ℕ) (side cylinder eot : ℕ) (id : SectorId) where
  pub read-bad : well_laid t (room_of b) ≡ false → filled (Err BadStore) x ≡ read_of t b side cylinder id eot x
  unfolding read_of
  read-bad e = rw (disk-bad t b e)

  module _ (e : well_laid t (room_of b) ≡ true) where
    -- what is read, by where the search for the track ended
    read_is : (y : Option Spot) → y ≡ track_spot t side cylinder 0 1 0 (byte_at t 0) → read_of t b side cylinder id eot x ≡ filled_of x (match_in id (track_at_spot t b y)) (read_in id eot (track_at_spot t b y))
    unfolding read_of read_at match_at
    read_is y ey =
        let f : find (is_track side cylinder) (tracks_at t b 1 0 (byte_at t 0)) ≡ track_at_spot t b y =
        find-track t b side cylinder 0 1 0 (byte_at t 0) ∙ ap (track_at_spot t b) (sym ey) in
        rw (disk-good t b e) (ap (λ (z : Found Track). filled_of x (match_in id z) (read_in id eot z)) f)

    pub read_none : None ≡ track_spot t side cylinder 0 1 0 (byte_at t 0) → filled (Ok None) x ≡ read_of t b side cylinder id eot x
    unfolding track_at_spot
    read_none f = sym (read_is None f)

    module _ (i at place n : ℕ) (f : spot i at place ≡ track_spot t side cylinder 0 1 0 (byte_at t 0)) (en : n ≡ count_at t at) where
      pub read-rows : n < 256 → Rows t b (at + 6) place n
      unfolding room_of
      read-rows h =
          let k = kept t (room_of b) e in
          let w = track-rows t side cylinder i at place n f en (walkable t b e) in
          let p = track-in t side cylinder 0 1 0 (byte_at t 0) i at place (sym f) in
          let q : sum_at t (at + 6) n ≡ sum_at t (at + 6) (count_at t at) = ap (sum_at t (at + 6)) en in
          record { inside = omega (arith, w.0); few = h; total = w.1; held = omega (arith, p.1, k.bytes) }

      pub read_found : (r : Result (Option Served) Refusal) (x' : List ℕ)
          → filled r x' ≡ filled_of x (run_match t b (at + 6) place n id) (run_of t b (at + 6) place n id id.r (suc (eot - id.r)))
          → filled r x' ≡ read_of t b side cylinder id eot x
      unfolding track_at_spot
      read_found r x' g =
          g ∙ ap (λ (m : ℕ). filled_of x (run_match t b (at + 6) place m id) (run_of t b (at + 6) place m id id.r (suc (eot - id.r)))) en
          ∙ sym (read_is (spot i at place) f)
