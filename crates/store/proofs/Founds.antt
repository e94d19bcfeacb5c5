-- From a place in the store to the model: what a search of the disk finds is what stands at the place that the walk answers.
use mathlib.Core.Path.{◌≡◌, refl, sym, ap, ap₂, subst, ◌∙◌}
use Prim.Native.Nat.{ℕ, zero, suc, ◌+◌, ◌-◌, ◌*◌, ◌%◌, ◌≤◌, ◌<◌, max}
use native.Mathlib.Omega.{arith}
use native.Mathlib.Nat.{mod-lt}
use mathlib.Core.List.{List, []}
use mathlib.Core.Bool.{Bool, true, false, cond, not}
use lib.ListN.{length, take, drop}
use lib.Dec.{eqb}
use lib.Seq.{drop-nil}
use Rattle.fields.specs.Bytes.{byte_at}
use Rattle.fields.specs.Model.{Sector, Track, Disk}
use Rattle.tracks.specs.Block.{row_at, sector_of}
use Rattle.fields.specs.declared.id.SectorId.{SectorId}
use Rattle.fields.specs.declared.refusal.Refusal.TheVariants.{BadStore}
use Rattle.fields.proofs.Tests.{never, one-outcome}
use Rattle.store.specs.Find.{Found, nothing, found, find_from, head_from, nth}
use Rattle.store.specs.Search.{is_track, is_sector, in_track, sector_at, match_of, first_match, match_in, match_at, by_index, greatest, is_side0}
use Rattle.store.specs.Calls.{content_of, lookup_of, found_of, has_of, geometry_of, two_sides}
use Rattle.store.specs.Store.{table_length, room_of, sectors_at, sum_at, count_at, next_at, track_sum, track_at, tracks_at, bytes_at, well_laid, disk_of}
use Rattle.store.specs.Spots.{end_at, track_here, track_spot, row_here, sector_spot, spot_in, store_spot, bearing_at, bearing_in, store_bearing, hit_of, row_hit, store_hit}
use Rattle.store.specs.Spots.{turned, index_spot, cylinders_at, Walkable, stands_at, searched, matched_at, matched, Within, Located, Placed, place_at, place_of}
use Rattle.store.specs.declared.answer.Match.{Match}
use Rattle.store.proofs.Sums.{end_is}
use Rattle.store.proofs.Bearings.{bearing-is, bearing-few, reached}
use Rattle.store.proofs.Checks.{room_in, kept, walkable, disk-bad, disk-good}
use Rattle.fields.specs.Capacities.{most_data}
use Rattle.std.specs.Prelude.{Result, Ok, Err, Option, Some, None}
use Rattle.fields.specs.declared.refusal.Refusal.{Refusal}
use Rattle.store.specs.declared.answer.Geometry.{Geometry}
use Rattle.store.specs.declared.find.Hit.{Hit}
use Rattle.store.specs.declared.find.Place.{Place}
use Rattle.store.specs.declared.find.Spot.{Spot}
use Rattle.store.specs.declared.find.Turned.{Turned}
use Rattle.store.specs.Spots.{hit_at, part, spot}
use Rattle.store.proofs.Same.{some-same, ok-same}

-- a function of a choice is the choice of what it answers
cond_map : {A B : Type 0} (f : A → B) (b : Bool) (x y : A) → cond b (f x) (f y) ≡ f (cond b x y)
cond_map f true x y = refl
cond_map f false x y = refl

-- ---- what is found

-- what stands at a spot
unfoldable pub track_at_spot : List ℕ → List ℕ → Option Spot → Found Track
track_at_spot t b None = nothing
track_at_spot t b (Some sp) = found sp.index (track_at t b sp.at sp.place)

abbrev pub row_at_spot : List ℕ → List ℕ → Option Spot → Found Sector
row_at_spot t b None = nothing
row_at_spot t b (Some sp) = found sp.index (sector_of (row_at t sp.at) (drop sp.place b))

module _ (t b : List ℕ) where
  -- the first track, and the first row, with its index
  pub find-track : (side cylinder i at place k : ℕ)
      → find_from i (is_track side cylinder) (tracks_at t b at place k) ≡ track_at_spot t b (track_spot t side cylinder i at place k)
  unfolding find_from tracks_at track_spot track_at_spot
  find-track side cylinder i at place zero = refl
  find-track side cylinder i at place (suc k) =
      ap (cond (track_here t side cylinder at) (found i (track_at t b at place)))
      (find-track side cylinder (i + 1) (next_at t at) (place + track_sum t at) k)
      ∙ cond_map (track_at_spot t b) (track_here t side cylinder at) (spot i at place) _

  pub find-row : (id : SectorId) (i at place k : ℕ)
      → find_from i (is_sector id) (sectors_at t b at place k) ≡ row_at_spot t b (sector_spot t id i at place k)
  unfolding find_from sectors_at sector_spot row_at
  find-row id i at place zero = refl
  find-row id i at place (suc k) =
      ap (cond (row_here t id at) (found i (sector_of (row_at t at) (drop place b))))
      (find-row id (i + 1) (at + 8) (place + (row_at t at).stored) k)
      ∙ cond_map (row_at_spot t b) (row_here t id at) (spot i at place) _

  -- which one it is
  pub row-match : (id : SectorId) (at place k : ℕ)
      → first_match id (sectors_at t b at place k) ≡ match_of (bearing_at t id at k) (row_at_spot t b (sector_spot t id 0 at place k))
  row-match id at place k = ap₂ match_of (sym (bearing-is t b id at place k)) (find-row id 0 at place k)

  in-match : (id : SectorId) (s : Option Spot) → match_in id (track_at_spot t b s) ≡ match_of (bearing_in t id s) (row_at_spot t b (spot_in t id s))
  unfolding track_at_spot
  in-match id None = refl
  in-match id (Some sp) = row-match id (sp.at + 6) sp.place (count_at t sp.at)

  pub match-found : (side cylinder : ℕ) (id : SectorId) → match_at (tracks_at t b 1 0 (byte_at t 0)) side cylinder id
      ≡ match_of (store_bearing t side cylinder id) (row_at_spot t b (store_spot t side cylinder id))
  unfolding match_at store_bearing store_spot
  match-found side cylinder id =
      ap (match_in id) (find-track side cylinder 0 1 0 (byte_at t 0)) ∙ in-match id (track_spot t side cylinder 0 1 0 (byte_at t 0))

  -- the row of an address
  in_spot : (id : SectorId) (s : Option Spot) → in_track id (track_at_spot t b s) ≡ row_at_spot t b (spot_in t id s)
  unfolding track_at_spot
  in_spot id None = refl
  in_spot id (Some sp) = find-row id 0 (sp.at + 6) sp.place (count_at t sp.at)

  pub sector-found : (side cylinder : ℕ) (id : SectorId)
      → sector_at (tracks_at t b 1 0 (byte_at t 0)) side cylinder id ≡ row_at_spot t b (store_spot t side cylinder id)
  unfolding sector_at store_spot
  sector-found side cylinder id =
      ap (in_track id) (find-track side cylinder 0 1 0 (byte_at t 0)) ∙ in_spot id (track_spot t side cylinder 0 1 0 (byte_at t 0))

-- what `first_sector` has found: the row at an index, and which of the sectors it is
pub record HitSpot (t b : List ℕ) (id : SectorId) (start first count : ℕ) (m : Match) (a p : ℕ) : Type 0 where
  pub index : ℕ
  pub spot : spot index a p ≡ sector_spot t id 0 start first count
  pub which : m ≡ first_match id (sectors_at t b start first count)

module _ (t b : List ℕ) (id : SectorId) (start first count : ℕ) where
  pub hit-missing : None ≡ row_hit t id start first count → None ≡ sector_spot t id 0 start first count
  unfolding row_hit
  hit-missing e = told (sector_spot t id 0 start first count) e
    where
      told : (s : Option Spot) → None ≡ hit_of (bearing_at t id start count) s → None ≡ s
      told None q = refl
      told (Some sp) q = never (cc)

  pub hit-spot : (m : Match) (a p : ℕ) → hit_at m a p ≡ row_hit t id start first count → HitSpot t b id start first count m a p
  unfolding row_hit
  hit-spot m a p e = told (sector_spot t id 0 start first count) refl e
    where
      told : (s : Option Spot) → s ≡ sector_spot t id 0 start first count → hit_at m a p ≡ hit_of (bearing_at t id start count) s
          → HitSpot t b id start first count m a p
      told None f q = never (cc)
      told (Some sp) f q =
          let ea : a ≡ sp.at = ap (λ (x : Hit). x.row) (some-same _ _ q) in
          let ep : p ≡ sp.place = ap (λ (x : Hit). x.from) (some-same _ _ q) in
          let em : m ≡ record { place = sp.index + 1; count = bearing_at t id start count } = ap (λ (x : Hit). x.which) (some-same _ _ q) in
          record {
            index = sp.index;
            spot = rw (ea, ep) f;
            which = em ∙ ap (λ (s : Option Spot). match_of (bearing_at t id start count) (row_at_spot t b s)) f ∙ sym (row-match t b id start first count);
          }

-- ---- where it stands

module _ (t : List ℕ) where
  -- a track that was found stands among those that were searched, and so do its bytes
  pub track-in : (side cylinder i at place k j a p : ℕ) → track_spot t side cylinder i at place k ≡ spot j a p
      → (next_at t a ≤ end_at t at k) × (p + track_sum t a ≤ place + bytes_at t at k)
  unfolding track_spot end_at bytes_at
  track-in side cylinder i at place zero j a p e = never (cc)
  track-in side cylinder i at place (suc k) j a p e =
      told (track_here t side cylinder at) e (track-in side cylinder (i + 1) (next_at t at) (place + track_sum t at) k j a p)
    where
      told : (h : Bool) → cond h (spot i at place) (track_spot t side cylinder (i + 1) (next_at t at) (place + track_sum t at) k) ≡ spot j a p
          → (track_spot t side cylinder (i + 1) (next_at t at) (place + track_sum t at) k ≡ spot j a p
          → (next_at t a ≤ end_at t (next_at t at) k) × (p + track_sum t a ≤ place + track_sum t at + bytes_at t (next_at t at) k))
          → (next_at t a ≤ end_at t (next_at t at) k) × (p + track_sum t a ≤ place + (track_sum t at + bytes_at t (next_at t at) k))
      told true q r =
          let ea : a ≡ at = sym (ap (λ (x : Spot). x.at) (some-same _ _ q)) in
          let ep : p ≡ place = sym (ap (λ (x : Spot). x.place) (some-same _ _ q)) in
          rw (ea, ep) (omega (arith, end_is t (next_at t at) k), omega arith)
      told false q r = let h = r q in (h.0, omega (arith, h.1))

  -- and so does a row
  pub row_in : (id : SectorId) (i at place k j a p : ℕ) → sector_spot t id i at place k ≡ spot j a p
      → (a + 8 ≤ at + 8 * k) × (p + (row_at t a).stored ≤ place + sum_at t at k)
  unfolding sector_spot sum_at
  row_in id i at place zero j a p e = never (cc)
  row_in id i at place (suc k) j a p e =
      told (row_here t id at) e (row_in id (i + 1) (at + 8) (place + (row_at t at).stored) k j a p)
    where
      told : (h : Bool) → cond h (spot i at place) (sector_spot t id (i + 1) (at + 8) (place + (row_at t at).stored) k) ≡ spot j a p
          → (sector_spot t id (i + 1) (at + 8) (place + (row_at t at).stored) k ≡ spot j a p
          → (a + 8 ≤ at + 8 + 8 * k) × (p + (row_at t a).stored ≤ place + (row_at t at).stored + sum_at t (at + 8) k))
          → (a + 8 ≤ at + 8 * suc k) × (p + (row_at t a).stored ≤ place + ((row_at t at).stored + sum_at t (at + 8) k))
      told true q r =
          let ea : a ≡ at = sym (ap (λ (x : Spot). x.at) (some-same _ _ q)) in
          let ep : p ≡ place = sym (ap (λ (x : Spot). x.place) (some-same _ _ q)) in
          rw (ea, ep) (omega arith, omega arith)
      told false q r = let h = r q in (omega (arith, h.0), omega (arith, h.1))

  -- the rows of a track that was found
  module _ (side cylinder i a p n : ℕ) (e : spot i a p ≡ track_spot t side cylinder 0 1 0 (byte_at t 0)) (c : n ≡ count_at t a) where
    pub track-rows : Walkable t → (a + 6 + 8 * n ≤ table_length) × (p + sum_at t (a + 6) n ≤ most_data)
    track-rows w =
        let h = track-in side cylinder 0 1 0 (byte_at t 0) i a p (sym e) in
        rw c (omega (arith, h.0, w.ends), omega (arith, h.1, w.total))

    pub track-row : (id : SectorId) (r : Option Hit) → r ≡ row_hit t id (a + 6) p n → r ≡ store_hit t side cylinder id
    unfolding row_hit store_hit store_bearing store_spot
    track-row id r f = f ∙ ap (row_hit t id (a + 6) p) c ∙ ap (λ (s : Option Spot). hit_of (bearing_in t id s) (spot_in t id s)) e

  -- no track, so no row
  pub no-track : (side cylinder : ℕ) (id : SectorId) → None ≡ track_spot t side cylinder 0 1 0 (byte_at t 0) → None ≡ store_hit t side cylinder id
  unfolding store_hit store_bearing store_spot
  no-track side cylinder id e = ap (λ (s : Option Spot). hit_of (bearing_in t id s) (spot_in t id s)) e

  -- the row of an address stands in the table, and its bytes among those that were counted
  pub spot_in_lem : (side cylinder : ℕ) (id : SectorId) (i a p : ℕ) → Walkable t → spot i a p ≡ store_spot t side cylinder id
      → (a + 8 ≤ table_length) × (p + (row_at t a).stored ≤ bytes_at t 1 (byte_at t 0))
  unfolding store_spot
  spot_in_lem side cylinder id i a p w e = told (track_spot t side cylinder 0 1 0 (byte_at t 0)) refl (sym e)
    where
      told : (s : Option Spot) → track_spot t side cylinder 0 1 0 (byte_at t 0) ≡ s → spot_in t id s ≡ spot i a p
          → (a + 8 ≤ table_length) × (p + (row_at t a).stored ≤ bytes_at t 1 (byte_at t 0))
      told None f q = never (cc)
      told (Some sp) f q =
          let h = track-in side cylinder 0 1 0 (byte_at t 0) sp.index sp.at sp.place f in
          let g = row_in id 0 (sp.at + 6) sp.place (count_at t sp.at) i a p q in
          (omega (arith, h.0, g.0, w.ends), omega (arith, h.1, g.1))

-- ---- a row by its index

-- what stands where an index leads, in the track at a place whose bytes begin at another
abbrev pub turned_of : List ℕ → List ℕ → ℕ → ℕ → Option Turned → Found Sector
turned_of t b at place None = nothing
turned_of t b at place (Some tu) = found tu.index (sector_of (row_at t tu.at) (drop (place + sum_at t (at + 6) tu.index) b))

module _ (t b : List ℕ) where
  -- as many sectors as rows, and the one at an index
  pub sectors-count : (at place k : ℕ) → length (sectors_at t b at place k) ≡ k
  unfolding sectors_at
  sectors-count at place zero = refl
  sectors-count at place (suc k) = ap suc (sectors-count (at + 8) (place + (row_at t at).stored) k)

  nth-row : (n j at place k : ℕ) → j < k
      → head_from n (drop j (sectors_at t b at place k)) ≡ found n (sector_of (row_at t (at + 8 * j)) (drop (place + sum_at t at j) b))
  unfolding sectors_at sum_at
  nth-row n j at place zero h = absurd (omega arith)
  nth-row n zero at place (suc k) h =
      let x : at + 8 * 0 ≡ at = omega arith in
      let y : place + 0 ≡ place = omega arith in
      rw (x, y)
  nth-row n (suc j) at place (suc k) h =
      let x : at + 8 + 8 * j ≡ at + 8 * suc j = omega arith in
      let y : place + (row_at t at).stored + sum_at t (at + 8) j ≡ place + ((row_at t at).stored + sum_at t (at + 8) j) = omega arith in
      nth-row n j (at + 8) (place + (row_at t at).stored) k (omega arith) ∙ ap₂ (λ (p q : ℕ). found n (sector_of (row_at t p) (drop q b))) x y

  -- `get_sector_by_idx` names the row that the model's search by index finds
  pub index-found : (at place i : ℕ) → by_index i (track_at t b at place) ≡ turned_of t b at place (index_spot t at i)
  unfolding by_index sectors_at
  index-found at place i = rw (sectors-count (at + 6) place (count_at t at)) (told (count_at t at))
    where
      told : (k : ℕ) → nth (i % k) (sectors_at t b (at + 6) place k) ≡ turned_of t b at place (turned t at i k)
      told zero = ap (head_from (i % 0)) (drop-nil (i % 0))
      told (suc k) = nth-row (i % suc k) (i % suc k) (at + 6) place (suc k) (mod-lt i (omega arith))

-- ---- what `locate` answers

-- a store that is refused, and one that is searched
module _ (t b : List ℕ) (side cylinder : ℕ) (id : SectorId) where
  pub place-bad : well_laid t (room_of b) ≡ false → Err BadStore ≡ place_of t b side cylinder id
  unfolding place_of
  place-bad e = rw e

  pub place_found : (s : Option Hit) → well_laid t (room_of b) ≡ true → s ≡ store_hit t side cylinder id → place_at t s ≡ place_of t b side cylinder id
  unfolding place_of
  place_found s e f = rw e (ap (place_at t) f)

  -- what stands at the place of a spot, and which one it is
  stands-spot : (n : ℕ) (s : Option Spot) → stands_at t b (place_at t (hit_of n s)) ≡ Ok (row_at_spot t b s)
  stands-spot n None = refl
  stands-spot n (Some sp) = ap (λ (k : ℕ). Ok (found k (sector_of (row_at t sp.at) (drop sp.place b)))) (omega arith)

  match-spot : (n : ℕ) (s : Option Spot) → matched_at (place_at t (hit_of n s)) ≡ match_of n (row_at_spot t b s)
  match-spot n None = refl
  match-spot n (Some sp) = refl

  module _ (e : well_laid t (room_of b) ≡ true) where
    spot-says : (s : Option Spot) → s ≡ store_spot t side cylinder id → Ok (row_at_spot t b s) ≡ searched (disk_of t b) side cylinder id
    spot-says s f = rw (disk-good t b e) (ap (λ (x : Option Spot). Ok (row_at_spot t b x)) f ∙ ap Ok (sym (sector-found t b side cylinder id)))

    spot-which : (n : ℕ) (s : Option Spot) → n ≡ store_bearing t side cylinder id → s ≡ store_spot t side cylinder id
        → match_of n (row_at_spot t b s) ≡ matched (disk_of t b) side cylinder id
    spot-which n s g f =
        rw (disk-good t b e) (ap₂ (λ (x : ℕ) (y : Option Spot). match_of x (row_at_spot t b y)) g f ∙ sym (match-found t b side cylinder id))

    -- a row that was found lies inside the table, and its bytes inside the data room
    pub part-inside : (i a p : ℕ) → spot i a p ≡ store_spot t side cylinder id → Placed t b a p (p + (row_at t a).stored) (bytes_at t 1 (byte_at t 0))
    part-inside i a p f =
        let w = walkable t b e in
        let h = spot_in_lem t side cylinder id i a p w f in
        let l = kept t (room_of b) e in
        record { row_inside = omega (arith, h.0, w.long); bytes = refl; bytes_inside = h.1; all = refl; all-inside = l.bytes }

    pub hit-inside : (m : Match) (a p : ℕ) → hit_at m a p ≡ store_hit t side cylinder id
        → Placed t b a p (p + (row_at t a).stored) (bytes_at t 1 (byte_at t 0))
    unfolding store_hit
    hit-inside m a p f = told (store_spot t side cylinder id) refl f
      where
        told : (s : Option Spot) → s ≡ store_spot t side cylinder id → hit_at m a p ≡ hit_of (store_bearing t side cylinder id) s
            → Placed t b a p (p + (row_at t a).stored) (bytes_at t 1 (byte_at t 0))
        told None g q = never (cc)
        told (Some sp) g q =
            let ea : a ≡ sp.at = ap (λ (x : Hit). x.row) (some-same _ _ q) in
            let ep : p ≡ sp.place = ap (λ (x : Hit). x.from) (some-same _ _ q) in
            rw (ea, ep) (part-inside sp.index sp.at sp.place g)

    within-at : (n : ℕ) (s : Option Spot) → s ≡ store_spot t side cylinder id → Within t b (place_at t (hit_of n s))
    within-at n None f = tt
    within-at n (Some sp) f = part-inside sp.index sp.at sp.place f

    located-at : (n : ℕ) (s : Option Spot) → n ≡ store_bearing t side cylinder id → s ≡ store_spot t side cylinder id
        → Located t b side cylinder id (place_at t (hit_of n s))
    located-at n s g f = record {
      says = stands-spot n s ∙ spot-says s f;
      which = match-spot n s ∙ spot-which n s g f;
      within = within-at n s f;
    }

  -- so a place that it answers is within the store, and what stands there is what the search finds
  pub located : (r : Result (Option Place) Refusal) → r ≡ place_of t b side cylinder id → Located t b side cylinder id r
  unfolding place_of store_hit
  located r e = subst (Located t b side cylinder id) (sym e) (told (well_laid t (room_of b)) refl)
    where
      told : (v : Bool) → well_laid t (room_of b) ≡ v
          → Located t b side cylinder id (cond v (place_at t (store_hit t side cylinder id)) (Err BadStore))
      told true q = located-at q (store_bearing t side cylinder id) (store_spot t side cylinder id) refl refl
      told false q = record { says = rw (disk-bad t b q); which = rw (disk-bad t b q); within = tt }

  -- Any two answers that the promise of `locate` allows are equal.
  pub locate-settled : (r r' : Result (Option Place) Refusal) → r ≡ place_of t b side cylinder id → r' ≡ place_of t b side cylinder id → r ≡ r'
  locate-settled r r' = one-outcome r r' (place_of t b side cylinder id)

-- ---- place and count are small, in a table of bytes

pub record SmallMatch (m : Match) : Type 0 where
  pub some : 1 ≤ m.place
  pub place : m.place < 256
  pub count : m.count < 256

module _ (t b : List ℕ) (side cylinder : ℕ) (id : SectorId) (bytes : (k : ℕ) → byte_at t k < 256) where
  -- of a row, of the track that was found, and of what `locate` answers
  row_small : (at n : ℕ) (s : Option Spot) (i j a p : ℕ) → n ≡ bearing_at t id (at + 6) (count_at t at) → s ≡ sector_spot t id 0 (at + 6) i (count_at t at) → s ≡ spot j a p
      → SmallMatch (record { place = j + 1; count = n })
  row_small at n s i j a p f e g =
      let w = reached t id 0 (at + 6) i (count_at t at) j a p (sym e ∙ g) in
      let c = bearing-few t id (at + 6) (count_at t at) in
      let l = bytes (at + 5) in
      record { some = omega arith; place = omega (arith, w.below); count = omega arith }

  spot-small : (y : Option Spot) (m : Match) (a p : ℕ) → hit_at m a p ≡ hit_of (bearing_in t id y) (spot_in t id y) → SmallMatch m
  spot-small None m a p e = never (cc)
  spot-small (Some sp) m a p e = told (sector_spot t id 0 (sp.at + 6) sp.place (count_at t sp.at)) refl e
    where
      told : (s : Option Spot) → s ≡ sector_spot t id 0 (sp.at + 6) sp.place (count_at t sp.at) → hit_at m a p ≡ hit_of (bearing_at t id (sp.at + 6) (count_at t sp.at)) s → SmallMatch m
      told None f q = never (cc)
      told (Some r) f q =
          let em : record { place = r.index + 1; count = bearing_at t id (sp.at + 6) (count_at t sp.at) } ≡ m =
          sym (ap (λ (x : Hit). x.which) (some-same _ _ q)) in
          subst SmallMatch em (row_small sp.at _ (Some r) sp.place r.index r.at r.place refl f refl)

  pub match-small : (m : Match) (row from to end : ℕ) → part m row from to end ≡ place_of t b side cylinder id → SmallMatch m
  unfolding place_of store_hit store_bearing store_spot
  match-small m row from to end e = told (well_laid t (room_of b)) (store_hit t side cylinder id) refl e
    where
      told : (v : Bool) (h : Option Hit) → h ≡ store_hit t side cylinder id → part m row from to end ≡ cond v (place_at t h) (Err BadStore) → SmallMatch m
      told false h f q = never (cc)
      told true None f q = never (cc)
      told true (Some hi) f q =
          let en : hi.which ≡ m = sym (ap (λ (x : Place). x.which) (some-same _ _ (ok-same _ _ q))) in
          subst SmallMatch en (spot-small (track_spot t side cylinder 0 1 0 (byte_at t 0)) hi.which hi.row hi.from f)

-- ---- what it says to a caller that took its answer apart

-- what `lookup` and `has_sector` answer, by what a search of the store answers
abbrev bytes_from : Result (Found Sector) Refusal → List ℕ
bytes_from (Err why) = []
bytes_from (Ok x) = content_of x

abbrev pub has_from : Match → Result (Found Sector) Refusal → Result (Option Match) Refusal
has_from m (Err why) = Err why
has_from m (Ok x) = found_of m x

bytes-from : (r : Result Disk Refusal) (side cylinder : ℕ) (id : SectorId) → bytes_from (searched r side cylinder id) ≡ lookup_of r side cylinder id
bytes-from (Err why) side cylinder id = refl
bytes-from (Ok d) side cylinder id = refl

has-from : (r : Result Disk Refusal) (side cylinder : ℕ) (id : SectorId)
    → has_from (matched r side cylinder id) (searched r side cylinder id) ≡ has_of r side cylinder id
has-from (Err why) side cylinder id = refl
has-from (Ok d) side cylinder id = refl

module _ (t b : List ℕ) (side cylinder : ℕ) (id : SectorId) (r : Result (Option Place) Refusal) (l : r ≡ place_of t b side cylinder id) where
  module _ (p : Result (Option Place) Refusal) (e : r ≡ p) where
    here : Located t b side cylinder id p
    here = located t b side cylinder id p (sym e ∙ l)

    pub said-bytes : bytes_from (stands_at t b p) ≡ lookup_of (disk_of t b) side cylinder id
    said-bytes = ap bytes_from here.says ∙ bytes-from (disk_of t b) side cylinder id

    pub said_has : has_from (matched_at p) (stands_at t b p) ≡ has_of (disk_of t b) side cylinder id
    said_has = ap₂ has_from here.which here.says ∙ has-from (disk_of t b) side cylinder id

  module _ (m : Match) (row from to end : ℕ) (e : r ≡ part m row from to end) where
    pub part-within : Placed t b row from to end
    part-within = (here (part m row from to end) e).within

    pub part_in : (from ≤ to) × (to ≤ length b)
    part_in = omega (arith, part-within, room_in b)

    pub part_bytes : take (to - from) (drop from b) ≡ lookup_of (disk_of t b) side cylinder id
    part_bytes =
        let n : to - from ≡ (row_at t row).stored = omega (arith, part-within) in
        rw n (said-bytes (part m row from to end) e)

-- ---- the greatest cylinders

-- those met before, and those of the tracks that are left
pub cylinders-are : (t b : List ℕ) (c0 c1 at place k : ℕ) → cylinders_at t c0 c1 at k
    ≡ two_sides (max c0 (greatest is_side0 (tracks_at t b at place k))) (max c1 (greatest (λ x. not (is_side0 x)) (tracks_at t b at place k)))
unfolding cylinders_at tracks_at greatest
cylinders-are t b c0 c1 at place zero =
    let x : max c0 0 ≡ c0 = omega arith in
    let y : max c1 0 ≡ c1 = omega arith in
    rw (x, y)
cylinders-are t b c0 c1 at place (suc k) =
    told (eqb (byte_at t (at + 1)) 0) (λ d0 d1. cylinders-are t b d0 d1 (next_at t at) (place + track_sum t at) k)
  where
    told : (s : Bool) → ((d0 d1 : ℕ) → cylinders_at t d0 d1 (next_at t at) k
        ≡ two_sides (max d0 (greatest is_side0 (tracks_at t b (next_at t at) (place + track_sum t at) k)))
        (max d1 (greatest (λ x. not (is_side0 x)) (tracks_at t b (next_at t at) (place + track_sum t at) k))))
        → cond s (cylinders_at t (max c0 (byte_at t at)) c1 (next_at t at) k) (cylinders_at t c0 (max c1 (byte_at t at)) (next_at t at) k)
        ≡ two_sides (max c0 (max (cond s (byte_at t at) 0) (greatest is_side0 (tracks_at t b (next_at t at) (place + track_sum t at) k))))
        (max c1 (max (cond (not s) (byte_at t at) 0) (greatest (λ x. not (is_side0 x)) (tracks_at t b (next_at t at) (place + track_sum t at) k))))
    told true r = r (max c0 (byte_at t at)) c1 ∙ ap₂ two_sides (omega arith) (omega arith)
    told false r = r c0 (max c1 (byte_at t at)) ∙ ap₂ two_sides (omega arith) (omega arith)

module _ (t b : List ℕ) where
  pub geometry-bad : well_laid t (room_of b) ≡ false → Err BadStore ≡ geometry_of (disk_of t b)
  geometry-bad e = rw (disk-bad t b e)

  pub geometry-good : well_laid t (room_of b) ≡ true → (r : Geometry) → r ≡ cylinders_at t 0 0 1 (byte_at t 0) → Ok r ≡ geometry_of (disk_of t b)
  geometry-good e r f =
      let d : Disk = tracks_at t b 1 0 (byte_at t 0) in
      let x : max 0 (greatest is_side0 d) ≡ greatest is_side0 d = omega arith in
      let y : max 0 (greatest (λ z. not (is_side0 z)) d) ≡ greatest (λ z. not (is_side0 z)) d = omega arith in
      ap Ok (f ∙ cylinders-are t b 0 0 1 0 (byte_at t 0) ∙ ap₂ two_sides x y) ∙ ap geometry_of (sym (disk-good t b e))
