-- From what was met to the disk: it can be written exactly where each track fits and the table has room, and the shape is that of its image.
use mathlib.Core.Path.{◌≡◌, refl, sym, ap, ◌∙◌}
use Prim.Native.Nat.{ℕ, zero, suc, ◌+◌, ◌*◌, ◌≤◌, ◌<◌, max}
use native.Mathlib.Omega.{arith}
use mathlib.Core.List.{List, [], ◌∷◌}
use mathlib.Core.Bool.{Bool, true, false, cond, ◌&&◌, ◌||◌, or-false, or_assoc}
use lib.ListN.{length}
use lib.Dec.{eqb, leb, ltb}
use borrow.Author.Tests.{le-leb, leb-true, le-ltb}
use Rattle.fields.specs.Bytes.{byte_at}
use Rattle.fields.specs.Model.{Track, Disk, total, Each, track_bytes}
use Rattle.fields.proofs.Tests.{never, and-fst, and-snd}
use Rattle.store.specs.Store.{sectors_at, count_at, next_at, track_sum, tracks_at, bytes_at}
use Rattle.store.proofs.Rounds.{size_in}
use Rattle.store.proofs.Founds.{sectors-count}
use Rattle.disk.proofs.Holds.{sizes-are}
use Rattle.home.specs.Home.{units, block_for, cylinders_of, some_track, sides_of, entry_for, image_for, side_over_1, sectors_over_29, track_over_65280, entries_over_204, unwritable}
use Rattle.home.specs.Passes.{met_none, met_with, met_at, sides_if, shape_by, shape_if}
use Rattle.home.specs.declared.measure.Met.{Met}
use Rattle.fields.specs.declared.refusal.Refusal.TheVariants.{NoImage}
use Rattle.home.proofs.Sizes.{each_map, Fit, Fine, block-length, is-rising, entries-few, all-fine, image-length}
use Rattle.home.proofs.Orders.{Ordered, rising-ordered, ordered-rising}
use Rattle.std.specs.Prelude.{Result, Ok, Err}
use Rattle.fields.specs.declared.refusal.Refusal.{Refusal}
use Rattle.home.specs.declared.measure.Shape.{Shape}

-- ---- the tracks of a table as a disk

-- what is met of a disk's tracks
unfoldable pub met_of : Met → Disk → Met
met_of m [] = m
met_of m (t ∷ ts) = met_of (met_with m t.cylinder t.side (length t.sectors) (track_bytes t)) ts

pub met-disk : (t b : List ℕ) (m : Met) (at place k : ℕ) → place + bytes_at t at k ≤ length b → met_at t m at k ≡ met_of m (tracks_at t b at place k)
unfolding met_at met_of tracks_at bytes_at
met-disk t b m at place zero h = refl
met-disk t b m at place (suc k) h =
    let n : length (sectors_at t b (at + 6) place (count_at t at)) ≡ count_at t at = sectors-count t b (at + 6) place (count_at t at) in
    let s : size_in (sectors_at t b (at + 6) place (count_at t at)) ≡ track_sum t at = sizes-are t b (at + 6) place (count_at t at) (omega arith) in
    (λ i. met_at t (met_with m (byte_at t at) (byte_at t (at + 1)) (sym n i) (sym s i)) (next_at t at) k)
    ∙ met-disk t b
    (met_with m (byte_at t at) (byte_at t (at + 1)) (length (sectors_at t b (at + 6) place (count_at t at))) (size_in (sectors_at t b (at + 6) place (count_at t at))))
    (next_at t at) (place + track_sum t at) k (omega arith)

-- ---- cylinders, sides and length

met-cylinders : (m : Met) (d : Disk) → (met_of m d).cylinders ≡ max m.cylinders (cylinders_of d)
unfolding met_of met_with cylinders_of
met-cylinders m [] = omega arith
met-cylinders m (t ∷ ts) = omega (arith, met-cylinders (met_with m t.cylinder t.side (length t.sectors) (track_bytes t)) ts)

met-second : (m : Met) (d : Disk) → (met_of m d).second ≡ (m.second || some_track (λ t. eqb t.side 1) d)
unfolding met_of met_with some_track
met-second m [] = sym (or-false m.second)
met-second m (t ∷ ts) = met-second (met_with m t.cylinder t.side (length t.sectors) (track_bytes t)) ts ∙ or_assoc m.second (eqb t.side 1) (some_track (λ t. eqb t.side 1) ts)

met-length : (m : Met) (d : Disk) → (met_of m d).long ≡ m.long + total (λ t. 256 + 256 * units (track_bytes t)) d
unfolding met_of met_with total
met-length m [] = omega arith
met-length m (t ∷ ts) = omega (arith, met-length (met_with m t.cylinder t.side (length t.sectors) (track_bytes t)) ts)

-- ---- whether each track fits

-- all that were met fit and rise: those before, and these
met-fits : (m : Met) (d : Disk) → (met_of m d).fits ≡ true → (m.fits ≡ true) × (Each Fit d × Ordered 256 m.next d)
unfolding met_of met_with Each Ordered
met-fits m [] h = (h, (tt, tt))
met-fits m (t ∷ ts) h =
    let r = met-fits (met_with m t.cylinder t.side (length t.sectors) (track_bytes t)) ts h in
    let x : Bool = leb m.next (entry_for 256 t) in
    let y : Bool = leb t.side 1 in
    let z : Bool = leb (length t.sectors) 29 in
    let w : Bool = leb (256 + 256 * units (track_bytes t)) 65280 in
    let a : (((m.fits && x) && y) && z) ≡ true = and-fst (((m.fits && x) && y) && z) w r.0 in
    let b : ((m.fits && x) && y) ≡ true = and-fst ((m.fits && x) && y) z a in
    let c : (m.fits && x) ≡ true = and-fst (m.fits && x) y b in
    let fit : Fit t = record {
      side = leb-true _ _ (and-snd (m.fits && x) y b);
      sectors = leb-true _ _ (and-snd ((m.fits && x) && y) z a);
      block = leb-true _ _ (and-snd (((m.fits && x) && y) && z) w r.0);
    } in
    (and-fst m.fits x c, ((fit, r.1.0), (leb-true _ _ (and-snd m.fits x c), r.1.1)))

fits-met : (m : Met) (d : Disk) → m.fits ≡ true → Each Fit d → Ordered 256 m.next d → (met_of m d).fits ≡ true
unfolding met_of met_with Each Ordered
fits-met m [] h f o = h
fits-met m (t ∷ ts) h f o =
    fits-met (met_with m t.cylinder t.side (length t.sectors) (track_bytes t)) ts
    (simp (h, le-leb _ _ o.0, le-leb _ _ f.0.side, le-leb _ _ f.0.sectors, le-leb _ _ f.0.block)) f.1 o.1

-- ---- a disk whose tracks fit and rise, and one that can be written

-- their sides are less than 256
small-sides : (d : Disk) → Each Fit d → Each (λ t. t.side < 256) d
small-sides = each_map Fit (λ t. t.side < 256) (λ t f. omega (arith, f.side))

-- a test that no track that fits passes
none-fits : (p : Track → Bool) → ((t : Track) → Fit t → p t ≡ false) → (d : Disk) → Each Fit d → some_track p d ≡ false
unfolding some_track Each
none-fits p f [] g = refl
none-fits p f (t ∷ ts) g = rw (f t g.0) (none-fits p f ts g.1)

-- tracks that fit and rise, with few entries, can be written
fit-can : (d : Disk) → Each Fit d → Ordered 256 0 d → cylinders_of d * sides_of d ≤ 204 → unwritable d ≡ false
unfolding unwritable side_over_1 entries_over_204 sectors_over_29 track_over_65280
fit-can d f o l =
    let block : (t : Track) → Fit t → ltb 65280 (length (block_for t)) ≡ false =
    λ t g. let m : length (block_for t) ≤ 65280 = omega (arith, block-length t g.sectors, g.block) in le-ltb 65280 (length (block_for t)) m in
    rw (
      ordered-rising 256 0 d (small-sides d f) o,
      none-fits (λ t. ltb 1 t.side) (λ t g. le-ltb _ _ g.side) d f,
      le-ltb 204 _ l,
      none-fits (λ t. ltb 29 (length t.sectors)) (λ t g. le-ltb _ _ g.sectors) d f,
      none-fits (λ t. ltb 65280 (length (block_for t))) block d f,
    ) refl

-- and tracks of a disk that can be written fit and rise
can-fit : (d : Disk) → unwritable d ≡ false → Each Fit d
can-fit d can = each_map (Fine (sides_of d) (cylinders_of d * sides_of d)) Fit (λ t f. f.fit) d (all-fine d can)

can-rise : (d : Disk) → unwritable d ≡ false → Ordered 256 0 d
can-rise d can = rising-ordered 256 d (small-sides d (can-fit d can)) (is-rising d can)

-- ---- the shape

-- what was met of a disk gives the shape of its image, or 12
pub shape-disk : (d : Disk) → shape_by (met_of met_none d) ≡ shape_if (unwritable d) d
unfolding shape_by
shape-disk d = by (unwritable d) refl
  where
    sides : sides_if (met_of met_none d).second ≡ sides_of d
    sides = unfold sides_of in ap sides_if (met-second met_none d)

    cylinders : (met_of met_none d).cylinders ≡ cylinders_of d
    cylinders = met-cylinders met_none d ∙ omega arith

    by : (v : Bool) → unwritable d ≡ v → cond {A = Result Shape Refusal} ((met_of met_none d).fits && leb ((met_of met_none d).cylinders * sides_if (met_of met_none d).second) 204)
        (Ok (record { cylinders = (met_of met_none d).cylinders; sides = sides_if (met_of met_none d).second; long = (met_of met_none d).long })) (Err NoImage)
        ≡ shape_if v d
    by false e =
        let fits : (met_of met_none d).fits ≡ true = fits-met met_none d refl (can-fit d e) (can-rise d e) in
        let long : (met_of met_none d).long ≡ length (image_for d) = met-length met_none d ∙ sym (image-length d e) in
        rw (sides, cylinders, fits, le-leb _ _ (entries-few d e), long) refl
    by true e = rw (sides, cylinders) (other ((met_of met_none d).fits && leb (cylinders_of d * sides_of d) 204) refl)
      where
        other : (v : Bool) → ((met_of met_none d).fits && leb (cylinders_of d * sides_of d) 204) ≡ v
            → cond {A = Result Shape Refusal} v (Ok (record { cylinders = cylinders_of d; sides = sides_of d; long = (met_of met_none d).long })) (Err NoImage) ≡ Err NoImage
        other false q = refl
        other true q =
            let f = (met-fits met_none d (and-fst (met_of met_none d).fits (leb (cylinders_of d * sides_of d) 204) q)).1 in
            let no : unwritable d ≡ false = fit-can d f.0 f.1 (leb-true _ _ (and-snd (met_of met_none d).fits (leb (cylinders_of d * sides_of d) 204) q)) in
            never (cc)
