-- A save, as a change of the disk: found again, done twice, seen from another address, in either order, and nothing else.
use mathlib.Core.Path.{◌≡◌, refl, sym, ap, ◌∙◌, fun_ext}
use Prim.Native.Nat.{ℕ}
use native.Mathlib.Decide.{ℕ_discrete}
use mathlib.Core.Bool.{Bool, true, false, ◌&&◌}
use mathlib.Core.List.{List, ◌∷◌, ◌++◌}
use lib.Dec.{eqb}
use borrow.Author.Tests.{eqb-true}
use Rattle.fields.specs.Model.{Sector, Track, Disk}
use Rattle.fields.specs.declared.id.SectorId.{SectorId}
use Rattle.fields.proofs.Tests.{never, and-fst, and-snd}
use Rattle.store.specs.Find.{Found, nothing, found, find}
use Rattle.store.specs.Search.{is_track, is_sector, in_track, sector_at}
use Rattle.disk.specs.Change.{change, with_content, saved_in, saved}
use Rattle.saves.specs.Words.{Address, with_sectors, saved_at, Only}
use Rattle.saves.proofs.Finds.{map_found, change-change, find-change, find-other, change-comm, Changed, changed-one}

-- the sector at an address
abbrev pub at : Address → Disk → Found Sector
at a d = sector_at d a.side a.cylinder a.id

-- ---- what the tests say

is-track : (s c : ℕ) (t : Track) → is_track s c t ≡ true → (t.cylinder ≡ c) × (t.side ≡ s)
is-track s c t e =
    (eqb-true t.cylinder c (and-fst (eqb t.cylinder c) (eqb t.side s) e), eqb-true t.side s (and-snd (eqb t.cylinder c) (eqb t.side s) e))

pub is-sector : (i : SectorId) (s : Sector) → is_sector i s ≡ true → s.id ≡ i
is-sector i s e =
    let r1 = and-snd (eqb s.id.c i.c) (eqb s.id.h i.h && (eqb s.id.r i.r && eqb s.id.n i.n)) e in
    let r2 = and-snd (eqb s.id.h i.h) (eqb s.id.r i.r && eqb s.id.n i.n) r1 in
    let e1 : s.id.c ≡ i.c = eqb-true s.id.c i.c (and-fst (eqb s.id.c i.c) (eqb s.id.h i.h && (eqb s.id.r i.r && eqb s.id.n i.n)) e) in
    let e2 : s.id.h ≡ i.h = eqb-true s.id.h i.h (and-fst (eqb s.id.h i.h) (eqb s.id.r i.r && eqb s.id.n i.n) r1) in
    let e3 : s.id.r ≡ i.r = eqb-true s.id.r i.r (and-fst (eqb s.id.r i.r) (eqb s.id.n i.n) r2) in
    let e4 : s.id.n ≡ i.n = eqb-true s.id.n i.n (and-snd (eqb s.id.r i.r) (eqb s.id.n i.n) r2) in
    λ k. record { c = e1 k; h = e2 k; r = e3 k; n = e4 k }

true-or-false : (a b : Bool) → (b ≡ true → a ≡ true → ⊥) → a ≡ true → b ≡ false
true-or-false a true h e = absurd (h refl e)
true-or-false a false h e = refl

-- ---- twice to one address: the second alone
pub save-twice : (a : Address) (x y : List ℕ) (d : Disk) → saved_at a y (saved_at a x d) ≡ saved_at a y d
unfolding saved_at saved
save-twice a x y d =
    change-change (is_track a.side a.cylinder) (saved_in a.id x) (saved_in a.id y) (λ t. refl) d
    ∙ ap (λ (f : Track → Track). change (is_track a.side a.cylinder) f d)
    (fun_ext (λ t. ap (λ (ss : List Sector). with_sectors ss t) (change-change (is_sector a.id) (with_content x) (with_content y) (λ s. refl) t.sectors)))

-- ---- found again at its address
in-track-found : (i : SectorId) (x : List ℕ) (o : Found Track) → in_track i (map_found (saved_in i x) o) ≡ map_found (with_content x) (in_track i o)
in-track-found i x nothing = refl
in-track-found i x (found k t) = find-change 0 (is_sector i) (with_content x) (λ s. refl) t.sectors

pub save-found : (a : Address) (x : List ℕ) (d : Disk) → at a (saved_at a x d) ≡ map_found (with_content x) (at a d)
unfolding saved_at saved sector_at
save-found a x d =
    ap (in_track a.id) (find-change 0 (is_track a.side a.cylinder) (saved_in a.id x) (λ t. refl) d)
    ∙ in-track-found a.id x (find (is_track a.side a.cylinder) d)

-- ---- two addresses that differ

ids-apart : (i j : SectorId) → (i ≡ j → ⊥) → (s : Sector) → is_sector i s ≡ true → is_sector j s ≡ false
ids-apart i j differ s = true-or-false (is_sector i s) (is_sector j s) (λ q p. differ (sym (is-sector i s p) ∙ is-sector j s q))

tracks-apart : (a b : Address) → ((a.cylinder ≡ b.cylinder) × (a.side ≡ b.side) → ⊥) → (t : Track) → is_track a.side a.cylinder t ≡ true → is_track b.side b.cylinder t ≡ false
tracks-apart a b differ t =
    true-or-false (is_track a.side a.cylinder t) (is_track b.side b.cylinder t)
    (λ q p.
    let v = is-track a.side a.cylinder t p in
    let w = is-track b.side b.cylinder t q in
    differ (sym v.0 ∙ w.0, sym v.1 ∙ w.1))

-- either the tracks differ, or the track is one and the IDs differ
data Apart (a b : Address) : Type 0 where
  tracks : ((a.cylinder ≡ b.cylinder) × (a.side ≡ b.side) → ⊥) → Apart a b
  ids : a.cylinder ≡ b.cylinder → a.side ≡ b.side → (a.id ≡ b.id → ⊥) → Apart a b

apart : (a b : Address) → (a ≡ b → ⊥) → Apart a b
apart a b differ = go (ℕ_discrete a.cylinder b.cylinder) (ℕ_discrete a.side b.side)
  where
    go : Dec (a.cylinder ≡ b.cylinder) → Dec (a.side ≡ b.side) → Apart a b
    go (no p) q = tracks (λ e. p e.0)
    go (yes p) (no q) = tracks (λ e. q e.1)
    go (yes p) (yes q) = ids p q (λ e. differ (λ t. record { cylinder = p t; side = q t; id = e t }))

in-track-other : (i j : SectorId) → (i ≡ j → ⊥) → (x : List ℕ) (o : Found Track) → in_track j (map_found (saved_in i x) o) ≡ in_track j o
in-track-other i j differ x nothing = refl
in-track-other i j differ x (found k t) = find-other (is_sector i) (is_sector j) (with_content x) (with_content x) (ids-apart i j differ) (λ s. refl) (λ s. refl) 0 t.sectors

-- another address finds what it found
pub save-other : (a b : Address) → (a ≡ b → ⊥) → (x : List ℕ) (d : Disk) → at b (saved_at a x d) ≡ at b d
unfolding saved_at saved sector_at
save-other a b differ x d = go (apart a b differ)
  where
    go : Apart a b → at b (saved_at a x d) ≡ at b d
    go (tracks h) =
        ap (in_track b.id) (find-other (is_track a.side a.cylinder) (is_track b.side b.cylinder) (saved_in a.id x) (λ t. t) (tracks-apart a b h) (λ t. refl) (λ t. refl) 0 d)
    go (ids p q h) =
        rw (sym p, sym q)
        (ap (in_track b.id) (find-change 0 (is_track a.side a.cylinder) (saved_in a.id x) (λ t. refl) d)
        ∙ in-track-other a.id b.id h x (find (is_track a.side a.cylinder) d))

-- in either order
pub save-comm : (a b : Address) → (a ≡ b → ⊥) → (x y : List ℕ) (d : Disk) → saved_at b y (saved_at a x d) ≡ saved_at a x (saved_at b y d)
unfolding saved_at saved
save-comm a b differ x y d = go (apart a b differ)
  where
    go : Apart a b → saved_at b y (saved_at a x d) ≡ saved_at a x (saved_at b y d)
    go (tracks h) =
        change-comm (is_track a.side a.cylinder) (is_track b.side b.cylinder) (saved_in a.id x) (saved_in b.id y) (tracks-apart a b h) (λ t. refl) (λ t. refl) d
    go (ids p q h) =
        rw (sym p, sym q)
        (change-change (is_track a.side a.cylinder) (saved_in a.id x) (saved_in b.id y) (λ t. refl) d
        ∙ ap (λ (f : Track → Track). change (is_track a.side a.cylinder) f d)
        (fun_ext (λ t. ap (λ (ss : List Sector). with_sectors ss t) (change-comm (is_sector a.id) (is_sector b.id) (with_content x) (with_content y) (ids-apart a.id b.id h) (λ s. refl) (λ s. refl) t.sectors)))
        ∙ sym (change-change (is_track a.side a.cylinder) (saved_in b.id y) (saved_in a.id x) (λ t. refl) d))

-- ---- nothing else

pub save-only : (a : Address) (x : List ℕ) (k : ℕ) (s : Sector) (d : Disk) → at a d ≡ found k s → Only a x s d (saved_at a x d)
unfolding saved_at saved sector_at
save-only a x k s d e = go (find (is_track a.side a.cylinder) d) refl e
  where
    go : (o : Found Track) → find (is_track a.side a.cylinder) d ≡ o → in_track a.id o ≡ found k s → Only a x s d (change (is_track a.side a.cylinder) (saved_in a.id x) d)
    go nothing p q = never (cc)
    go (found n t) p q =
        let u : Changed (is_track a.side a.cylinder) (saved_in a.id x) n t 0 d = changed-one (is_track a.side a.cylinder) (saved_in a.id x) n t 0 d p in
        let v : Changed (is_sector a.id) (with_content x) k s 0 t.sectors = changed-one (is_sector a.id) (with_content x) k s 0 t.sectors q in
        record {
          before = u.front;
          behind = u.back;
          track = t;
          front = v.front;
          back = v.back;
          was = u.was;
          is = u.is ∙ ap (λ (ss : List Sector). u.front ++ (with_sectors ss t ∷ u.back)) v.is;
          sectors-were = v.was;
          at-cylinder = (is-track a.side a.cylinder t u.passes).0;
          at_side = (is-track a.side a.cylinder t u.passes).1;
          first-track = u.none_before;
          first-sector = v.none_before;
          named-so = is-sector a.id s v.passes;
        }
