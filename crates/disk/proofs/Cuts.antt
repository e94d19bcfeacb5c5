-- Changing one piece of what is laid: a list cut at the first element that a search finds, the bytes laid for it, and a slice that begins with them.
use mathlib.Core.Path.{◌≡◌, refl, sym, ap, ◌∙◌}
use Prim.Native.Nat.{ℕ, zero, suc, ◌+◌, ◌*◌, ◌≤◌}
use native.Mathlib.Omega.{arith}
use mathlib.Core.List.{List, [], ◌∷◌, ◌++◌, append_assoc, append-nil}
use mathlib.Core.Bool.{Bool, true, false, cond}
use lib.ListN.{length, take, drop, length-append}
use lib.Seq.{slice, take_at, drop_at}
use Rattle.buffer.specs.Over.{over}
use Rattle.buffer.proofs.Overs.{over-join, over-front}
use Rattle.fields.specs.Model.{Sector, Track, Disk}
use Rattle.tracks.specs.Block.{row_at, sector_of}
use Rattle.fields.specs.declared.id.SectorId.{SectorId}
use Rattle.fields.proofs.Tests.{never}
use Rattle.store.specs.Search.{is_track, is_sector}
use Rattle.store.specs.Store.{tracks_for, contents, data_of, sectors_at, sum_at, count_at, next_at, track_sum, track_at, tracks_at, bytes_at}
use Rattle.tracks.specs.Rows.{row_for, sector_row, rows_for}
use Rattle.disk.specs.Change.{change}
use Rattle.store.specs.Spots.{track_here, row_here, track_spot, sector_spot, spot}
use Rattle.loading.specs.Laying.{track_for}
use Rattle.store.proofs.Rounds.{contents-length}
use Rattle.store.proofs.Founds.{sectors-count}
use Rattle.disk.proofs.Holds.{part-whole, sizes-are}
use Rattle.loading.proofs.Lays.{tracks-append, track-length}
use Rattle.store.proofs.Same.{some-same}
use Rattle.store.specs.declared.find.Spot.{Spot}

-- ---- a piece that is replaced

-- `whole` has `old` at a place, counted from `base` on, and `changed` has `new` there
pub record Replaced (whole changed : List ℕ) (base at : ℕ) (old new : List ℕ) : Type 0 where
  pub front : List ℕ
  pub back : List ℕ
  pub is : whole ≡ front ++ (old ++ back)
  pub becomes : changed ≡ front ++ (new ++ back)
  pub here : base + length front ≡ at

regroup : (a b c d e : List ℕ) → a ++ (b ++ (c ++ d) ++ e) ≡ a ++ b ++ (c ++ (d ++ e))
regroup a b c d e = simp append_assoc

-- a piece of a piece is a piece of the whole
pub piece_of : {w v : List ℕ} {base at at' : ℕ} {m n old new : List ℕ} → Replaced w v base at m n → Replaced m n at at' old new → Replaced w v base at' old new
piece_of {old = old} {new = new} k j = record {
  front = k.front ++ j.front;
  back = j.back ++ k.back;
  is = k.is ∙ ap (λ (l : List ℕ). k.front ++ (l ++ k.back)) j.is ∙ regroup k.front j.front old j.back k.back;
  becomes = k.becomes ∙ ap (λ (l : List ℕ). k.front ++ (l ++ k.back)) j.becomes ∙ regroup k.front j.front new j.back k.back;
  here = omega (arith, length-append k.front j.front, k.here, j.here);
}

-- what stands behind a front that stays
pub behind : (x w v : List ℕ) (base at : ℕ) → base + length x ≡ at → Replaced (x ++ w) (x ++ v) base at w v
behind x w v base at e = record {
  front = x;
  back = [];
  is = ap (λ (l : List ℕ). x ++ l) (sym (append-nil w));
  becomes = ap (λ (l : List ℕ). x ++ l) (sym (append-nil v));
  here = e;
}

module _ {w v : List ℕ} {base at : ℕ} {old new : List ℕ} (k : Replaced w v base at old new) where
  whole_length : length w ≡ length k.front + (length old + length k.back)
  whole_length = ap length k.is ∙ simp length-append

  changed-length : length v ≡ length k.front + (length new + length k.back)
  changed-length = ap length k.becomes ∙ simp length-append

  -- the new whole is as much longer as the new piece
  pub replaced-length : length v + length old ≡ length w + length new
  replaced-length = omega (arith, whole_length, changed-length)

module _ (r : List ℕ) {w v : List ℕ} {at : ℕ} {old new : List ℕ} (k : Replaced w v 0 at old new) (e : r ≡ over r 0 w) where
  -- a slice that begins with the whole, piece by piece
  parts : r ≡ k.front ++ (old ++ (k.back ++ drop (length w) r))
  parts = e ∙ over-front r w ∙ ap (λ (l : List ℕ). l ++ drop (length w) r) k.is ∙ simp append_assoc

  front-is : take at r ≡ k.front
  front-is = let n : length k.front ≡ at = omega (arith, k.here) in ap (take at) parts ∙ take_at k.front _ at n

  -- laying the new piece in the place of one as long
  pub over-laid : length old ≡ length new → over r at new ≡ over r 0 v
  unfolding over
  over-laid h =
      let z : List ℕ = drop (length w) r in
      let n : length (k.front ++ old) ≡ at + length new = omega (arith, length-append k.front old, k.here) in
      let m : drop (at + length new) r ≡ k.back ++ z =
      ap (drop (at + length new)) (parts ∙ sym (append_assoc k.front old (k.back ++ z))) ∙ drop_at (k.front ++ old) (k.back ++ z) (at + length new) n in
      let l : length w ≡ length v = omega (arith, replaced-length k) in
      let g : k.front ++ (new ++ (k.back ++ z)) ≡ k.front ++ (new ++ k.back) ++ z = simp append_assoc in
      (λ i. front-is i ++ (new ++ m i))
      ∙ g
      ∙ ap (λ (x : List ℕ). x ++ z) (sym k.becomes)
      ∙ ap (λ (i : ℕ). v ++ drop i r) l
      ∙ sym (over-front r v)

  -- laying the new piece in the place of the old one, with the rest of the whole behind it
  pub splice-laid : (to end : ℕ) → to ≡ at + length old → end ≡ length w → over r at (new ++ slice to end r) ≡ over r 0 v
  unfolding over
  splice-laid to end et ee =
      let z : List ℕ = drop (length w) r in
      let n : length (k.front ++ old) ≡ to = omega (arith, length-append k.front old, k.here) in
      let tw : take end r ≡ w = ap (take end) (e ∙ over-front r w) ∙ take_at w z end (sym ee) in
      let mid : slice to end r ≡ k.back =
      ap (drop to) (tw ∙ k.is ∙ sym (append_assoc k.front old k.back)) ∙ drop_at (k.front ++ old) k.back to n in
      let l : at + length (new ++ k.back) ≡ length v = omega (arith, length-append new k.back, changed-length k, k.here) in
      ap (λ (x : List ℕ). over r at (new ++ x)) mid
      ∙ ap (λ (x : List ℕ). x ++ (new ++ k.back ++ drop (at + length (new ++ k.back)) r)) front-is
      ∙ sym (append_assoc k.front (new ++ k.back) (drop (at + length (new ++ k.back)) r))
      ∙ (λ i. sym k.becomes i ++ drop (l i) r)
      ∙ sym (over-front r v)

-- what a move of the rest and then of the new bytes leaves
pub spliced : (d b₁ b₂ : List ℕ) (from to end : ℕ) (new : List ℕ) → b₁ ≡ over d (from + length new) (slice to end d) → b₂ ≡ over b₁ from new
    → from + length new ≤ length d → b₂ ≡ over d from (new ++ slice to end d)
spliced d b₁ b₂ from to end new e f h =
    f ∙ ap (λ (x : List ℕ). over x from new) e ∙ over-join d from new (slice to end d) (from + length new) refl h

-- ---- the first element that passes a test

-- what is laid for each element, one after another
unfoldable pub all : {A : Type 0} → (A → List ℕ) → List A → List ℕ
all g [] = []
all g (x ∷ xs) = g x ++ all g xs

all_append : {A : Type 0} (g : A → List ℕ) (xs ys : List A) → all g (xs ++ ys) ≡ all g xs ++ all g ys
unfolding all
all_append g [] ys = refl
all_append g (x ∷ xs) ys = ap (λ (l : List ℕ). g x ++ l) (all_append g xs ys) ∙ sym (append_assoc (g x) (all g xs) (all g ys))

-- a change keeps the number of elements
pub change-length : {A : Type 0} (p : A → Bool) (f : A → A) (xs : List A) → length (change p f xs) ≡ length xs
unfolding change
change-length p f [] = refl
change-length p f (x ∷ xs) = told (p x) (change-length p f xs)
  where
    told : (v : Bool) → length (change p f xs) ≡ length xs → length (cond v (f x ∷ xs) (x ∷ change p f xs)) ≡ suc (length xs)
    told true e = refl
    told false e = ap suc e

-- a list cut at its first match x, which a change touches alone: what is laid for it in the table and in the data buffer stands at a and q
pub record First {A : Type 0} (p : A → Bool) (row part : A → List ℕ) (xs : List A) (at place : ℕ) (x : A) (a q : ℕ) : Type 0 where
  pub before : List A
  pub after : List A
  pub is : xs ≡ before ++ (x ∷ after)
  pub changed : (f : A → A) → change p f xs ≡ before ++ (f x ∷ after)
  pub rows : at + length (all row before) ≡ a
  pub parts : place + length (all part before) ≡ q

module _ {A : Type 0} (p : A → Bool) (row part : A → List ℕ) where
  pub first-here : (x : A) (xs : List A) (at place : ℕ) → p x ≡ true → First p row part (x ∷ xs) at place x at place
  unfolding change all
  first-here x xs at place e = record {
    before = [];
    after = xs;
    is = refl;
    changed = λ f. rw e;
    rows = omega arith;
    parts = omega arith;
  }

  pub first_past : (y : A) (xs : List A) (at place at' place' : ℕ) (x : A) (a q : ℕ) → p y ≡ false → length (row y) ≡ at' → length (part y) ≡ place'
      → First p row part xs (at + at') (place + place') x a q → First p row part (y ∷ xs) at place x a q
  unfolding change all
  first_past y xs at place at' place' x a q e er ep k = record {
    before = y ∷ k.before;
    after = k.after;
    is = ap (λ (l : List A). y ∷ l) k.is;
    changed = λ f. rw e (ap (λ (l : List A). y ∷ l) (k.changed f));
    rows = omega (arith, length-append (row y) (all row k.before), k.rows);
    parts = omega (arith, length-append (part y) (all part k.before), k.parts);
  }

  module _ {xs : List A} {at place : ℕ} {x : A} {a q : ℕ} (k : First p row part xs at place x a q) (f : A → A) where
    laid-for : (g : A → List ℕ) (base b : ℕ) → base + length (all g k.before) ≡ b → Replaced (all g xs) (all g (change p f xs)) base b (g x) (g (f x))
    unfolding all
    laid-for g base b e = record {
      front = all g k.before;
      back = all g k.after;
      is = ap (all g) k.is ∙ all_append g k.before (x ∷ k.after);
      becomes = ap (all g) (k.changed f) ∙ all_append g k.before (f x ∷ k.after);
      here = e;
    }

    -- so a change of it replaces one piece of the table, and one of the data buffer
    pub first-row : Replaced (all row xs) (all row (change p f xs)) at a (row x) (row (f x))
    first-row = laid-for row at a k.rows

    pub first_part : Replaced (all part xs) (all part (change p f xs)) place q (part x) (part (f x))
    first_part = laid-for part place q k.parts

-- ---- the rows and the bytes of a disk, element by element

abbrev pub row_only : Sector → List ℕ
row_only s = row_for (sector_row s) []

abbrev pub track_part : Track → List ℕ
track_part t = contents t.sectors

pub all-rows : (ss : List Sector) → all row_only ss ≡ rows_for ss []
unfolding all rows_for
all-rows [] = refl
all-rows (s ∷ ss) = ap (row_for (sector_row s)) (all-rows ss)

pub all-contents : (ss : List Sector) → all (λ s. s.content) ss ≡ contents ss
unfolding all contents
all-contents [] = refl
all-contents (s ∷ ss) = ap (λ (l : List ℕ). s.content ++ l) (all-contents ss)

pub all-tracks : (d : Disk) → all track_for d ≡ tracks_for d []
unfolding all
all-tracks [] = unfold tracks_for in refl
all-tracks (t ∷ ts) = ap (λ (l : List ℕ). track_for t ++ l) (all-tracks ts) ∙ sym (tracks-append t ts)

pub all-data : (d : Disk) → all track_part d ≡ data_of d
unfolding all data_of
all-data [] = refl
all-data (t ∷ ts) = ap (λ (l : List ℕ). contents t.sectors ++ l) (all-data ts)

-- ---- what a search by place finds is the first match

module _ (t b : List ℕ) where
  pub row_first : (id : SectorId) (i at place k j a q : ℕ) → place + sum_at t at k ≤ length b → sector_spot t id i at place k ≡ spot j a q
      → First (is_sector id) row_only (λ s. s.content) (sectors_at t b at place k) at place (sector_of (row_at t a) (drop q b)) a q
  unfolding sector_spot sectors_at sum_at row_at
  row_first id i at place zero j a q h e = never (cc)
  row_first id i at place (suc k) j a q h e =
      told (row_here t id at) refl e (row_first id (i + 1) (at + 8) (place + (row_at t at).stored) k j a q (omega arith))
    where
      told : (v : Bool) → row_here t id at ≡ v → cond v (spot i at place) (sector_spot t id (i + 1) (at + 8) (place + (row_at t at).stored) k) ≡ spot j a q
          → (sector_spot t id (i + 1) (at + 8) (place + (row_at t at).stored) k ≡ spot j a q
          → First (is_sector id) row_only (λ s. s.content) (sectors_at t b (at + 8) (place + (row_at t at).stored) k) (at + 8) (place + (row_at t at).stored) (sector_of (row_at t a) (drop q b)) a q)
          → First (is_sector id) row_only (λ s. s.content) (sector_of (row_at t at) (drop place b) ∷ sectors_at t b (at + 8) (place + (row_at t at).stored) k) at place (sector_of (row_at t a) (drop q b)) a q
      told true w f r =
          let ea : a ≡ at = sym (ap (λ (x : Spot). x.at) (some-same _ _ f)) in
          let eq : q ≡ place = sym (ap (λ (x : Spot). x.place) (some-same _ _ f)) in
          rw (ea, eq) (first-here (is_sector id) row_only (λ s. s.content) _ _ at place w)
      told false w f r =
          first_past (is_sector id) row_only (λ s. s.content) _ _ at place 8 (row_at t at).stored _ a q w refl
          (part-whole t b place (row_at t at).stored (omega arith)) (r f)

  pub track-first : (side cylinder i at place k j a q : ℕ) → place + bytes_at t at k ≤ length b → track_spot t side cylinder i at place k ≡ spot j a q
      → First (is_track side cylinder) track_for track_part (tracks_at t b at place k) at place (track_at t b a q) a q
  unfolding track_spot tracks_at bytes_at
  track-first side cylinder i at place zero j a q h e = never (cc)
  track-first side cylinder i at place (suc k) j a q h e =
      told (track_here t side cylinder at) refl e (track-first side cylinder (i + 1) (next_at t at) (place + track_sum t at) k j a q (omega arith))
    where
      told : (v : Bool) → track_here t side cylinder at ≡ v → cond v (spot i at place) (track_spot t side cylinder (i + 1) (next_at t at) (place + track_sum t at) k) ≡ spot j a q
          → (track_spot t side cylinder (i + 1) (next_at t at) (place + track_sum t at) k ≡ spot j a q
          → First (is_track side cylinder) track_for track_part (tracks_at t b (next_at t at) (place + track_sum t at) k) (next_at t at) (place + track_sum t at) (track_at t b a q) a q)
          → First (is_track side cylinder) track_for track_part (track_at t b at place ∷ tracks_at t b (next_at t at) (place + track_sum t at) k) at place (track_at t b a q) a q
      told true w f r =
          let ea : a ≡ at = sym (ap (λ (x : Spot). x.at) (some-same _ _ f)) in
          let eq : q ≡ place = sym (ap (λ (x : Spot). x.place) (some-same _ _ f)) in
          rw (ea, eq) (first-here (is_track side cylinder) track_for track_part _ _ at place w)
      told false w f r =
          first_past (is_track side cylinder) track_for track_part (track_at t b at place) _ at place (6 + 8 * count_at t at) (track_sum t at) _ a q w
          (track-length (track_at t b at place) ∙ ap (λ (n : ℕ). 6 + 8 * n) (sectors-count t b (at + 6) place (count_at t at)))
          (contents-length (sectors_at t b (at + 6) place (count_at t at)) ∙ sizes-are t b (at + 6) place (count_at t at) (omega arith)) (r f)
