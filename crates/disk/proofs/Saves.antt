-- A save: the pieces of the table and of the data buffer that it replaces, and what the call answers and leaves.
use mathlib.Core.Path.{◌≡◌, refl, sym, ap, ap₂, subst, ◌∙◌}
use Prim.Native.Nat.{ℕ, ◌+◌, ◌-◌, ◌≤◌, ◌<◌}
use native.Mathlib.Omega.{arith}
use mathlib.Core.List.{List, [], ◌∷◌, ◌++◌}
use mathlib.Core.Bool.{Bool, true, false, cond}
use lib.ListN.{length, take, drop}
use lib.Seq.{slice}
use lib.Dec.{leb}
use borrow.Author.Tests.{leb-true}
use Rattle.buffer.specs.Over.{over}
use Rattle.fields.specs.Bytes.{byte_at}
use Rattle.fields.specs.Refusals.{need, after}
use Rattle.fields.specs.Model.{Sector, Track, Disk, byte_count}
use Rattle.tracks.specs.Block.{row_at, sector_of}
use Rattle.fields.specs.declared.id.SectorId.{SectorId}
use Rattle.fields.specs.declared.refusal.Refusal.TheVariants.{BadStore, NoRoom}
use Rattle.store.specs.declared.answer.Match.{Match}
use Rattle.store.specs.Find.{Found}
use Rattle.store.specs.Search.{is_track, is_sector, match_of}
use Rattle.store.specs.Store.{room_of, tracks_for, table_of, contents, data_of, count_at, track_at, tracks_at, bytes_at, well_laid}
use Rattle.tracks.specs.Rows.{rows_for}
use Rattle.disk.specs.Change.{change, with_content, saved_in, saved}
use Rattle.store.specs.Calls.{outcome, laid_as}
use Rattle.disk.specs.Calls.{save_found, save_in, save_of}
use Rattle.store.specs.Spots.{track_spot, spot_in, store_spot, store_bearing, hit_of, store_hit, place_at, place_of, spot}
use Rattle.loading.specs.Laying.{track_for}
use Rattle.disk.specs.Saving.{length_bytes, judged}
use Rattle.fields.proofs.Tests.{never}
use Rattle.store.proofs.Checks.{kept, walkable, disk-bad, disk-good}
use Rattle.store.proofs.Founds.{row_at_spot, sector-found, match-found, track-in, spot_in_lem}
use Rattle.store.proofs.Rounds.{data-length}
use Rattle.disk.proofs.Holds.{part-whole, bytes-are, is-laid}
use Rattle.disk.proofs.Cuts.{Replaced, piece_of, behind, replaced-length, over-laid, splice-laid, change-length, First, first-row, first_part, row_only, track_part, all-rows, all-contents, all-tracks, all-data, row_first, track-first}
use Rattle.std.specs.Prelude.{Result, Ok, Err, Option, Some, None}
use Rattle.fields.specs.declared.refusal.Refusal.{Refusal}
use Rattle.store.specs.declared.find.Place.{Place}
use Rattle.store.specs.declared.find.Spot.{Spot}

-- ---- the pieces

-- a change of a track's sectors replaces their rows, and leaves the six bytes before them
track-rows : (id : SectorId) (new : List ℕ) (x : Track) (at : ℕ)
    → Replaced (track_for x) (track_for (saved_in id new x)) at (at + 6) (rows_for x.sectors []) (rows_for (saved_in id new x).sectors [])
unfolding tracks_for
track-rows id new x at =
    let h : List ℕ = x.cylinder ∷ x.side ∷ x.size ∷ x.gap ∷ x.filler ∷ length x.sectors ∷ [] in
    rw (change-length (is_sector id) (with_content new) x.sectors) (behind h (rows_for x.sectors []) (rows_for (saved_in id new x).sectors []) at (at + 6) refl)

-- new bytes in a sector replace the length bytes of its row
row-length : (new : List ℕ) (s : Sector) (at : ℕ)
    → Replaced (row_only s) (row_only (with_content new s)) at (at + 6) (length_bytes (length s.content)) (length_bytes (length new))
row-length new s at =
    behind (s.id.c ∷ s.id.h ∷ s.id.r ∷ s.id.n ∷ s.st1.bits ∷ s.st2.bits ∷ []) (length_bytes (length s.content)) (length_bytes (length new)) at (at + 6) refl

-- the two pieces that a save replaces: the sector's bytes, which stand at q, and the length bytes of its row, which stands at a
pub record Pieces (side cylinder : ℕ) (id : SectorId) (new : List ℕ) (d : Disk) (old : List ℕ) (a q : ℕ) : Type 0 where
  pub bytes : Replaced (data_of d) (data_of (saved side cylinder id new d)) 0 q old new
  pub row : Replaced (table_of d) (table_of (saved side cylinder id new d)) 0 (a + 6) (length_bytes (length old)) (length_bytes (length new))

-- they are those of the first match's first match
module _ (side cylinder : ℕ) (id : SectorId) (new : List ℕ) (d : Disk) (x : Track) (s : Sector) (at place a q : ℕ)
    (k : First (is_track side cylinder) track_for track_part d 1 0 x at place)
    (j : First (is_sector id) row_only (λ z. z.content) x.sectors (at + 6) place s a q) where
  bytes-replaced : Replaced (data_of d) (data_of (saved side cylinder id new d)) 0 q s.content new
  unfolding saved
  bytes-replaced =
      let u : Replaced (data_of d) (data_of (change (is_track side cylinder) (saved_in id new) d)) 0 place (contents x.sectors) (contents (saved_in id new x).sectors) =
      rw (all-data d, all-data (change (is_track side cylinder) (saved_in id new) d)) at (first_part (is_track side cylinder) track_for track_part k (saved_in id new)) in
      let v : Replaced (contents x.sectors) (contents (saved_in id new x).sectors) place q s.content new =
      rw (all-contents x.sectors, all-contents (saved_in id new x).sectors) at (first_part (is_sector id) row_only (λ z. z.content) j (with_content new)) in
      piece_of u v

  length-replaced : Replaced (table_of d) (table_of (saved side cylinder id new d)) 0 (a + 6) (length_bytes (length s.content)) (length_bytes (length new))
  unfolding saved table_of
  length-replaced =
      let e : Disk = change (is_track side cylinder) (saved_in id new) d in
      let r : Replaced (length d ∷ tracks_for d []) (length e ∷ tracks_for e []) 0 1 (tracks_for d []) (tracks_for e []) =
      rw (change-length (is_track side cylinder) (saved_in id new) d) (behind (length d ∷ []) (tracks_for d []) (tracks_for e []) 0 1 refl) in
      let u : Replaced (tracks_for d []) (tracks_for e []) 1 at (track_for x) (track_for (saved_in id new x)) =
      rw (all-tracks d, all-tracks e) at (first-row (is_track side cylinder) track_for track_part k (saved_in id new)) in
      let v : Replaced (rows_for x.sectors []) (rows_for (saved_in id new x).sectors []) (at + 6) a (row_only s) (row_only (with_content new s)) =
      rw (all-rows x.sectors, all-rows (saved_in id new x).sectors) at (first-row (is_sector id) row_only (λ z. z.content) j (with_content new)) in
      piece_of r (piece_of u (piece_of (track-rows id new x at) (piece_of v (row-length new s a))))

-- ---- a store that keeps the layout, in which the sector was found

-- the disk, where its bytes end, and the bytes of the sector
abbrev pub held : List ℕ → List ℕ → Disk
held t b = tracks_at t b 1 0 (byte_at t 0)

abbrev pub used : List ℕ → ℕ
used t = bytes_at t 1 (byte_at t 0)

abbrev pub old_at : List ℕ → List ℕ → ℕ → ℕ → List ℕ
old_at t b a q = take (row_at t a).stored (drop q b)

module _ (t b : List ℕ) (side cylinder : ℕ) (id : SectorId) (new : List ℕ) (e : well_laid t (room_of b) ≡ true) where
  -- the bytes of all sectors end inside
  end-in : (0 + used t ≤ length b) × (used t ≤ room_of b)
  unfolding room_of
  end-in = let l = kept t (room_of b) e in (omega (arith, l.bytes), l.bytes)

  module _ (i a q : ℕ) (f : spot i a q ≡ store_spot t side cylinder id) where
    pub save-pieces : Pieces side cylinder id new (held t b) (old_at t b a q) a q
    unfolding store_spot
    save-pieces = told (track_spot t side cylinder 0 1 0 (byte_at t 0)) refl (sym f)
      where
        told : (s : Option Spot) → track_spot t side cylinder 0 1 0 (byte_at t 0) ≡ s → spot_in t id s ≡ spot i a q
            → Pieces side cylinder id new (held t b) (old_at t b a q) a q
        told None g p = never (cc)
        told (Some sp) g p =
            let h = track-in t side cylinder 0 1 0 (byte_at t 0) sp.index sp.at sp.place g in
            let k = track-first t b side cylinder 0 1 0 (byte_at t 0) sp.index sp.at sp.place end-in.0 g in
            let r = row_first t b id 0 (sp.at + 6) sp.place (count_at t sp.at) i a q (omega (arith, h.1, end-in.0)) p in
            record {
              bytes = bytes-replaced side cylinder id new (held t b) (track_at t b sp.at sp.place) (sector_of (row_at t a) (drop q b)) sp.at sp.place a q k r;
              row = length-replaced side cylinder id new (held t b) (track_at t b sp.at sp.place) (sector_of (row_at t a) (drop q b)) sp.at sp.place a q k r;
            }

    -- the row and the bytes lie inside
    old-in : (a + 8 ≤ length t) × (q + (row_at t a).stored ≤ used t)
    old-in = let w = walkable t b e in let h = spot_in_lem t side cylinder id i a q w f in (omega (arith, h.0, w.long), h.1)

    old-long : length (old_at t b a q) ≡ (row_at t a).stored
    old-long = part-whole t b q (row_at t a).stored (omega (arith, old-in.1, end-in.0))

    data-long : length (data_of (held t b)) ≡ used t
    data-long = data-length (held t b) ∙ bytes-are t b 1 0 (byte_at t 0) end-in.0

    -- the sum that would result
    pub save-count : byte_count (saved side cylinder id new (held t b)) ≡ used t - (row_at t a).stored + length new
    save-count = sym (data-length (saved side cylinder id new (held t b))) ∙ omega (arith, replaced-length save-pieces.bytes, old-long, data-long, old-in.1)

    -- the spliced data and the table with its new length bytes are the saved disk, laid
    pub save-laid : ((k : ℕ) → byte_at t k < 256)
        → (over t (a + 6) (length_bytes (length new)) ≡ over t 0 (table_of (saved side cylinder id new (held t b))))
        × (over b q (new ++ slice (q + (row_at t a).stored) (used t) b) ≡ over b 0 (data_of (saved side cylinder id new (held t b))))
    save-laid small =
        let h = is-laid t b (held t b) small (disk-good t b e) in
        let to : q + (row_at t a).stored ≡ q + length (old_at t b a q) = ap (λ (n : ℕ). q + n) (sym old-long) in
        (over-laid t save-pieces.row h.0 refl, splice-laid b save-pieces.bytes h.1 _ (used t) to (sym data-long))

-- ---- what a save answers and leaves

-- where a save goes on: refused, missing, or to the place of the sector, if that can take so many bytes
abbrev pub plan_at : ℕ → ℕ → Result (Option Place) Refusal → Result (Option Place) Refusal
plan_at count room (Err why) = Err why
plan_at count room (Ok None) = Ok None
plan_at count room (Ok (Some p)) = after (judged p count room) (λ u. Ok (Some p))

-- what `splice` and `put_length` ask where a sector takes so many bytes
pub record Room (t b : List ℕ) (count : ℕ) (p : Place) : Type 0 where
  pub row_in : p.row + 8 ≤ length t
  pub small : count < 65536
  pub order : p.to ≤ p.end
  pub inside : p.end ≤ length b
  pub room : p.from + count + (p.end - p.to) ≤ length b

module _ (t b : List ℕ) (side cylinder : ℕ) (id : SectorId) (new : List ℕ) where
  -- what that says of the save: refused, missing, or what is left where the two pieces are put
  abbrev pub Says : Result (Option Place) Refusal → Type 0
  Says (Err why) = outcome (Err why) t b ≡ save_of t b side cylinder id new
  Says (Ok None) = outcome (Ok None) t b ≡ save_of t b side cylinder id new
  Says (Ok (Some p)) = Room t b (length new) p × (((k : ℕ) → byte_at t k < 256) → (t' b' : List ℕ)
      → t' ≡ over t (p.row + 6) (length_bytes (length new)) → b' ≡ over b p.from (new ++ slice p.to p.end b) → outcome (Ok (Some p.which)) t' b' ≡ save_of t b side cylinder id new)

  module _ (e : well_laid t (room_of b) ≡ true) where
    -- a save by where the search ended
    save-found : (n : ℕ) (s : Option Spot) → n ≡ store_bearing t side cylinder id → s ≡ store_spot t side cylinder id → save_of t b side cylinder id new
        ≡ save_found t b (length new) (match_of n (row_at_spot t b s)) (saved side cylinder id new (held t b)) (row_at_spot t b s)
    unfolding save_of
    save-found n s g f =
        let x = sector-found t b side cylinder id ∙ ap (row_at_spot t b) (sym f) in
        let y = match-found t b side cylinder id ∙ sym (ap₂ (λ (k : ℕ) (z : Option Spot). match_of k (row_at_spot t b z)) g f) in
        ap (save_in t b side cylinder id new) (disk-good t b e)
        ∙ ap₂ (λ (m : Match) (z : Found Sector). save_found t b (length new) m (saved side cylinder id new (held t b)) z) y x

    module _ (n i a q : ℕ) (g : n ≡ store_bearing t side cylinder id) (f : spot i a q ≡ store_spot t side cylinder id) where
      here : Place
      here = record { which = record { place = i + 1; count = n }; row = a; from = q; to = q + (row_at t a).stored; end = used t }

      -- and by the two tests
      save-tested : (x y : Bool) → leb (length new) 65535 ≡ x → leb (used t - (row_at t a).stored + length new) (room_of b) ≡ y → save_of t b side cylinder id new
          ≡ laid_as Err (Ok (Some (record { place = i + 1; count = n }))) t b
          (need x NoRoom (need y NoRoom (Ok (saved side cylinder id new (held t b)))))
      save-tested x y p r =
          save-found n (spot i a q) g f
          ∙ ap₂ (λ (v w : Bool). laid_as Err (Ok (Some (record { place = i + 1; count = n }))) t b (need v NoRoom (need w NoRoom (Ok (saved side cylinder id new (held t b))))))
          p (ap (λ (n : ℕ). leb n (room_of b)) (save-count t b side cylinder id new e i a q f) ∙ r)

      save-room : length new ≤ 65535 → used t - (row_at t a).stored + length new ≤ room_of b
          → Room t b (length new) here
      unfolding room_of here
      save-room h l =
          let w = end-in t b side cylinder id new e in
          let z = old-in t b side cylinder id new e i a q f in
          record { row_in = z.0; small = omega arith; order = z.1; inside = omega (arith, w.0); room = omega (arith, w.0, z.1) }

      save-put : (x y : Bool) → leb (length new) 65535 ≡ x → leb (used t - (row_at t a).stored + length new) (room_of b) ≡ y
          → Says (after (need x NoRoom (need y NoRoom (Ok (tt {0})))) (λ u. Ok (Some here)))
      unfolding here
      save-put false y p r = sym (save-tested false y p r)
      save-put true false p r = sym (save-tested true false p r)
      save-put true true p r = (
        save-room (leb-true _ _ p) (leb-true _ _ r),
        λ small t' b' et eb.
            let l = save-laid t b side cylinder id new e i a q f small in
            (λ k. outcome (Ok (Some (record { place = i + 1; count = n }))) ((et ∙ l.0) k) ((eb ∙ l.1) k)) ∙ sym (save-tested true true p r),
      )

    spot-says : (n : ℕ) (s : Option Spot) → n ≡ store_bearing t side cylinder id → s ≡ store_spot t side cylinder id
        → Says (plan_at (length new) (room_of b) (place_at t (hit_of n s)))
    unfolding judged save-put
    spot-says n None g f = sym (save-found n None g f)
    spot-says n (Some sp) g f =
        let z : sp.place + (row_at t sp.at).stored - sp.place ≡ (row_at t sp.at).stored = omega arith in
        rw z (save-put n sp.index sp.at sp.place g f (leb (length new) 65535) (leb (used t - (row_at t sp.at).stored + length new) (room_of b)) refl refl)

  plan-says : Says (plan_at (length new) (room_of b) (place_of t b side cylinder id))
  unfolding place_of store_hit
  plan-says = told (well_laid t (room_of b)) refl
    where
      told : (v : Bool) → well_laid t (room_of b) ≡ v
          → Says (plan_at (length new) (room_of b) (cond v (place_at t (store_hit t side cylinder id)) (Err BadStore)))
      told true e = spot-says e (store_bearing t side cylinder id) (store_spot t side cylinder id) refl refl
      told false e = unfold save_of in ap (save_in t b side cylinder id new) (sym (disk-bad t b e))

  -- to a caller that has the answer of the search
  pub says_of : (r p : Result (Option Place) Refusal) → r ≡ place_of t b side cylinder id → r ≡ p → Says (plan_at (length new) (room_of b) p)
  says_of r p e f = subst (λ (x : Result (Option Place) Refusal). Says (plan_at (length new) (room_of b) x)) (sym e ∙ f) plan-says

  -- and that of the judge
  pub says-judged : (r : Result (Option Place) Refusal) (p : Place) → r ≡ place_of t b side cylinder id → r ≡ Ok (Some p)
      → (room : ℕ) → room ≡ room_of b → (j x : Result (Unit {0}) Refusal) → j ≡ judged p (length new) room → j ≡ x → Says (after x (λ u. Ok (Some p)))
  says-judged r p e f room er j x g h =
      subst (λ (y : Result (Unit {0}) Refusal). Says (after y (λ u. Ok (Some p)))) (sym (g ∙ ap (judged p (length new)) er) ∙ h) (says_of r (Ok (Some p)) e f)
