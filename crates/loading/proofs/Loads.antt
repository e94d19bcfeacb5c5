-- Loading and the fresh format: the capacities, the loop over an image's tracks, and what the calls leave.
use mathlib.Core.Path.{◌≡◌, refl, sym, ap, ◌∙◌}
use Prim.Native.Nat.{ℕ, ◌+◌, ◌*◌, ◌≤◌, ◌<◌}
use native.Mathlib.Omega.{arith}
use mathlib.Core.List.{List, [], ◌∷◌}
use mathlib.Core.Bool.{Bool, true, false}
use lib.ListN.{length, drop, set}
use lib.Dec.{leb}
use borrow.Author.Tests.{eq-eqb, ne_eqb, le-leb, lt-leb, leb-true}
use Rattle.buffer.specs.Over.{over}
use Rattle.buffer.proofs.Overs.{over-over, over-set, over-length}
use Rattle.fields.specs.Refusals.{need, after}
use Rattle.fields.specs.Capacities.{most_tracks, most_sectors}
use Rattle.fields.specs.Model.{Track, Disk, total, track_bytes, sector_count, byte_count}
use Rattle.tracks.specs.Block.{track_of}
use Rattle.image.specs.Dsk.{Dsk, dsk_of}
use Rattle.image.specs.Calls.{tracks_left, tracks_in, to_come, surveyed, survey_of, Says}
use Rattle.fields.specs.declared.refusal.Refusal.{Refusal}
use Rattle.fields.specs.declared.refusal.Refusal.TheVariants.{BadStore, TooManyTracks, TooManySectors, NoRoom}
use Rattle.fields.proofs.Tests.{never}
use Rattle.image.specs.declared.walk.Walk.{Walk}
use Rattle.tracks.specs.declared.track.Head.{Head}
use Rattle.image.specs.declared.walk.Totals.{Totals}
use Rattle.image.specs.declared.walk.Step.TheVariants as step
use Rattle.image.proofs.Steps.{come-split, GoodImage}
use Rattle.store.specs.Store.{table_length, room_of, tracks_for, table_of, contents, data_of}
use Rattle.store.specs.Fresh.{fresh, fresh_from}
use Rattle.store.specs.Calls.{outcome, laid, within, fitting, load_of, fresh_of}
use Rattle.loading.specs.Laying.{block_rows, block_data, track_for, Layable, capacity_of}
use Rattle.store.proofs.Checks.{room_in}
use Rattle.store.proofs.Rounds.{contents-length}
use Rattle.loading.proofs.Lays.{lay-on, lay-none, tracks-append, track-length, track-laid, bytes-laid, fresh-tracks, fresh-sectors, fresh-bytes}
use Rattle.std.specs.Prelude.{Result, Ok, Err}

-- ---- the capacities

module _ (n s m room : ℕ) where
  pub bytes-over : n ≤ most_tracks → s ≤ most_sectors → room < m → Err NoRoom ≡ capacity_of n s m room
  unfolding within
  bytes-over h k l = simp (le-leb _ _ h, le-leb _ _ k, lt-leb _ _ l)

  pub all-inside : n ≤ most_tracks → s ≤ most_sectors → m ≤ room → (Ok tt) ≡ capacity_of n s m room
  unfolding within
  all-inside h k l = simp (le-leb _ _ h, le-leb _ _ k, le-leb _ _ l)

  -- what the answer says of a disk
  pub told-refused : (why : Refusal) → capacity_of n s m room ≡ Err why → (d : Disk) → within n s m room (Ok d) ≡ Err why
  unfolding within
  told-refused why e d = told (leb n most_tracks) (leb s most_sectors) (leb m room) e
    where
      told : (x y z : Bool) → need x TooManyTracks (need y TooManySectors (need z NoRoom (Ok (tt {0})))) ≡ Err why
          → need x TooManyTracks (need y TooManySectors (need z NoRoom (Ok d))) ≡ Err why
      told true true true e = cc
      told true true false e = cc
      told true false z e = cc
      told false y z e = cc

  pub told-good : capacity_of n s m room ≡ Ok tt → (d : Disk) → (within n s m room (Ok d) ≡ Ok d) × ((n ≤ most_tracks) × ((s ≤ most_sectors) × (m ≤ room)))
  unfolding within
  told-good e d = told (leb n most_tracks) refl (leb s most_sectors) refl (leb m room) refl e
    where
      told : (x : Bool) → leb n most_tracks ≡ x → (y : Bool) → leb s most_sectors ≡ y → (z : Bool) → leb m room ≡ z
          → need x TooManyTracks (need y TooManySectors (need z NoRoom (Ok (tt {0})))) ≡ Ok tt
          → (need x TooManyTracks (need y TooManySectors (need z NoRoom (Ok d))) ≡ Ok d) × ((n ≤ most_tracks) × ((s ≤ most_sectors) × (m ≤ room)))
      told true p true q true r e = (refl, (leb-true n most_tracks p, (leb-true s most_sectors q, leb-true m room r)))
      told true p true q false r e = never (cc)
      told true p false q z r e = never (cc)
      told false p y q z r e = never (cc)

-- ---- the loop over an image's tracks

-- what it knows at its head
pub record Laying (img t₀ b₀ : List ℕ) (start : Walk) (t b : List ℕ) (w : Walk) (at place : ℕ) : Type 0 where
  pub same-table : length t ≡ length t₀
  pub same_bytes : length b ≡ length b₀
  pub layable : Layable img w at place (length t₀) (length b₀)
  pub rows : over t at (tracks_for (to_come img w) []) ≡ over t₀ 1 (tracks_for (to_come img start) [])
  pub bytes : over b place (data_of (to_come img w)) ≡ over b₀ 0 (data_of (to_come img start))

module _ (img t₀ b₀ : List ℕ) (start : Walk) where
  module _ (t b : List ℕ) (w : Walk) (at place : ℕ) (l : Laying img t₀ b₀ start t b w at place) where
    -- an image that was read as good is not refused now
    pub laying-never : (why : Refusal) → Says img w (Err why) → ⊥
    laying-never why e = let x : tracks_left img w ≡ Ok (to_come img w) = l.layable.whole in never (cc)

    pub laying-end : Says img w (Ok step.End) → (t ≡ over t₀ 1 (tracks_for (to_come img start) [])) × (b ≡ over b₀ 0 (data_of (to_come img start)))
    unfolding tracks_for data_of
    laying-end e =
        let n : to_come img w ≡ [] = ap tracks_in e in (
          lay-none t at (tracks_for (to_come img w) []) _ l.rows (ap (λ (d : Disk). tracks_for d []) n),
          lay-none b place (data_of (to_come img w)) _ l.bytes (ap data_of n),
        )

    pub laying-absent : (r : Walk) → Says img w (Ok (step.Absent r)) → Laying img t₀ b₀ start t b r at place
    laying-absent r e =
        let q : to_come img r ≡ to_come img w = ap tracks_in (sym e.1) in
        record {
          same-table = l.same-table;
          same_bytes = l.same_bytes;
          layable = record {
            whole = sym e.1 ∙ l.layable.whole ∙ ap Ok (sym q);
            rows = rw q l.layable.rows;
            bytes = rw q l.layable.bytes;
          };
          rows = rw q l.rows;
          bytes = rw q l.bytes;
        }

    module _ (h : Head) (r : Walk) (e : Says img w (Ok (step.Track h r))) where
      rest : (tracks_left img r ≡ Ok (to_come img r)) × (to_come img w ≡ e.track ∷ to_come img r)
      rest = come-split img w r e.track e.left l.layable.whole

      sectors-are : h.sectors ≡ length e.track.sectors
      sectors-are = ap (λ (x : Head). x.sectors) e.head

      stored_is : h.stored ≡ track_bytes e.track
      stored_is = ap (λ (x : Head). x.stored) e.head

      -- the track and what follows it find room
      pub laying-rows : at + 6 + 8 * h.sectors + 6 * length (to_come img r) + 8 * sector_count (to_come img r) ≤ length t₀
      unfolding total
      laying-rows =
          let x : at + 6 * length (e.track ∷ to_come img r) + 8 * sector_count (e.track ∷ to_come img r) ≤ length t₀ = rw rest.1 at l.layable.rows in
          omega (arith, sectors-are)

      pub laying-bytes : place + h.stored + byte_count (to_come img r) ≤ length b₀
      unfolding total
      laying-bytes =
          let x : place + byte_count (e.track ∷ to_come img r) ≤ length b₀ = rw rest.1 at l.layable.bytes in
          omega (arith, stored_is)

      pub laying-track : (p t' b' : List ℕ) → p ≡ drop w.at img → t' ≡ over t at (block_rows w.kind p h)
          → b' ≡ over b place (block_data p h) → Laying img t₀ b₀ start t' b' r (at + (6 + 8 * h.sectors)) (place + h.stored)
      unfolding data_of
      laying-track p t' b' ep et eb =
          let tr : Track = e.track in
          let read : track_of w.kind p ≡ Ok tr = ap (track_of w.kind) ep ∙ e.read in
          let x : block_rows w.kind p h ≡ track_for tr = ap (block_rows w.kind p) e.head ∙ track-laid w.kind p tr read in
          let y : block_data p h ≡ contents tr.sectors = ap (block_data p) e.head ∙ bytes-laid w.kind p tr read in
          let et' : t' ≡ over t at (track_for tr) = et ∙ ap (over t at) x in
          let eb' : b' ≡ over b place (contents tr.sectors) = eb ∙ ap (over b place) y in
          let lt : length (track_for tr) ≡ 6 + 8 * h.sectors = omega (arith, track-length tr, sectors-are) in
          let lb : length (contents tr.sectors) ≡ h.stored = contents-length tr.sectors ∙ sym stored_is in
          record {
            same-table = ap length et' ∙ over-length t at (track_for tr) (omega (arith, l.same-table, laying-rows)) ∙ l.same-table;
            same_bytes = ap length eb' ∙ over-length b place (contents tr.sectors) (omega (arith, l.same_bytes, laying-bytes)) ∙ l.same_bytes;
            layable = record { whole = rest.0; rows = omega (arith, laying-rows); bytes = omega (arith, laying-bytes) };
            rows =
                ap (λ (z : List ℕ). over z (at + (6 + 8 * h.sectors)) (tracks_for (to_come img r) [])) et'
                ∙ lay-on t at (track_for tr) (tracks_for (to_come img r) []) _ (at + (6 + 8 * h.sectors))
                (ap (over t at) (sym (tracks-append tr (to_come img r)) ∙ ap (λ (d : Disk). tracks_for d []) (sym rest.1)) ∙ l.rows)
                (omega arith) (omega (arith, l.same-table, laying-rows));
            bytes =
                ap (λ (z : List ℕ). over z (place + h.stored) (data_of (to_come img r))) eb'
                ∙ lay-on b place (contents tr.sectors) (data_of (to_come img r)) _ (place + h.stored)
                (ap (over b place) (ap data_of (sym rest.1)) ∙ l.bytes) (omega arith) (omega (arith, l.same_bytes, laying-bytes));
          }

-- ---- what a load leaves

-- a count in front of what is laid behind it
count-first : (t : List ℕ) (n : ℕ) (rest : List ℕ) → 0 < length t → over (set t 0 n) 1 rest ≡ over t 0 (n ∷ rest)
count-first t n rest h = ap (λ (x : List ℕ). over x 1 rest) (over-set t 0 n h) ∙ over-over t 0 (n ∷ []) rest 1 refl (omega arith)

module _ (img t b : List ℕ) where
  pub load-length : (length t ≡ table_length → ⊥) → outcome (Err BadStore) t b ≡ load_of img t b
  unfolding load_of
  load-length h = simp (ne_eqb _ _ h)

  pub load-unread : (why : Refusal) → length t ≡ table_length → Err why ≡ survey_of img → outcome (Err why) t b ≡ load_of img t b
  unfolding load_of survey_of
  load-unread why h e = simp (eq-eqb _ _ h) (told (dsk_of img) e)
    where
      told : (r : Result Dsk Refusal) → Err why ≡ surveyed img r
          → outcome (Err why) t b ≡ laid t b (after r (λ d. fitting (room_of b) d.disk))
      told (Err y) f = cc
      told (Ok d) f = cc

module _ (img t b : List ℕ) (n : Totals) (w : Walk) (s : GoodImage img n w) (h : length t ≡ table_length) (room : ℕ) (er : room ≡ room_of b) where
  -- the capacities of the disk that was read
  asked : fitting (room_of b) s.dsk.disk ≡ within n.tracks n.sectors n.bytes room (Ok s.dsk.disk)
  asked = cc (s.tracks, s.sectors, s.bytes, er)

  load_is : load_of img t b ≡ laid t b (within n.tracks n.sectors n.bytes room (Ok s.dsk.disk))
  unfolding load_of
  load_is = simp (eq-eqb _ _ h, s.read, asked)

  pub load-refused : (why : Refusal) → capacity_of n.tracks n.sectors n.bytes room ≡ Err why → outcome (Err why) t b ≡ load_of img t b
  load-refused why e = sym (load_is ∙ ap (laid t b) (told-refused n.tracks n.sectors n.bytes room why e s.dsk.disk))

  module _ (e : capacity_of n.tracks n.sectors n.bytes room ≡ Ok tt) where
    inside : (within n.tracks n.sectors n.bytes room (Ok s.dsk.disk) ≡ Ok s.dsk.disk)
        × ((n.tracks ≤ most_tracks) × ((n.sectors ≤ most_sectors) × (n.bytes ≤ room)))
    inside = told-good n.tracks n.sectors n.bytes room e s.dsk.disk

    pub load-few : n.tracks ≤ most_tracks
    load-few = inside.1.0

    to-come : to_come img w ≡ s.dsk.disk
    to-come = ap tracks_in s.whole

    pub load-layable : (t' : List ℕ) → length t' ≡ length t → Layable img w 1 0 (length t') (length b)
    load-layable t' l = record {
      whole = s.whole ∙ ap Ok (sym to-come);
      rows = rw to-come (omega (arith, inside.1, s.tracks, s.sectors));
      bytes = rw to-come (omega (arith, inside.1, s.bytes, room_in b));
    }

    pub load-good : (t' b' : List ℕ) → t' ≡ over (set t 0 n.tracks) 1 (tracks_for (to_come img w) []) → b' ≡ over b 0 (data_of (to_come img w))
        → outcome (Ok tt) t' b' ≡ load_of img t b
    unfolding table_of
    load-good t' b' et eb =
        let x : t' ≡ over t 0 (table_of s.dsk.disk) =
        et ∙ (λ i. over (set t 0 (s.tracks i)) 1 (tracks_for (to-come i) []))
        ∙ count-first t (length s.dsk.disk) (tracks_for s.dsk.disk []) (omega arith) in
        let y : b' ≡ over b 0 (data_of s.dsk.disk) = eb ∙ ap (λ (z : Disk). over b 0 (data_of z)) to-come in
        (λ i. outcome (Ok tt) (x i) (y i)) ∙ sym (load_is ∙ ap (laid t b) inside.0)

-- ---- what the fresh format leaves

module _ (t b : List ℕ) where
  pub fresh-length : (length t ≡ table_length → ⊥) → outcome (Err BadStore) t b ≡ fresh_of t b
  unfolding fresh_of
  fresh-length h = simp (ne_eqb _ _ h)

  module _ (h : length t ≡ table_length) (room : ℕ) (er : room ≡ room_of b) where
    fresh-is : fresh_of t b ≡ laid t b (within 40 360 184320 room (Ok fresh))
    unfolding fresh_of fresh
    fresh-is = simp (eq-eqb _ _ h, fresh-tracks 0 40, fresh-sectors 0 40, fresh-bytes 0 40, er)

    pub fresh-refused : room < 184320 → outcome (Err NoRoom) t b ≡ fresh_of t b
    fresh-refused l = sym (fresh-is ∙ ap (laid t b) (told-refused 40 360 184320 room NoRoom (sym (bytes-over 40 360 184320 room (omega arith) (omega arith) l)) fresh))

    pub fresh-room : 184320 ≤ room → 184320 ≤ length b
    fresh-room l = omega (arith, room_in b)

    pub fresh-good : 184320 ≤ room → (t' b' : List ℕ) → t' ≡ over (set t 0 40) 1 (tracks_for (fresh_from 0 40) []) → b' ≡ over b 0 (data_of (fresh_from 0 40))
        → outcome (Ok tt) t' b' ≡ fresh_of t b
    unfolding fresh table_of
    fresh-good l t' b' et eb =
        let x : t' ≡ over t 0 (40 ∷ tracks_for (fresh_from 0 40) []) = et ∙ count-first t 40 (tracks_for (fresh_from 0 40) []) (omega arith) in
        let y : 40 ∷ tracks_for (fresh_from 0 40) [] ≡ table_of (fresh_from 0 40) = ap (λ (n : ℕ). n ∷ tracks_for (fresh_from 0 40) []) (sym (fresh-tracks 0 40)) in
        (λ i. outcome (Ok tt) ((x ∙ ap (over t 0) y) i) (eb i))
        ∙ sym (fresh-is ∙ ap (laid t b) (told-good 40 360 184320 room (sym (all-inside 40 360 184320 room (omega arith) (omega arith) l)) fresh).0)
