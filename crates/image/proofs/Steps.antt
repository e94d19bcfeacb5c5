-- The walk: what a step answers, how it unfolds the tracks that are left, and the totals.
use mathlib.Core.Path.{◌≡◌, refl, sym, ap, ◌∙◌}
use Prim.Native.Nat.{ℕ, ◌+◌, ◌-◌, ◌*◌, ◌≤◌, ◌<◌}
use native.Mathlib.Omega.{arith}
use mathlib.Core.List.{List, [], ◌∷◌}
use mathlib.Core.Bool.{Bool, true, false, cond}
use lib.ListN.{length, drop, length-drop}
use lib.Dec.{ltb}
use borrow.Author.Tests.{lt-ltb, le-ltb, ltb-true, ltb-false}
use Rattle.fields.specs.Refusals.{after}
use Rattle.fields.specs.Model.{Track, Disk, total, track_bytes, sector_count, byte_count}
use Rattle.tracks.specs.Block.{track_of, track_head, block_of}
use Rattle.image.specs.Dsk.{Dsk, entries, entry_of, header_of, before, placed, tracks_from, image_of, dsk_of}
use Rattle.image.specs.Calls.{opened_of, past, read_step, entry_step, step_of, tracks_left, tracks_in, to_come, start_of, totals, totals_from, surveyed, survey_of, Moved, Says}
use Rattle.fields.specs.declared.refusal.Refusal.{Refusal}
use Rattle.tracks.specs.declared.track.Kind.{Kind}
use Rattle.image.specs.declared.walk.Walk.{Walk}
use Rattle.tracks.specs.declared.track.Head.{Head}
use Rattle.image.specs.declared.walk.Step.TheVariants as step
use Rattle.image.specs.declared.walk.Totals.{Totals}
use Rattle.fields.proofs.Tests.{never}
use Rattle.tracks.proofs.Tracks.{down, track-there}
use Rattle.std.specs.Prelude.{Result, Ok, Err, Option, Some, None}
use Rattle.image.specs.declared.walk.Step.{Step}

-- ---- a step's answers

module _ (b : List ℕ) (w : Walk) where
  pub step_end : w.entries ≤ w.entry → Ok step.End ≡ step_of b w
  unfolding step_of
  step_end h = simp (le-ltb _ _ h)

  module _ (h : w.entry < w.entries) (r : Option ℕ) (er : r ≡ entry_of w.kind b w.entry) where
    -- what stands in the table
    entry-is : (x : Option ℕ) → r ≡ x → step_of b w ≡ entry_step b w x
    unfolding step_of
    entry-is x e = let q : entry_of w.kind b w.entry ≡ x = cc in simp (lt-ltb _ _ h, q)

    pub step-absent : r ≡ None → Ok (step.Absent (past w w.at)) ≡ step_of b w
    step-absent e = sym (entry-is None e)

    module _ (n : ℕ) (e : r ≡ Some n) (k : Result Head Refusal) (t : List ℕ) (et : t ≡ drop w.at b) (ek : k ≡ block_of (track_of w.kind t)) where
      -- what the block answered, as the step has it
      read_is : (x : Result Step Refusal) → ((q : Result Track Refusal) → k ≡ block_of q → x ≡ read_step w n q) → x ≡ step_of b w
      read_is x f =
          let q : k ≡ block_of (track_of w.kind (drop w.at b)) = ek ∙ ap (λ (l : List ℕ). block_of (track_of w.kind l)) et in
          f (track_of w.kind (drop w.at b)) q ∙ sym (entry-is (Some n) e)

      pub step-refused : (why : Refusal) → k ≡ Err why → Err why ≡ step_of b w
      step-refused why g = read_is (Err why) answer
        where
          answer : (q : Result Track Refusal) → k ≡ block_of q → Err why ≡ read_step w n q
          answer (Err y) f = let z : Err y ≡ Err why = sym f ∙ g in cc
          answer (Ok y) f = let z : Ok (track_head y) ≡ Err why = sym f ∙ g in cc

      pub step-track : (m : Head) → k ≡ Ok m → Ok (step.Track m (past w (w.at + n))) ≡ step_of b w
      step-track m g = read_is (Ok (step.Track m (past w (w.at + n)))) answer
        where
          answer : (q : Result Track Refusal) → k ≡ block_of q → Ok (step.Track m (past w (w.at + n))) ≡ read_step w n q
          answer (Err y) f = let z : Err y ≡ Ok m = sym f ∙ g in cc
          answer (Ok y) f = let z : Ok (track_head y) ≡ Ok m = sym f ∙ g in cc

      -- a track that was read stands inside the image
      pub step-inside : (m : Head) → k ≡ Ok m → w.at + 12 ≤ length b
      step-inside m g =
          let l : 12 ≤ length t = track-there w.kind t m (sym g ∙ ek) in
          let q : length t ≡ length b - w.at = ap length et ∙ length-drop w.at b in
          omega arith

-- ---- the tracks that are left

tracks-step : (kind : Kind) (b : List ℕ) (i at left : ℕ) → 0 < left → tracks_from kind b i at left
    ≡ placed (entry_of kind b i) (tracks_from kind b (i + 1) at (left - 1))
    (λ size. after (track_of kind (drop at b)) (λ t. before t (tracks_from kind b (i + 1) (at + size) (left - 1))))
unfolding tracks_from
tracks-step kind b i at =
    down (λ k l. tracks_from kind b i at k
    ≡ placed (entry_of kind b i) (tracks_from kind b (i + 1) at l)
    (λ size. after (track_of kind (drop at b)) (λ t. before t (tracks_from kind b (i + 1) (at + size) l)))) (λ k. refl)

-- so a walk comes to its end
pub falls : (w r : Walk) → Moved w r → r.entries - r.entry < w.entries - w.entry
falls w r m = omega (arith, m.more, m.next, m.same)

module _ (b : List ℕ) (w : Walk) where
  left_end : w.entries ≤ w.entry → tracks_left b w ≡ Ok []
  unfolding tracks_left tracks_from
  left_end h = let e : w.entries - w.entry ≡ 0 = omega arith in rw e

  left_step : w.entry < w.entries → tracks_left b w
      ≡ placed (entry_of w.kind b w.entry) (tracks_left b (past w w.at))
      (λ size. after (track_of w.kind (drop w.at b)) (λ t. before t (tracks_left b (past w (w.at + size)))))
  unfolding tracks_left
  left_step h =
      let p : 0 < w.entries - w.entry = omega arith in
      let e : w.entries - w.entry - 1 ≡ w.entries - (w.entry + 1) = omega arith in
      rw (← e) (tracks-step w.kind b w.entry w.at (w.entries - w.entry) p)

  -- every step unfolds the definition by one entry
  pub says : Says b w (step_of b w)
  unfolding step_of
  says = by-test (ltb w.entry w.entries) refl
    where
      by-track : (n : ℕ) → w.entry < w.entries → entry_of w.kind b w.entry ≡ Some n
          → (q : Result Track Refusal) → track_of w.kind (drop w.at b) ≡ q → Says b w (read_step w n q)
      by-track n h e (Err why) f = left_step h ∙ rw (e, f)
      by-track n h e (Ok t) f = record {
        moved = record { more = h; next = refl; same = refl; kind = refl };
        track = t;
        read = f;
        head = refl;
        left = left_step h ∙ rw (e, f);
      }

      by-entry : w.entry < w.entries → (x : Option ℕ) → entry_of w.kind b w.entry ≡ x → Says b w (entry_step b w x)
      by-entry h None e = (record { more = h; next = refl; same = refl; kind = refl }, left_step h ∙ rw e)
      by-entry h (Some n) e = by-track n h e (track_of w.kind (drop w.at b)) refl

      by-test : (l : Bool) → ltb w.entry w.entries ≡ l → Says b w (cond l (entry_step b w (entry_of w.kind b w.entry)) (Ok step.End))
      by-test true e = by-entry (ltb-true w.entry w.entries e) (entry_of w.kind b w.entry) refl
      by-test false e = left_end (ltb-false w.entry w.entries e)

  -- the same of an answer that is known
  pub says_of : (x y : Result Step Refusal) → x ≡ step_of b w → x ≡ y → Says b w y
  says_of x y e f = let q : step_of b w ≡ y = sym e ∙ f in rw q at says

-- ---- the totals

-- so much that has passed, and what is left
pub totals_past : Totals → Result Disk Refusal → Result Totals Refusal
totals_past n (Err why) = Err why
totals_past n (Ok d) = Ok (record { tracks = n.tracks + length d; sectors = n.sectors + sector_count d; bytes = n.bytes + byte_count d })

-- nothing has passed
abbrev pub no_totals : Totals
no_totals = record { tracks = 0; sectors = 0; bytes = 0 }

totals-whole : (r : Result Disk Refusal) → totals_past no_totals r ≡ totals_from r
unfolding totals_past
totals-whole (Err why) = refl
totals-whole (Ok d) =
    let x : 0 + length d ≡ length d = omega arith in
    let y : 0 + sector_count d ≡ sector_count d = omega arith in
    let z : 0 + byte_count d ≡ byte_count d = omega arith in
    cc

-- one track more has passed
abbrev pub with_track : Totals → ℕ → ℕ → Totals
with_track n sectors bytes = record { tracks = n.tracks + 1; sectors = n.sectors + sectors; bytes = n.bytes + bytes }

totals-before : (n : Totals) (t : Track) (r : Result Disk Refusal)
    → totals_past n (before t r) ≡ totals_past (with_track n (length t.sectors) (track_bytes t)) r
unfolding totals_past total
totals-before n t (Err why) = refl
totals-before n t (Ok d) =
    let x : n.tracks + length (t ∷ d) ≡ n.tracks + 1 + length d = omega arith in
    let y : n.sectors + sector_count (t ∷ d) ≡ n.sectors + length t.sectors + sector_count d = omega arith in
    let z : n.bytes + byte_count (t ∷ d) ≡ n.bytes + track_bytes t + byte_count d = omega arith in
    cc

-- what the survey's loop knows at its head
pub record Counted (b : List ℕ) (start w : Walk) (n : Totals) : Type 0 where
  pub few : w.entries ≤ 65025
  pub passed : n.tracks ≤ w.entry
  pub sectors-few : n.sectors ≤ 255 * n.tracks
  pub bytes-few : n.bytes ≤ 4294967295 * n.tracks
  pub pending : totals_past n (tracks_left b w) ≡ totals_from (tracks_left b start)

module _ (b : List ℕ) (start : Walk) where
  pub count-start : start.entries ≤ 65025 → Counted b start start no_totals
  count-start h = record {
    few = h;
    passed = omega arith;
    sectors-few = omega arith;
    bytes-few = omega arith;
    pending = totals-whole (tracks_left b start);
  }

  module _ (w : Walk) (n : Totals) (c : Counted b start w n) where
    pub count-refused : (why : Refusal) → Says b w (Err why) → Err why ≡ totals_from (tracks_left b start)
    unfolding totals_past
    count-refused why e = sym (ap (totals_past n) e) ∙ c.pending

    pub count-end : Says b w (Ok step.End) → Ok n ≡ totals_from (tracks_left b start)
    unfolding totals_past total
    count-end e =
        let x : n.tracks + 0 ≡ n.tracks = omega arith in
        let y : n.sectors + 0 ≡ n.sectors = omega arith in
        let z : n.bytes + 0 ≡ n.bytes = omega arith in
        sym (λ i. Ok (record { tracks = x i; sectors = y i; bytes = z i })) ∙ sym (ap (totals_past n) e) ∙ c.pending

    pub count-absent : (r : Walk) → Says b w (Ok (step.Absent r)) → Counted b start r n
    count-absent r e = record {
      few = omega (arith, c.few, e.0.same);
      passed = omega (arith, c.passed, e.0.next);
      sectors-few = c.sectors-few;
      bytes-few = c.bytes-few;
      pending = sym (ap (totals_past n) e.1) ∙ c.pending;
    }

    pub count-track : (h : Head) (r : Walk) → Says b w (Ok (step.Track h r)) → h.sectors < 256 → h.stored < 4294967296
        → Counted b start r (with_track n h.sectors h.stored)
    count-track h r e l k =
        let x : h.sectors ≡ length e.track.sectors = ap (λ (y : Head). y.sectors) e.head in
        let y : h.stored ≡ track_bytes e.track = ap (λ (y : Head). y.stored) e.head in
        record {
          few = omega (arith, c.few, e.moved.same);
          passed = omega (arith, c.passed, e.moved.next);
          sectors-few = omega (arith, c.sectors-few);
          bytes-few = omega (arith, c.bytes-few);
          pending =
              rw (x, y)
              (sym (totals-before n e.track (tracks_left b r)) ∙ sym (ap (totals_past n) e.left) ∙ c.pending);
        }

-- ---- a survey, and what it hands on

-- what a survey answers, by the tracks that its walk has to hand out
by_walk : Walk → Result Disk Refusal → Result (Totals × Walk) Refusal
by_walk w (Err why) = Err why
by_walk w (Ok d) = Ok (totals d, w)

module _ (b : List ℕ) where
  -- a walk at the first entry has all tracks to hand out
  start_left : (kind : Kind) → tracks_left b (start_of b kind) ≡ tracks_from kind b 0 0x100 (entries b)
  unfolding tracks_left
  start_left kind = let z : entries b - 0 ≡ entries b = omega arith in rw z

  module _ (o : Result Walk Refusal) (e : o ≡ opened_of b (header_of b)) where
    pub survey-refused : (why : Refusal) → o ≡ Err why → Err why ≡ survey_of b
    unfolding survey_of dsk_of
    survey-refused why f = told (header_of b) (sym e ∙ f)
      where
        told : (h : Result Kind Refusal) → opened_of b h ≡ Err why
            → Err why ≡ surveyed b (after h (λ kind. image_of kind (tracks_from kind b 0 0x100 (entries b))))
        told (Err y) q = cc
        told (Ok kind) q = cc

    -- the survey of a walk at the first entry is that of the image
    survey-is : (w : Walk) → o ≡ Ok w → (r : Result Disk Refusal) → tracks_left b w ≡ r → survey_of b ≡ by_walk w r
    unfolding survey_of dsk_of by_walk
    survey-is w f r g = told (header_of b) (sym e ∙ f) r g
      where
        told : (h : Result Kind Refusal) → opened_of b h ≡ Ok w → (r : Result Disk Refusal) → tracks_left b w ≡ r
            → surveyed b (after h (λ kind. image_of kind (tracks_from kind b 0 0x100 (entries b)))) ≡ by_walk w r
        told (Err y) q r g = never (cc)
        told (Ok kind) q (Err why) g =
            let p : w ≡ start_of b kind = cc in
            let l : tracks_from kind b 0 0x100 (entries b) ≡ Err why = sym (start_left kind) ∙ ap (tracks_left b) (sym p) ∙ g in
            ap (λ (x : Result Disk Refusal). surveyed b (image_of kind x)) l
        told (Ok kind) q (Ok d) g =
            let p : w ≡ start_of b kind = cc in
            let l : tracks_from kind b 0 0x100 (entries b) ≡ Ok d = sym (start_left kind) ∙ ap (tracks_left b) (sym p) ∙ g in
            ap (λ (x : Result Disk Refusal). surveyed b (image_of kind x)) l ∙ ap (λ (x : Walk). Ok (totals d, x)) (sym p)

    module _ (w : Walk) (f : o ≡ Ok w) (r : Result Totals Refusal) (g : r ≡ totals_from (tracks_left b w)) where
      pub survey-broken : (why : Refusal) → r ≡ Err why → Err why ≡ survey_of b
      unfolding by_walk
      survey-broken why k = told (tracks_left b w) refl
        where
          told : (x : Result Disk Refusal) → tracks_left b w ≡ x → Err why ≡ survey_of b
          told (Err y) q =
              let z : Err why ≡ Err y = sym k ∙ g ∙ ap totals_from q in
              let v : why ≡ y = cc in
              ap Err v ∙ sym (survey-is w f (Err y) q)
          told (Ok d) q = let z : Err why ≡ Ok (totals d) = sym k ∙ g ∙ ap totals_from q in never (cc)

      pub survey-opened : (n : Totals) → r ≡ Ok n → Ok (n, w) ≡ survey_of b
      unfolding by_walk
      survey-opened n k = told (tracks_left b w) refl
        where
          told : (x : Result Disk Refusal) → tracks_left b w ≡ x → Ok (n, w) ≡ survey_of b
          told (Err y) q = let z : Ok n ≡ Err y = sym k ∙ g ∙ ap totals_from q in never (cc)
          told (Ok d) q =
              let z : Ok n ≡ Ok (totals d) = sym k ∙ g ∙ ap totals_from q in
              let y : n ≡ totals d = cc in
              ap (λ (m : Totals). Ok (m, w)) y ∙ sym (survey-is w f (Ok d) q)

    -- an opened image has at most 65,025 entries
    pub opened-few : (w : Walk) → o ≡ Ok w → w.entries ≡ entries b
    opened-few w f = told (header_of b) (sym e ∙ f)
      where
        told : (h : Result Kind Refusal) → opened_of b h ≡ Ok w → w.entries ≡ entries b
        told (Err y) q = never (cc)
        told (Ok kind) q = cc

-- an image that was surveyed as good: its disk, how much that is, and the walk that has it to hand out
pub record GoodImage (b : List ℕ) (n : Totals) (w : Walk) : Type 0 where
  pub dsk : Dsk
  pub read : dsk_of b ≡ Ok dsk
  pub tracks : n.tracks ≡ length dsk.disk
  pub sectors : n.sectors ≡ sector_count dsk.disk
  pub bytes : n.bytes ≡ byte_count dsk.disk
  pub kind : w.kind ≡ dsk.kind
  pub whole : tracks_left b w ≡ Ok dsk.disk

pub surveyed-good : (b : List ℕ) (n : Totals) (w : Walk) → Ok (n, w) ≡ survey_of b → GoodImage b n w
unfolding survey_of dsk_of
surveyed-good b n w e = told (header_of b) refl e
  where
    at-tracks : (kind : Kind) (r : Result Disk Refusal) → tracks_from kind b 0 0x100 (entries b) ≡ r → header_of b ≡ Ok kind
        → Ok (n, w) ≡ surveyed b (image_of kind r) → GoodImage b n w
    at-tracks kind (Err why) q h f = never (cc)
    at-tracks kind (Ok d) q h f =
        let z : (n, w) ≡ (totals d, start_of b kind) = cc in
        let p : w ≡ start_of b kind = ap (λ (y : Totals × Walk). y.1) z in
        let m : n ≡ totals d = ap (λ (y : Totals × Walk). y.0) z in
        record {
          dsk = record { kind = kind; disk = d };
          read = rw (h, q);
          tracks = ap (λ (y : Totals). y.tracks) m;
          sectors = ap (λ (y : Totals). y.sectors) m;
          bytes = ap (λ (y : Totals). y.bytes) m;
          kind = ap (λ (y : Walk). y.kind) p;
          whole = ap (tracks_left b) p ∙ start_left b kind ∙ q;
        }

    told : (h : Result Kind Refusal) → header_of b ≡ h
        → Ok (n, w) ≡ surveyed b (after h (λ kind. image_of kind (tracks_from kind b 0 0x100 (entries b)))) → GoodImage b n w
    told (Err y) q f = never (cc)
    told (Ok kind) q f = at-tracks kind (tracks_from kind b 0 0x100 (entries b)) refl q f

-- ---- a walk over tracks that are good

-- a track before the rest, both read as good
pub come-split : (b : List ℕ) (w r : Walk) (t : Track) → tracks_left b w ≡ before t (tracks_left b r) → tracks_left b w ≡ Ok (to_come b w)
    → (tracks_left b r ≡ Ok (to_come b r)) × (to_come b w ≡ t ∷ to_come b r)
come-split b w r t e f = by (tracks_left b r) refl
  where
    by : (q : Result Disk Refusal) → tracks_left b r ≡ q → (q ≡ Ok (tracks_in q)) × (to_come b w ≡ t ∷ tracks_in q)
    by (Err why) g =
        let x : before t (tracks_left b r) ≡ Err why = ap (before t) g in
        never (cc)
    by (Ok d) g =
        let x : tracks_left b w ≡ Ok (t ∷ d) = e ∙ ap (before t) g in
        (refl, ap tracks_in x)
