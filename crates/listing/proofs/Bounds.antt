-- How long a listing is at most: the lines by their fields, which are bytes and 16-bit words.
use mathlib.Core.Path.{◌≡◌, refl, sym, ap, subst}
use Prim.Native.Nat.{ℕ, zero, suc, ◌+◌, ◌-◌, ◌*◌, ◌≤◌, ◌<◌}
use native.Mathlib.Omega.{arith}
use mathlib.Core.List.{List, [], ◌++◌}
use lib.ListN.{length, drop, length-append}
use lib.Seq.{get_or-drop}
use Rattle.fields.specs.Refusals.{number_of}
use Rattle.fields.specs.Bytes.{byte_at, number_at}
use Rattle.fields.specs.Model.{copies, Track, Disk, total, sector_count}
use Rattle.tracks.specs.Block.{row_at, row_by, row_place, row_of, track_in, track_of, track_head}
use Rattle.image.specs.Dsk.{before}
use Rattle.image.specs.Calls.{step_of, tracks_left, Moved, Says}
use Rattle.fields.specs.declared.refusal.Refusal.{Refusal}
use Rattle.tracks.specs.declared.track.Kind.{Kind}
use Rattle.tracks.specs.declared.track.Kind.TheVariants.{Normal, Extended}
use Rattle.image.specs.declared.walk.Walk.{Walk}
use Rattle.image.specs.declared.walk.Step.TheVariants as step
use Rattle.tracks.specs.declared.track.Row.{Row}
use Rattle.image.specs.declared.walk.Totals.{Totals}
use Rattle.fields.proofs.Sizes.{size-most, copies-few}
use Rattle.tracks.proofs.Tracks.{track-good, track-count}
use Rattle.image.proofs.Steps.{says, falls}
use Rattle.listing.specs.Text.{disk_word, kind_word, track_line, sector_lines, track_lines, printed_as}
use Rattle.listing.specs.Lines.{row_line, head_line, totals_line, row_lines, block_lines}
use Rattle.listing.proofs.Digits.{byte-digits, word-digits, all_digits}
use Rattle.listing.proofs.Lines.{id-length, row-length, head-length, totals-length, refusal-length}
use Rattle.listing.proofs.Tracks.{block-lines}
use Rattle.std.specs.Prelude.{Result, Ok, Err}
use Rattle.image.specs.declared.walk.Step.{Step}

-- bytes are below 256
abbrev pub Small : List ℕ → Type 0
Small b = (k : ℕ) → byte_at b k < 256

pub small-drop : (b : List ℕ) (at : ℕ) → Small b → Small (drop at b)
small-drop b at s k = rw get_or-drop (s (at + k))

-- an entry whose fields are bytes and a word
record Sized (row : Row) : Type 0 where
  c : row.id.c < 256
  h : row.id.h < 256
  r : row.id.r < 256
  n : row.id.n < 256
  st1 : row.st1.bits < 256
  st2 : row.st2.bits < 256
  stored : row.stored < 65536

row-few : (row : Row) → Sized row → length (row_line row) ≤ 43
row-few row s =
    let m : copies row.stored row.id.n < 65536 = omega (arith, s.stored, copies-few row.stored row.id.n) in
    omega (
      arith,
      row-length row,
      id-length row.id,
      byte-digits row.id.c s.c,
      byte-digits row.id.h s.h,
      byte-digits row.id.r s.r,
      byte-digits row.id.n s.n,
      byte-digits row.st1.bits s.st1,
      byte-digits row.st2.bits s.st2,
      word-digits row.stored s.stored,
      word-digits (copies row.stored row.id.n) m,
    )

module _ (b : List ℕ) (s : Small b) where
  word_small : (at : ℕ) → number_at 2 b at < 65536
  unfolding number_at
  word_small at = omega (arith, s at, s (at + 1))

  at-sized : (at : ℕ) → Sized (row_at b at)
  unfolding row_at
  at-sized at = record { c = s at; h = s (at + 1); r = s (at + 2); n = s (at + 3); st1 = s (at + 4); st2 = s (at + 5); stored = word_small (at + 6) }

  row_sized : (kind : Kind) (k : ℕ) → Sized (row_of kind b k)
  unfolding row_of
  row_sized kind k = by kind (row_at b (row_place k)) (at-sized (row_place k))
    where
      by : (kind : Kind) (row : Row) → Sized row → Sized (row_by kind row)
      by Normal row z = record { c = z.c; h = z.h; r = z.r; n = z.n; st1 = z.st1; st2 = z.st2; stored = omega (arith, size-most row.id.n) }
      by Extended row z = z

  rows_few : (kind : Kind) (k left : ℕ) → length (row_lines kind b k left) ≤ 43 * left
  unfolding row_lines
  rows_few kind k zero = omega arith
  rows_few kind k (suc left) =
      omega (
        arith,
        length-append (row_line (row_of kind b k)) (row_lines kind b (k + 1) left),
        row-few (row_of kind b k) (row_sized kind k),
        rows_few kind (k + 1) left,
      )

  -- the lines of a track that a block holds
  block-few : (kind : Kind) (t : Track) → track_of kind b ≡ Ok t → length (track_line t ++ sector_lines t.sectors) ≤ 45 + 43 * length t.sectors
  unfolding track_in
  block-few kind t e =
      let same : track_in kind b ≡ t = (track-good kind b t e).0 in
      let x : t.cylinder ≡ byte_at b 0x10 = ap (λ (y : Track). y.cylinder) (sym same) in
      let y : t.side ≡ byte_at b 0x11 = ap (λ (y : Track). y.side) (sym same) in
      let z : t.gap ≡ byte_at b 0x16 = ap (λ (y : Track). y.gap) (sym same) in
      let w : t.filler ≡ byte_at b 0x17 = ap (λ (y : Track). y.filler) (sym same) in
      let v : length t.sectors ≡ byte_at b 0x15 = track-count kind b t e in
      let l : length (block_lines kind b (track_head t)) ≡ length (track_line t ++ sector_lines t.sectors) = ap length (block-lines kind b t e (track_head t) refl) in
      omega (
        arith,
        length-append (head_line (track_head t)) (row_lines kind b 0 (length t.sectors)),
        head-length (track_head t),
        rows_few kind 0 (length t.sectors),
        byte-digits t.cylinder (omega (arith, s 0x10)),
        byte-digits t.side (omega (arith, s 0x11)),
        byte-digits t.gap (omega (arith, s 0x16)),
        byte-digits t.filler (omega (arith, s 0x17)),
        byte-digits (length t.sectors) (omega (arith, s 0x15)),
      )

-- a disk's lines are no longer than its tracks and sectors allow
abbrev pub Few : Result Disk Refusal → Type 0
Few (Err why) = Unit {0}
Few (Ok d) = length (track_lines d) ≤ 45 * length d + 43 * sector_count d

module _ (b : List ℕ) (s : Small b) where
  module _ (w : Walk) where
    one : (t : Track) → track_of w.kind (drop w.at b) ≡ Ok t → (q : Result Disk Refusal) → Few q → Few (before t q)
    unfolding track_lines total
    one t e (Err why) f = tt
    one t e (Ok d) f =
        omega (
          arith,
          block-few (drop w.at b) (small-drop b w.at s) w.kind t e,
          length-append (track_line t) (sector_lines t.sectors),
          length-append (track_line t) (sector_lines t.sectors ++ track_lines d),
          length-append (sector_lines t.sectors) (track_lines d),
        )

    step-few : (x : Result Step Refusal) → Says b w x → ((r : Walk) → Moved w r → Few (tracks_left b r)) → Few (tracks_left b w)
    unfolding track_lines
    step-few (Ok step.End) e f = subst Few (sym e) (omega arith)
    step-few (Err why) e f = subst Few (sym e) tt
    step-few (Ok (step.Absent r)) e f = subst Few (sym e.1) (f r e.0)
    step-few (Ok (step.Track h r)) e f = subst Few (sym e.left) (one e.track e.read (tracks_left b r) (f r e.moved))

  -- those of the tracks that a walk has to hand out, step by step
  left-few : (n : ℕ) (w : Walk) → w.entries - w.entry ≤ n → Few (tracks_left b w)
  left-few zero w h = step-few w (step_of b w) (says b w) (λ r m. absurd (omega (arith, m.more)))
  left-few (suc n) w h = step-few w (step_of b w) (says b w) (λ r m. left-few n r (omega (arith, falls w r m)))

  pub walk-few : (w : Walk) → Few (tracks_left b w)
  walk-few w = left-few (w.entries - w.entry) w (omega arith)

-- the disk's line, and a refusal's
kind-few : (k : Kind) → length (disk_word ++ kind_word k) ≤ 13
kind-few Normal = omega arith
kind-few Extended = omega arith

pub totals-few : (kind : Kind) (n : Totals) → length (totals_line kind n) ≤ 98
totals-few kind n =
    omega (arith, totals-length kind n, kind-few kind, all_digits 20 n.tracks [], all_digits 20 n.sectors [], all_digits 20 n.bytes [])

pub refusal-few : (why : Refusal) → length (printed_as (Err why)) ≤ 29
refusal-few why = omega (arith, refusal-length why, all_digits 20 (number_of why) [])
