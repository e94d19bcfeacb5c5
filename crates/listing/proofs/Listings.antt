-- What is printed: the refusals, and the listing of an image that was surveyed as good.
use mathlib.Core.Path.{◌≡◌, sym, ap, subst, ◌∙◌}
use Prim.Native.Nat.{ℕ, ◌+◌, ◌≤◌, ◌<◌}
use native.Mathlib.Omega.{arith}
use mathlib.Core.List.{List, ◌++◌}
use lib.ListN.{length, length-append}
use lib.Dec.{leb}
use borrow.Author.Tests.{le-leb, lt-leb}
use Rattle.buffer.specs.Over.{over}
use Rattle.fields.specs.Refusals.{need, after}
use Rattle.fields.specs.Model.{Disk, sector_count}
use Rattle.fields.specs.Capacities.{most_tracks, most_sectors}
use Rattle.image.specs.Dsk.{Dsk, dsk_of}
use Rattle.image.specs.Calls.{tracks_in, to_come, surveyed, survey_of}
use Rattle.fields.specs.declared.refusal.Refusal.{Refusal}
use Rattle.fields.specs.declared.refusal.Refusal.TheVariants.{LongInput, TooManyTracks, TooManySectors}
use Rattle.image.specs.declared.walk.Walk.{Walk}
use Rattle.image.specs.declared.walk.Totals.{Totals}
use Rattle.image.proofs.Steps.{GoodImage, surveyed-good}
use Rattle.listing.specs.Text.{most_input, most_text, track_lines, listing_text, listing_of, printed_as, printed, disk_fields}
use Rattle.listing.specs.Lines.{Laid, totals_line, Listable}
use Rattle.listing.proofs.Lines.{renamed, both}
use Rattle.listing.proofs.Bounds.{Small, Few, walk-few, totals-few}
use Rattle.std.specs.Prelude.{Result, Ok, Err}

-- what the promise says of a text laid from the start
pub told : {d d' : List ℕ} {r : ℕ} (x y : List ℕ) → x ≡ y → Laid d 0 x d' r → (r ≡ length y) × (d' ≡ over d 0 y)
told {d} {d'} {r} x y e l =
    let m : Laid d 0 y d' r = renamed x y e l in
    let n : r ≡ length y = omega (arith, m.behind) in
    (n, m.bytes)

-- a listing of so many tracks and sectors, or why it is refused
capped : ℕ → ℕ → Dsk → Result (List ℕ) Refusal
capped t s d = need (leb t most_tracks) TooManyTracks (need (leb s most_sectors) TooManySectors (Ok (listing_text d)))

printed-capped : (b : List ℕ) → length b ≤ most_input → printed b ≡ printed_as (after (dsk_of b) (λ d. capped (length d.disk) (sector_count d.disk) d))
unfolding printed listing_of capped
printed-capped b h = simp (le-leb _ _ h)

pub long-refused : (b : List ℕ) → most_input < length b → printed_as (Err LongInput) ≡ printed b
unfolding printed listing_of
long-refused b h = simp (lt-leb _ _ h)

module _ (b : List ℕ) (short : length b ≤ most_input) where
  pub unread-refused : (why : Refusal) → Err why ≡ survey_of b → printed_as (Err why) ≡ printed b
  unfolding survey_of
  unread-refused why e = told_of (dsk_of b) e ∙ sym (printed-capped b short)
    where
      told_of : (r : Result Dsk Refusal) → Err why ≡ surveyed b r
          → printed_as (Err why) ≡ printed_as (after r (λ d. capped (length d.disk) (sector_count d.disk) d))
      told_of (Err y) f = let z : why ≡ y = cc in ap (λ (x : Refusal). printed_as (Err x)) z
      told_of (Ok d) f = cc

  module _ (n : Totals) (w : Walk) (e : Ok (n, w) ≡ survey_of b) where
    s : GoodImage b n w
    s = surveyed-good b n w e

    -- the capacities of the disk that was read
    printed-is : printed b ≡ printed_as (capped n.tracks n.sectors s.dsk)
    printed-is =
        printed-capped b short
        ∙ ap (λ (r : Result Dsk Refusal). printed_as (after r (λ d. capped (length d.disk) (sector_count d.disk) d))) s.read
        ∙ sym (λ i. printed_as (capped (s.tracks i) (s.sectors i) s.dsk))

    pub tracks-refused : most_tracks < n.tracks → printed_as (Err TooManyTracks) ≡ printed b
    unfolding capped
    tracks-refused h = sym (printed-is ∙ simp (lt-leb _ _ h))

    module _ (few : n.tracks ≤ most_tracks) where
      pub sectors-refused : most_sectors < n.sectors → printed_as (Err TooManySectors) ≡ printed b
      unfolding capped
      sectors-refused h = sym (printed-is ∙ simp (le-leb _ _ few, lt-leb _ _ h))

      module _ (less : n.sectors ≤ most_sectors) where
        printed-good : printed b ≡ listing_text s.dsk
        unfolding capped
        printed-good = printed-is ∙ simp (le-leb _ _ few, le-leb _ _ less)

        text-is : totals_line w.kind n ++ track_lines (to_come b w) ≡ printed b
        unfolding disk_fields
        text-is =
            (λ i. disk_fields (s.kind i) (s.tracks i) (s.sectors i) (s.bytes i) ++ track_lines (tracks_in (s.whole i)))
            ∙ sym printed-good

        room : Small b → length (totals_line w.kind n) + length (track_lines (to_come b w)) ≤ most_text
        room small =
            let x : Few (Ok s.dsk.disk) = subst Few s.whole (walk-few b small w) in
            let d : to_come b w ≡ s.dsk.disk = ap tracks_in s.whole in
            let y : length (track_lines (to_come b w)) ≡ length (track_lines s.dsk.disk) = ap (λ (z : Disk). length (track_lines z)) d in
            omega (arith, totals-few w.kind n, s.tracks, s.sectors)

        pub listable : Small b → (at long : ℕ) → at ≡ 0 + length (totals_line w.kind n) → long ≡ most_text → Listable b w at long
        listable small at long q m =
            record { whole = s.whole ∙ ap Ok (sym (ap tracks_in s.whole)); lines = omega (arith, room small) }

        pub listed : {d d₁ d₂ : List ℕ} {a₁ a₂ : ℕ} → Small b → length d ≡ most_text → Laid d 0 (totals_line w.kind n) d₁ a₁
            → Laid d₁ a₁ (track_lines (to_come b w)) d₂ a₂ → Laid d 0 (printed b) d₂ a₂
        listed {d} small size p q =
            let l : 0 + length (totals_line w.kind n ++ track_lines (to_come b w)) ≤ length d = simp length-append (omega (arith, room small)) in
            renamed _ _ text-is (both (totals_line w.kind n) (track_lines (to_come b w)) l p (λ m. q))
