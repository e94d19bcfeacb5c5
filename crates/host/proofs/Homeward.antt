-- What comes home is what the session left, on the lent bytes: what `disk_write_image` leaves in its buffer loads as the disk that was in the store.
use mathlib.Core.Path.{◌≡◌, refl, ap, ◌∙◌}
use Prim.Native.Nat.{ℕ, ◌*◌, ◌^◌, ◌/◌, ◌≤◌}
use native.Mathlib.Omega.{arith}
use mathlib.Core.List.{List}
use mathlib.Core.Bool.{false}
use lib.ListN.{length, take, drop}
use lib.Seq.{take_at}
use borrow.Author.Tests.{le-leb}
use Rattle.buffer.specs.Over.{over}
use Rattle.buffer.proofs.Overs.{over-front}
use Rattle.fields.specs.Model.{Disk, byte_count}
use Rattle.fields.specs.declared.refusal.Refusal.TheVariants.{NoImage}
use Rattle.tracks.specs.declared.track.Kind.TheVariants.{Extended}
use Rattle.image.specs.Dsk.{dsk_of}
use Rattle.store.specs.Store.{table_length, room_of, table_of, data_of, disk_of}
use Rattle.store.specs.Calls.{outcome, load_of, penned_to}
use Rattle.home.specs.Home.{image_for, unwritable}
use Rattle.home.specs.Calls.{image_in, extent_of, written_as}
use Rattle.home.specs.Cases.{Twelve}
use Rattle.home.proofs.Cases.{twelve-each}
use Rattle.home.proofs.Homes.{home-back}
use Rattle.home.proofs.Loads.{image-is, home-loads, home-holds}
use Rattle.words.specs.Words.{refusal_word, extent_word}
use Rattle.host.specs.Calls.{answered, penned_on, worded, image_length_on, write_image_on}
use Rattle.std.specs.Prelude.{Result, Ok, Err}
use Rattle.fields.specs.declared.refusal.Refusal.{Refusal}

module _ (t b : List ℕ) (d : Disk) (holds : disk_of t b ≡ Ok d) where
  -- a disk that cannot be written is refused by both calls, and the buffer stays
  module _ (no : Twelve d) where
    none : image_in t b ≡ Err NoImage
    unfolding image_in
    none = rw holds (twelve-each d no)

    pub refused-length : image_length_on t b ≡ refusal_word NoImage
    unfolding image_length_on
    refused-length = ap (λ (x : Result (List ℕ) Refusal). extent_word (extent_of x)) none

    pub refused-write : (s : List ℕ) → write_image_on t b s ≡ answered (refusal_word NoImage) s
    unfolding write_image_on
    refused-write s = ap (λ (x : Result (List ℕ) Refusal). penned_on (written_as x s)) none

  module _ (can : unwritable d ≡ false) where
    -- any other is measured
    pub length-word : image_length_on t b ≡ length (image_for d) * 2 ^ 32
    unfolding image_length_on
    length-word = ap (λ (x : Result (List ℕ) Refusal). extent_word (extent_of x)) (image-is t b d holds can)

    -- and written where there is room
    pub write_word : (s : List ℕ) → length (image_for d) ≤ length s → write_image_on t b s ≡ answered (length (image_for d) * 2 ^ 32) (over s 0 (image_for d))
    unfolding write_image_on penned_to
    write_word s h =
        ap (λ (x : Result (List ℕ) Refusal). penned_on (written_as x s)) (image-is t b d holds can)
        ∙ (rw (le-leb _ _ h) refl)

    -- with the word and the bytes that a call left
    module _ (s s' : List ℕ) (w : ℕ) (room : length (image_for d) ≤ length s) (e : answered w s' ≡ write_image_on t b s) where
      -- as many bytes as the word says are the image
      pub came-home : take (w / 2 ^ 32) s' ≡ image_for d
      came-home =
          let x : List ℕ = image_for d in
          let f : answered w s' ≡ answered (length x * 2 ^ 32) (over s 0 x) = e ∙ write_word s room in
          let g : w ≡ length x * 2 ^ 32 = cc in
          let k : s' ≡ over s 0 x = cc in
          let n : w / 2 ^ 32 ≡ length x = omega arith in
          (λ i. take (n i) (k i)) ∙ ap (take (length x)) (over-front s x) ∙ take_at x (drop (length x) s) (length x) refl

      -- read by the definition of the format, they are the disk
      pub home-read : dsk_of (take (w / 2 ^ 32) s') ≡ Ok (record { kind = Extended; disk = d })
      home-read = ap dsk_of came-home ∙ home-back d can

      -- and `disk_new` of them answers 0 and leaves a store that holds the disk, whatever it held before
      pub comes_back : (t' b' : List ℕ) → length t' ≡ table_length → byte_count d ≤ room_of b'
          → (worded (load_of (take (w / 2 ^ 32) s') t' b') ≡ outcome 0 (over t' 0 (table_of d)) (over b' 0 (data_of d)))
          × (disk_of (over t' 0 (table_of d)) (over b' 0 (data_of d)) ≡ Ok d)
      comes_back t' b' l r =
          (ap (λ (x : List ℕ). worded (load_of x t' b')) came-home ∙ ap worded (home-loads t b d holds can t' b' l r), home-holds t b d holds can t' b' l r)
