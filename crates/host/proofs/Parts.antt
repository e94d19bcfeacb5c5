-- `disk_sector` against `lookup` and `disk_has_sector`: what its word names, and where it is 0.
use mathlib.Core.Path.{◌≡◌, refl, sym, ap, ap₂, ◌∙◌}
use mathlib.Core.Logic.{◌↔◌}
use Prim.Native.Nat.{ℕ, ◌+◌, ◌-◌, ◌*◌, ◌/◌, ◌%◌, ◌^◌, ◌≤◌, ◌<◌}
use native.Mathlib.Omega.{arith}
use mathlib.Core.List.{List}
use lib.ListN.{length}
use Rattle.fields.specs.Bytes.{byte_at, number_at}
use Rattle.fields.specs.Refusals.{number_of}
use Rattle.fields.specs.Capacities.{most_data}
use Rattle.fields.specs.Model.{Disk}
use Rattle.fields.specs.declared.id.SectorId.{SectorId}
use Rattle.fields.specs.declared.refusal.Refusal.{Refusal}
use Rattle.fields.specs.declared.refusal.Refusal.TheVariants.{BadController, BadStore, ShortImage, NotAnImage, NotATrack}
use Rattle.fields.specs.declared.refusal.Refusal.TheVariants.{TooManyTracks, TooManySectors, NoRoom, NoTransferRoom, LongInput, BadSheet, NoImage, ShortBuffer}
use Rattle.fields.proofs.Tests.{never}
use Rattle.store.specs.Store.{disk_of}
use Rattle.tracks.specs.Block.{row_at}
use Rattle.store.specs.Calls.{lookup_of, has_of}
use Rattle.store.specs.Search.{no_match}
use Rattle.store.specs.Spots.{stands_at, searched, matched_at, matched, place_of, part}
use Rattle.store.specs.declared.answer.Match.{Match}
use Rattle.store.proofs.Founds.{located, SmallMatch, match-small, said-bytes, has_from, said_has, part-within, part_in, part_bytes}
use Rattle.words.specs.Words.{refusal_word, match_word, has_word}
use Rattle.host.specs.Calls.{part_word, part_on, part_named, match_named, NoPart, no-disk, no-sector}
use Rattle.host.proofs.Answers.{part-few}
use Rattle.std.specs.Prelude.{Result, Ok, Err, Option, Some, None}
use Rattle.store.specs.declared.find.Place.{Place}

-- a refusal has a number, and it fits a byte
pub number_in : (why : Refusal) → (1 ≤ number_of why) × (number_of why < 256)
number_in BadController = (omega arith, omega arith)
number_in BadStore = (omega arith, omega arith)
number_in ShortImage = (omega arith, omega arith)
number_in NotAnImage = (omega arith, omega arith)
number_in NotATrack = (omega arith, omega arith)
number_in TooManyTracks = (omega arith, omega arith)
number_in TooManySectors = (omega arith, omega arith)
number_in NoRoom = (omega arith, omega arith)
number_in NoTransferRoom = (omega arith, omega arith)
number_in LongInput = (omega arith, omega arith)
number_in BadSheet = (omega arith, omega arith)
number_in NoImage = (omega arith, omega arith)
number_in ShortBuffer = (omega arith, omega arith)

-- so it names no sector
pub refusal-silent : (why : Refusal) → match_named (refusal_word why) ≡ no_match
refusal-silent why =
    ap₂ {C = Match} (λ (x y : ℕ). record { place = x; count = y }) (omega (arith, number_in why)) (omega (arith, number_in why))

-- which sector a word names, whatever stands in its other bits
module _ (m : Match) (place-few : m.place < 256) (count-few : m.count < 256) (low high : ℕ) (few : low < 2 ^ 16) where
  pub match_back : match_named (high * 2 ^ 32 + match_word m + low) ≡ m
  match_back =
      ap₂ {C = Match} (λ (x y : ℕ). record { place = x; count = y })
      (omega (arith, place-few, count-few, few)) (omega (arith, place-few, count-few, few))

module _ (t b : List ℕ) (side cylinder : ℕ) (id : SectorId) (bytes : (k : ℕ) → byte_at t k < 256) where
  -- the numbers of the word of a part
  module _ (m : Match) (row from to end : ℕ) (e : part m row from to end ≡ place_of t b side cylinder id) where
    here : SmallMatch m
    here = match-small t b side cylinder id bytes m row from to end e

    few : (from ≤ to) × (to ≤ most_data)
    few = part-few t b side cylinder id (part m row from to end) e m row from to end refl

    short : to - from < 2 ^ 16
    unfolding row_at number_at
    short =
        let w = part-within t b side cylinder id (part m row from to end) e m row from to end refl in
        omega (arith, w.bytes, bytes (row + 6), bytes (row + 6 + 1))

    word-from : part_word (part m row from to end) / 2 ^ 32 ≡ from
    word-from = omega (arith, here.place, here.count, short)

    word-many : part_word (part m row from to end) % 2 ^ 16 ≡ to - from
    word-many = omega (arith, short)

    word-match : match_named (part_word (part m row from to end)) ≡ m
    word-match = match_back m here.place here.count (to - from) from short

    word_some : part_word (part m row from to end) ≡ 0 → ⊥
    word_some z = omega (arith, here.some)

  -- The part of the data that the word of `disk_sector` names is what `lookup` answers, whatever the bytes of the table and the data are.
  pub sector-lookup : part_named (part_on t b side cylinder id) b ≡ lookup_of (disk_of t b) side cylinder id
  unfolding part_on
  sector-lookup = told (place_of t b side cylinder id) refl
    where
      told : (p : Result (Option Place) Refusal) → p ≡ place_of t b side cylinder id → part_named (part_word p) b ≡ lookup_of (disk_of t b) side cylinder id
      told (Err why) e = said-bytes t b side cylinder id (Err why) e (Err why) refl
      told (Ok None) e = said-bytes t b side cylinder id (Ok None) e (Ok None) refl
      told (Ok (Some pl)) e =
          rw (word-from pl.which pl.row pl.from pl.to pl.end e, word-many pl.which pl.row pl.from pl.to pl.end e)
          (part_bytes t b side cylinder id (part pl.which pl.row pl.from pl.to pl.end) e pl.which pl.row pl.from pl.to pl.end refl)

  -- The sector that it names is the one that the search finds: its place in the track, and how many bear its ID.
  pub sector-match : match_named (part_on t b side cylinder id) ≡ matched (disk_of t b) side cylinder id
  unfolding part_on
  sector-match = told (place_of t b side cylinder id) refl
    where
      told : (p : Result (Option Place) Refusal) → p ≡ place_of t b side cylinder id → match_named (part_word p) ≡ matched (disk_of t b) side cylinder id
      told (Err why) e = (located t b side cylinder id (Err why) e).which
      told (Ok None) e = (located t b side cylinder id (Ok None) e).which
      told (Ok (Some pl)) e = word-match pl.which pl.row pl.from pl.to pl.end e ∙ (located t b side cylinder id (part pl.which pl.row pl.from pl.to pl.end) e).which

  -- The whole of that part stands in the data: its place and its length are together no more than the data are long.
  pub sector-inside : part_on t b side cylinder id / 2 ^ 32 + part_on t b side cylinder id % 2 ^ 16 ≤ length b
  unfolding part_on
  sector-inside = told (place_of t b side cylinder id) refl
    where
      told : (p : Result (Option Place) Refusal) → p ≡ place_of t b side cylinder id → part_word p / 2 ^ 32 + part_word p % 2 ^ 16 ≤ length b
      told (Err why) e = omega arith
      told (Ok None) e = omega arith
      told (Ok (Some pl)) e =
          rw (word-from pl.which pl.row pl.from pl.to pl.end e, word-many pl.which pl.row pl.from pl.to pl.end e)
          (omega (arith, part_in t b side cylinder id (part pl.which pl.row pl.from pl.to pl.end) e pl.which pl.row pl.from pl.to pl.end refl))

  -- by the place, and what the search of the disk says of it
  none_named : (p : Result (Option Place) Refusal) → p ≡ place_of t b side cylinder id → (r : Result Disk Refusal) → disk_of t b ≡ r → stands_at t b p ≡ searched r side cylinder id
      → part_word p ≡ 0 → NoPart t b side cylinder id
  none_named (Err why) e (Err w) q s z = no-disk w q
  none_named (Err why) e (Ok d) q s z = never (cc)
  none_named (Ok None) e (Err w) q s z = never (cc)
  none_named (Ok None) e (Ok d) q s z = no-sector d q (cc)
  none_named (Ok (Some pl)) e r q s z = absurd (word_some pl.which pl.row pl.from pl.to pl.end e z)

  named_none : (p : Result (Option Place) Refusal) → (r : Result Disk Refusal) → disk_of t b ≡ r → stands_at t b p ≡ searched r side cylinder id → NoPart t b side cylinder id → part_word p ≡ 0
  named_none (Err why) r q s n = refl
  named_none (Ok None) r q s n = refl
  named_none (Ok (Some pl)) (Err w) q s n = never (cc)
  named_none (Ok (Some pl)) (Ok d) q s (no-disk why f) = never (cc)
  named_none (Ok (Some pl)) (Ok d) q s (no-sector d' f g) = never (cc)

  -- The word of `disk_sector` is 0 exactly where 2 applies or no sector is found.
  pub sector-none : (part_on t b side cylinder id ≡ 0) ↔ NoPart t b side cylinder id
  unfolding part_on
  sector-none =
      let p : (Result (Option Place) Refusal) = place_of t b side cylinder id in
      let s = (located t b side cylinder id p refl).says in
      (none_named p refl (disk_of t b) refl s, named_none p (disk_of t b) refl s)

  -- `disk_has_sector` names the same sector.
  has_named : (p : Result (Option Place) Refusal) → p ≡ place_of t b side cylinder id → match_named (has_word (has_from (matched_at p) (stands_at t b p))) ≡ matched_at p
  has_named (Err why) e = refusal-silent why
  has_named (Ok None) e = refl
  has_named (Ok (Some pl)) e =
      let h = here pl.which pl.row pl.from pl.to pl.end e in
      let z : 1 + match_word pl.which ≡ 0 * 2 ^ 32 + match_word pl.which + 1 = omega arith in
      ap match_named z ∙ match_back pl.which h.place h.count 1 0 (omega arith)

  pub has-match : match_named (has_word (has_of (disk_of t b) side cylinder id)) ≡ matched (disk_of t b) side cylinder id
  has-match =
      let p : (Result (Option Place) Refusal) = place_of t b side cylinder id in
      ap (λ (a : Result (Option Match) Refusal). match_named (has_word a)) (sym (said_has t b side cylinder id p refl p refl))
      ∙ has_named p refl ∙ (located t b side cylinder id p refl).which
