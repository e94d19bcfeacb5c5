-- The same saves and the same Read Data by exported calls, on the bytes of a new controller into which a fresh disk is put; none of them is refused.
use mathlib.Core.Path.{◌≡◌, refl, sym, ap, subst, ◌∙◌}
use Prim.Native.Nat.{ℕ, zero, suc, ◌^◌, ◌/◌, ◌%◌, ◌≤◌, ◌<◌}
use native.Mathlib.Omega.{arith}
use mathlib.Core.Bool.{Bool, true, false, cond}
use mathlib.Core.List.{List, [], ◌∷◌, map}
use lib.ListN.{length, take}
use lib.Dec.{ltb}
use borrow.Author.Tests.{ltb-true, lt-ltb, eq-eqb}
use Rattle.fields.specs.Bytes.{byte_at}
use Rattle.fields.proofs.Sizes.{size-2}
use Rattle.fields.proofs.Tests.{never}
use Rattle.tracks.specs.declared.track.Kind.TheVariants.{Extended}
use Rattle.tracks.specs.Rows.{rows_for, ids_from}
use Rattle.image.specs.Dsk.{dsk_of}
use Rattle.store.specs.Store.{contents}
use Rattle.store.specs.Fresh.{blanks, formatted, fresh_from, fresh}
use Rattle.disk.specs.Change.{change, saved}
use Rattle.home.specs.Home.{units, padded, track_info, block_for, cylinders_of, some_track, sides_of, image_for}
use Rattle.home.specs.Home.{rising_from, rising, side_over_1, entries_over_204, sectors_over_29, track_over_65280, unwritable}
use Rattle.codes.specs.Table.{mask_rows, rows, command_by, command_of}
use Rattle.registers.specs.Boxes.{World, setting_of}
use Rattle.registers.specs.View.{impossible, impossible_in}
use Rattle.registers.specs.Calls.{disk_set}
use Rattle.registers.specs.declared.regs.Report.{Report}
use Rattle.store.specs.declared.answer.Match.{Match}
use Rattle.sending.specs.Machine.{write_port, report_of}
use Rattle.words.specs.Words.{match_word}
use Rattle.floppy.specs.Calls.{new_floppy}
use Rattle.layout.specs.Layout.{numbers_for, floppy_bytes}
use Rattle.host.specs.Calls.{answered, write_image_on}
use Rattle.host.proofs.Same.{image-formed}
use Rattle.saves.specs.Events.{Event, Answer, Run, run, granted}
use Rattle.saves.specs.Stages.{Stage, sent_on, acted}
use Rattle.saves.specs.Words.{Ready, bytes_of, saved_at, address_of, saved_by, read_bytes}
use Rattle.saves.proofs.Witness.{start, example, again, other, send_all, sent-all, E, A, O, B, L, grants, example-is, again-is, other-is, back_is, same, differ, reads, reads-lose-none, Told, few, told_is}
use Rattle.runs.specs.Hosts.{Host, called, seen, stage_of}
use Rattle.runs.proofs.Any.{calls-run}
use Rattle.runs.proofs.Witness.{host, host-sound, host-stage, host-ready}
use Rattle.lending.specs.Lendings.{Lending, is_answer, exported, word_of, lending_of, seen_in, store_in, Formed, Readable, all_pass, Posts, words_read}
use Rattle.lending.proofs.Exports.{sound-fitting, readable-formed, host-back}
use Rattle.lending.proofs.Demands.{Stands, stands, machine-words, save-bytes, second-bytes, order-bytes, back-bytes}
use Rattle.lending.proofs.SentHome.{save-home}
use Rattle.std.specs.Prelude.{Result, Ok, Err}
use Rattle.fields.specs.declared.refusal.Refusal.{Refusal}

-- ---- the bytes of the new controller are bytes

unfoldable pub small : List ℕ → Bool
small [] = true
small (x ∷ l) = cond (ltb x 256) (small l) false

small-on : (v w : Bool) → cond v w false ≡ true → (v ≡ true) × (w ≡ true)
small-on true w e = (refl, e)
small-on false w e = never (cc)

pub small_at : (l : List ℕ) → small l ≡ true → (k : ℕ) → byte_at l k < 256
unfolding small
small_at [] e k = omega arith
small_at (x ∷ l) e zero = ltb-true x 256 (small-on (ltb x 256) (small l) e).0
small_at (x ∷ l) e (suc k) = small_at l (small-on (ltb x 256) (small l) e).1 k

-- ---- nothing is refused

-- lent bytes at which the machine stands at a stage
record At (l : Lending) (g : Stage) : Type 0 where
  pub host-there : Host
  pub stands-there : Stands l host-there
  pub is : g ≡ stage_of host-there

at-end : (es : List Event) (l : Lending) (g : Stage) → At l g → At (run exported es l).end (run acted es g).end
at-end es l g a = record {
  host-there = (run called es a.host-there).end;
  stands-there = stands es l a.host-there a.stands-there;
  is = ap (λ (y : Stage). (run acted es y).end) a.is ∙ ap (λ (r : Run Answer Stage). r.end) (calls-run es a.host-there a.stands-there.sound);
}

-- the words of an answer, none of them a refusal
abbrev words : List Answer → Bool
words l = all_pass (map word_of l)

-- what is told is no refusal
match-passes : (m : Match) → is_answer (match_word m) ≡ true
match-passes m = let z : match_word m / 256 % 256 ≡ 0 = omega arith in eq-eqb (match_word m / 256 % 256) 0 z

-- where bytes that are sent are granted, no word is a refusal: the first of them, and all
sent_word : (x : Result World Refusal) (told : Report) (g : Stage) (l : List Answer) → granted ((sent_on g told x).answer ∷ l) ≡ true
    → (granted l ≡ true → words l ≡ true) → words ((sent_on g told x).answer ∷ l) ≡ true
unfolding granted all_pass word_of
sent_word (Err why) told g l ok rest = never (cc)
sent_word (Ok w) told g l ok rest = rw (match-passes told.sector) (rest ok)

sent-words : (l : List ℕ) (g : Stage) → granted (run acted (send_all l) g).answers ≡ true → words (run acted (send_all l) g).answers ≡ true
unfolding run acted send_all all_pass
sent-words [] g ok = refl
sent-words (b ∷ l) g ok =
    let x : Result World Refusal = write_port g.rooms g.world b in
    let y : Stage = (sent_on g (report_of g.rooms g.world b) x).then in
    sent_word x (report_of g.rooms g.world b) g (run acted (send_all l) y).answers ok (sent-words l y)

posts : (bytes : List ℕ) (l : Lending) (g : Stage) → At l g → granted (run acted (send_all bytes) g).answers ≡ true
    → Posts (send_all bytes) bytes (run exported (send_all bytes) l).answers
posts bytes l g a ok = record {
  sends = sent-all bytes;
  none-refused =
      ap all_pass (machine-words (send_all bytes) l a.host-there a.stands-there)
      ∙ ap (λ (y : Stage). words (run acted (send_all bytes) y).answers) (sym a.is) ∙ sent-words bytes g ok;
}

-- ---- the disk with the save on it can go home

home-can : unwritable (saved_by example fresh) ≡ false
unfolding unwritable rising rising_from side_over_1 entries_over_204 cylinders_of sides_of sectors_over_29 track_over_65280 some_track block_for track_info padded units rows_for contents saved_at address_of example fresh fresh_from formatted ids_from blanks change saved
home-can = rw size-2

-- ---- so each theorem has something to say, of either machine

module _ (n : ℕ) where
  -- the machine that it is, with that disk
  abbrev Start : Stage
  Start = start (setting_of n)

  host-small : small (floppy_bytes (host n).floppy) ≡ true
  unfolding small host run called disk_set new_floppy impossible command_of command_by rows mask_rows numbers_for
  host-small = rw (lt-ltb (n % 2) 256 (omega arith)) refl

  -- what a host lends then
  abbrev pub lent_bytes : Lending
  lent_bytes = lending_of (host n)

  pub lent-readable : Readable lent_bytes
  lent-readable = record {
    are-bytes = small_at (floppy_bytes (host n).floppy) host-small;
    form = image-formed (host n).floppy (sound-fitting (host n) (host-sound n)) (host-sound n).held;
    possible = ap (λ (y : Host). impossible_in y.transfer y.floppy.regs) (host-back (host n) (host-sound n)) ∙ (host-sound n).possible;
  }

  lent-formed : Formed lent_bytes
  lent-formed = readable-formed lent_bytes lent-readable

  lent-ready : Ready (seen_in lent_bytes) fresh
  lent-ready = subst (λ (y : Host). Ready (seen y) fresh) (sym (host-back (host n) (host-sound n))) (host-ready n)

  at-start : At lent_bytes Start
  at-start = record { host-there = host n; stands-there = record { sound = host-sound n; are = refl }; is = host-stage n }

  at-e : At (run exported E lent_bytes).end (run acted E Start).end
  at-e = at-end E lent_bytes Start at-start

  at-o : At (run exported O lent_bytes).end (run acted O Start).end
  at-o = at-end O lent_bytes Start at-start

  at_b : At (run exported B (run exported E lent_bytes).end).end (run acted B (run acted E Start).end).end
  at_b = at-end B (run exported E lent_bytes).end (run acted E Start).end at-e

  posts-first : Posts E (bytes_of example) (run exported E lent_bytes).answers
  posts-first = posts (bytes_of example) lent_bytes Start at-start (grants (setting_of n)).first

  posts-last : Posts L (0xFF ∷ []) (run exported L (run exported B (run exported E lent_bytes).end).end).answers
  unfolding send_all
  posts-last = posts (0xFF ∷ []) (run exported B (run exported E lent_bytes).end).end (run acted B (run acted E Start).end).end at_b (grants (setting_of n)).last

  -- table and data then hold the disk on which sector 3 of cylinder 7 has the bytes
  pub lent-saves : store_in (run exported E lent_bytes).end ≡ Ok (saved_by example fresh)
  lent-saves = (save-bytes example fresh lent_bytes E lent-formed lent-ready example-is posts-first).0

  -- the second to sector 3 alone counts
  pub lent-second : store_in (run exported A (run exported E lent_bytes).end).end ≡ store_in (run exported A lent_bytes).end
  lent-second =
      second-bytes example again fresh lent_bytes E A A lent-formed lent-ready example-is again-is same posts-first
      (posts (bytes_of again) (run exported E lent_bytes).end (run acted E Start).end at-e (grants (setting_of n)).second)
      (posts (bytes_of again) lent_bytes Start at-start (grants (setting_of n)).alone)

  -- sectors 3 and 4 come in either order
  pub lent-order : store_in (run exported O (run exported E lent_bytes).end).end ≡ store_in (run exported E (run exported O lent_bytes).end).end
  lent-order =
      order-bytes example other fresh lent_bytes E O O E lent-formed lent-ready example-is other-is differ posts-first
      (posts (bytes_of other) (run exported E lent_bytes).end (run acted E Start).end at-e (grants (setting_of n)).behind)
      (posts (bytes_of other) lent_bytes Start at-start (grants (setting_of n)).other)
      (posts (bytes_of example) (run exported O lent_bytes).end (run acted O Start).end at-o (grants (setting_of n)).before)

  -- and so many data-port reads give so many of the bytes and the reply
  pub lent_back : (k : ℕ) → k ≤ 519
      → words_read (reads k) (run exported (reads k) (run exported L (run exported B (run exported E lent_bytes).end).end).end).answers ≡ take k Told
  lent_back k h =
      told_is k _
      (back-bytes example fresh 0x46 0 3 0x2A 0xFF lent_bytes E B (reads k) lent-formed lent-ready example-is posts-first back_is
      (posts (read_bytes example 0x46 0 3 0x2A) (run exported E lent_bytes).end (run acted E Start).end at-e (grants (setting_of n)).begun)
      posts-last (reads-lose-none k _) (few k h))

  -- and the disk with the save on it goes home: it is read from what is written
  pub lent-home : (s s' : List ℕ) (w : ℕ) → length (image_for (saved_by example fresh)) ≤ length s
      → let end : Lending = (run exported E lent_bytes).end in
      answered w s' ≡ write_image_on end.table end.bytes s → dsk_of (take (w / 2 ^ 32) s') ≡ Ok (record { kind = Extended; disk = saved_by example fresh })
  lent-home s s' w room e = (save-home example fresh lent_bytes E lent-formed lent-ready example-is posts-first home-can s s' w room e).0
