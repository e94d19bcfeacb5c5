-- An exported call on the bytes of a controller that is one is the call on that controller; so are sequences of them.
use mathlib.Core.Path.{◌≡◌, refl, sym, ap, subst, ◌∙◌}
use Prim.Native.Nat.{ℕ, ◌/◌, ◌%◌, ◌<◌}
use native.Mathlib.Omega.{arith}
use mathlib.Core.Bool.{false}
use mathlib.Core.List.{List, map}
use lib.ListN.{length-drop}
use borrow.Author.Tests.{ne_eqb}
use Rattle.fields.specs.Bytes.{number_at}
use Rattle.fields.specs.declared.refusal.Refusal.{Refusal}
use Rattle.store.proofs.Checks.{transfer-in}
use Rattle.registers.specs.Calls.{motor_set, disk_set, motor_of, current_track, disk_in}
use Rattle.registers.proofs.Numbers.{possible, possible-in, until-in}
use Rattle.floppy.specs.declared.Floppy.{Floppy}
use Rattle.floppy.specs.Calls.{changed_as, Wrote, wrote, status_call, read_call, write_call}
use Rattle.saves.specs.Events.{Question, motor_on?, which_track?, disk_in?, Event, poll, read, send, ask, switch, swap, widen, Answer, showed, gave, stood, run}
use Rattle.runs.specs.Hosts.{Host, with_floppy, byte_said, flag_said, done_said, receipt_said, if_swapped, asked_in, after_shown, after_changed, after_swapped, after_wrote, called, Sound}
use Rattle.runs.proofs.Follows.{follows}
use Rattle.runs.proofs.Steps.{agrees}
use Rattle.layout.specs.Layout.{regs_at, floppy_bytes, Fitting}
use Rattle.layout.proofs.Images.{formed-long}
use Rattle.layout.proofs.Inverse.{regs-back, held_back, formed-setting, written_back}
use Rattle.words.specs.Words.{byte_word, flag_word, done_word, receipt_word, refusal_word}
use Rattle.host.specs.Calls.{Answered, answered, shown_word, changed_word, wrote_word}
use Rattle.host.proofs.Parts.{number_in}
use Rattle.host.proofs.Same.{motor-same, track-same, disk-same, status-same, read_same, set-motor-same, set-disk-same, write_same}
use Rattle.lending.specs.Lendings.{Lending, is_answer, swapped_on, after_answered, after_sending, asked_on, exported, word_of, host_at, lending_of, Formed, Readable}
use Rattle.std.specs.Prelude.{Result, Ok, Err, Bool}
use Rattle.registers.specs.declared.regs.Report.{Report}
use Rattle.floppy.specs.declared.Shown.{Shown}

-- ---- numbers that fit the fields of the layout

pub sound-fitting : (k : Host) → Sound k → Fitting k.floppy.regs
sound-fitting k s =
    let p = possible k.floppy.regs (possible-in k.transfer k.floppy.regs s.possible) in
    let u : k.floppy.regs.until < 4294967296 = omega (arith, until-in k.transfer k.floppy.regs s.possible, transfer-in k.transfer) in
    record { nine = s.nine; seven = s.seven; from-fits = omega (arith, p.from_in, u); until-fits = u; index-fits = s.index-fits; taken-fits = s.taken-fits; setting-fits = s.setting-fits }

-- ---- words

byte_word_lem : (f : ℕ → Answer) → ((n : ℕ) → word_of (f n) ≡ n) → (b : Result ℕ Refusal) → byte_word b ≡ word_of (byte_said f b)
unfolding word_of
byte_word_lem f q (Ok n) = sym (q n)
byte_word_lem f q (Err why) = refl

flag_word_lem : (a : Result Bool Refusal) → flag_word a ≡ word_of (flag_said a)
unfolding word_of
flag_word_lem (Ok f) = refl
flag_word_lem (Err why) = refl

done-word : (a : Result (Unit {0}) Refusal) → done_word a ≡ word_of (done_said a)
unfolding word_of
done-word (Ok tt) = refl
done-word (Err why) = refl

receipt-word : (a : Result Report Refusal) → receipt_word a ≡ word_of (receipt_said a)
unfolding word_of
receipt-word (Ok x) = refl
receipt-word (Err why) = refl

-- a refusal is no answer
pub refusal-fails : (why : Refusal) → is_answer (refusal_word why) ≡ false
refusal-fails why = let n = number_in why in ne_eqb (refusal_word why / 256 % 256) 0 (λ z. omega (arith, n))

-- ---- one call

module _ (k : Host) (s : Sound k) where
  abbrev F : Floppy
  F = k.floppy

  fits : Fitting F.regs
  fits = sound-fitting k s

  abbrev pub Exports : Event → Type 0
  Exports e = exported e (lending_of k) ≡ record { answer = word_of (called e k).answer; then = lending_of (called e k).then }

  shown-exports : (f : ℕ → Answer) → ((n : ℕ) → word_of (f n) ≡ n) → (a : Shown ℕ)
      → after_answered (shown_word a) (lending_of k) ≡ record { answer = word_of (after_shown f a k).answer; then = lending_of (after_shown f a k).then }
  shown-exports f q a = λ i. record { answer = byte_word_lem f q a.answer i; then = lending_of (with_floppy a.floppy k) }

  changed-exports : (a : Shown (Unit {0}))
      → after_answered (changed_word a) (lending_of k) ≡ record { answer = word_of (after_changed a k).answer; then = lending_of (after_changed a k).then }
  changed-exports a = λ i. record { answer = done-word a.answer i; then = lending_of (with_floppy a.floppy k) }

  wrote-exports : (a : Wrote) → after_sending (wrote_word a) ≡ record { answer = word_of (after_wrote a).answer; then = lending_of (after_wrote a).then }
  wrote-exports (wrote a t b x) = λ i. record { answer = receipt-word a.answer i; then = record { controller = floppy_bytes a.floppy; table = t; bytes = b; transfer = x } }

  swapped-exports : (a : Shown (Unit {0})) (t b : List ℕ)
      → swapped_on (changed_word a) t b (lending_of k) ≡ record { answer = word_of (after_swapped a t b k).answer; then = lending_of (after_swapped a t b k).then }
  swapped-exports a t b = go a.answer
    where
      go : (d : Result (Unit {0}) Refusal) → swapped_on (answered (done_word d) (floppy_bytes a.floppy)) t b (lending_of k)
          ≡ record { answer = word_of (done_said d); then = lending_of (if_swapped d t b (with_floppy a.floppy k)) }
      go (Ok tt) = unfold word_of in refl
      go (Err why) = unfold word_of in rw (refusal-fails why)

  asked-exports : (q : Question) → asked_on q (floppy_bytes F) ≡ word_of (asked_in q F.regs)
  unfolding asked_on asked_in
  asked-exports motor_on? = motor-same F fits s.held ∙ flag_word_lem (motor_of F.regs)
  asked-exports which_track? = track-same F fits s.held ∙ byte_word_lem stood (λ n. unfold word_of in refl) (current_track F.regs)
  asked-exports disk_in? = disk-same F fits s.held ∙ flag_word_lem (disk_in F.regs)

  pub exports : (e : Event) → Exports e
  unfolding exported called
  exports poll = ap (λ (a : Answered). after_answered a (lending_of k)) (status-same F fits s.held) ∙ shown-exports showed (λ n. unfold word_of in refl) (status_call F)
  exports read = ap (λ (a : Answered). after_answered a (lending_of k)) (read_same F fits s.held k.transfer) ∙ shown-exports gave (λ n. unfold word_of in refl) (read_call F k.transfer)
  exports (send b) = ap after_sending (write_same F fits s.held k.table k.bytes k.transfer b) ∙ wrote-exports (write_call F b k.table k.bytes k.transfer)
  exports (ask q) = λ i. record { answer = asked-exports q i; then = lending_of k }
  exports (switch on) = ap (λ (a : Answered). after_answered a (lending_of k)) (set-motor-same F fits s.held on) ∙ changed-exports (changed_as (motor_set on F.regs) F.held)
  exports (swap present t b) =
      ap (λ (a : Answered). swapped_on a t b (lending_of k)) (set-disk-same F fits s.held present) ∙ swapped-exports (changed_as (disk_set present F.regs) F.held) t b
  exports (widen y) = unfold word_of in refl

-- ---- the controller that is in bytes

-- Bytes that a host can look at are those of a controller that is one.
module _ (l : Lending) (f : Readable l) where
  read-sound : Sound (host_at l)
  unfolding regs_at number_at
  read-sound = record {
    nine = refl;
    seven = refl;
    held = omega (arith, length-drop 44 l.controller, formed-long l.controller f.form);
    index-fits = omega (arith, f.are-bytes 29, f.are-bytes 30);
    taken-fits = omega (arith, f.are-bytes 37, f.are-bytes 38);
    setting-fits = formed-setting l.controller f.form;
    possible = f.possible;
  }

  pub readable-formed : Formed l
  readable-formed = record {
    sound = read-sound;
    same = λ i. record { controller = written_back l.controller f.are-bytes f.form i; table = l.table; bytes = l.bytes; transfer = l.transfer };
  }

-- ---- sequences

-- The exported calls on the bytes of a controller that is one answer and leave, as words and bytes, what the calls on it do.
pub host-run : (es : List Event) (k : Host) → Sound k
    → run exported es (lending_of k) ≡ record { answers = map word_of (run called es k).answers; end = lending_of (run called es k).end }
host-run es k s = (follows called exported word_of lending_of Sound (λ e j h. (exports j h e, (agrees j h e).1)) es k s).0

-- The same from the bytes.
pub bytes_run : (es : List Event) (l : Lending) → Formed l
    → run exported es l ≡ record { answers = map word_of (run called es (host_at l)).answers; end = lending_of (run called es (host_at l)).end }
bytes_run es l f = ap (run exported es) (sym f.same) ∙ host-run es (host_at l) f.sound

-- ---- and back

-- the controller that is in the bytes of a controller that is one is that controller
pub host-back : (k : Host) → Sound k → host_at (lending_of k) ≡ k
host-back k s = λ i. record {
  floppy = record { regs = regs-back k.floppy.regs k.floppy.held (sound-fitting k s) i; held = held_back k.floppy.regs k.floppy.held i };
  table = k.table;
  bytes = k.bytes;
  transfer = k.transfer;
}

-- so its bytes are formed
pub host-formed : (k : Host) → Sound k → Formed (lending_of k)
host-formed k s = record { sound = subst Sound (sym (host-back k s)) s; same = ap lending_of (host-back k s) }
