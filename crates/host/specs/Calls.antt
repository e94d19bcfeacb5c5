-- What each exported call answers and leaves, on the bytes that are lent. A refusal leaves every one of them.
use Rattle.std.specs.Prelude.{◌≡◌, ℕ, ◌+◌, ◌-◌, ◌*◌, ◌^◌, ◌/◌, ◌%◌, Bool, cond, List, length, take, drop, eqb, Result, Ok, Err, Option, Some, None}
use Rattle.fields.specs.declared.refusal.Refusal.{Refusal}
use Rattle.fields.specs.Model.{Disk}
use Rattle.fields.specs.declared.id.SectorId.{SectorId}
use Rattle.fields.specs.declared.refusal.Refusal.TheVariants.{BadController}
use Rattle.store.specs.Search.{sector_at}
use Rattle.store.specs.Find.{nothing}
use Rattle.store.specs.Store.{disk_of}
use Rattle.store.specs.Spots.{place_of}
use Rattle.store.specs.Calls.{Outcome, outcome, Penned, penned}
use Rattle.store.specs.declared.answer.Match.{Match}
use Rattle.registers.specs.declared.regs.Regs.{Regs}
use Rattle.registers.specs.Calls.{status_read, data_read, motor_set, disk_set, motor_of, current_track, disk_in, setting_in}
use Rattle.commands.specs.Lent.{Left, left}
use Rattle.sending.specs.Calls.{data_write}
use Rattle.floppy.specs.Calls.{new_floppy, Wrote, wrote}
use Rattle.home.specs.Calls.{image_in, extent_of, written_as}
use Rattle.layout.specs.Layout.{controller_length, numbers_for, floppy_bytes, regs_at, held_at, regs_in}
use Rattle.sheet.specs.Calls.{sheet_written, Resuming, resuming, sheet_read}
use Rattle.words.specs.Words.{refusal_word, answer_word, byte_word, flag_word, done_word, match_word, report_word, receipt_word, extent_word}
use Rattle.store.specs.declared.find.Place.{Place}
use Rattle.registers.specs.declared.regs.Report.{Report}
use Rattle.registers.specs.declared.regs.Answered.{Answered as WithRegs}
use Rattle.floppy.specs.declared.Shown.{Shown}

-- ---- Calls that ask a controller

-- a word by the registers that are in the bytes, or 1
abbrev pub asked_of : Result Regs Refusal → (Regs → ℕ) → ℕ
asked_of (Err why) f = refusal_word why
asked_of (Ok r) f = f r

unfoldable pub motor_on : List ℕ → ℕ
motor_on l = asked_of (regs_in l) (λ r. flag_word (motor_of r))

unfoldable pub track_on : List ℕ → ℕ
track_on l = asked_of (regs_in l) (λ r. byte_word (current_track r))

unfoldable pub disk_on : List ℕ → ℕ
disk_on l = asked_of (regs_in l) (λ r. flag_word (disk_in r))

-- the setting that it was made with (2026-06)
unfoldable pub setting_on : List ℕ → ℕ
setting_on l = asked_of (regs_in l) (λ r. byte_word (setting_in r))

-- ---- Calls that change one

-- the word, and the controller's bytes then
pub data Answered : Type 0 where
  answered : ℕ → List ℕ → Answered

abbrev pub answered_of : List ℕ → Result Regs Refusal → (Regs → Answered) → Answered
answered_of l (Err why) f = answered (refusal_word why) l
answered_of l (Ok r) f = f r

-- the numbers anew, the held bytes as they were
abbrev pub relaid : List ℕ → Regs → List ℕ
relaid l r = numbers_for r (held_at l)

-- bytes anew where the answer is not a refusal
abbrev pub if_taken : {A : Type 0} → Result A Refusal → List ℕ → List ℕ → List ℕ
if_taken (Ok x) new l = new
if_taken (Err why) new l = l

-- the word of an answer, by that of its value, and the registers in the bytes
abbrev pub settled_on : {A : Type 0} → (A → ℕ) → List ℕ → WithRegs A → Answered
settled_on word l a = answered (answer_word word a.answer) (if_taken a.answer (relaid l a.regs) l)

abbrev pub told_on : List ℕ → WithRegs ℕ → Answered
told_on = settled_on (λ b. b)

abbrev pub switched_on : List ℕ → WithRegs (Unit {0}) → Answered
switched_on = settled_on (λ done. 0)

-- `floppy_new_with`: 1 for the length; `floppy_new` is setting 0
abbrev pub new_if : Bool → ℕ → List ℕ → Answered
new_if fits n l = cond fits (answered 0 (floppy_bytes (new_floppy n))) (answered (refusal_word BadController) l)

unfoldable pub new_on : ℕ → List ℕ → Answered
new_on n l = new_if (eqb (length l) controller_length) n l

unfoldable pub set_motor_on : Bool → List ℕ → Answered
set_motor_on on l = answered_of l (regs_in l) (λ r. switched_on l (motor_set on r))

unfoldable pub set_disk_on : Bool → List ℕ → Answered
set_disk_on present l = answered_of l (regs_in l) (λ r. switched_on l (disk_set present r))

unfoldable pub status_on : List ℕ → Answered
status_on l = answered_of l (regs_in l) (λ r. told_on l (status_read r))

unfoldable pub read_on : List ℕ → List ℕ → Answered
read_on l x = answered_of l (regs_in l) (λ r. told_on l (data_read r x))

-- ---- A byte sent

-- the word, and the bytes of controller, table, data and transfer buffer then
pub data Sending : Type 0 where
  sending : ℕ → List ℕ → List ℕ → List ℕ → List ℕ → Sending

-- the controller then, where its held bytes are in place, and the same with all that is lent
abbrev pub written_on : List ℕ → WithRegs Report → Answered
written_on = settled_on report_word

abbrev pub posted_on : List ℕ → Left → Sending
posted_on l (left a h t d x) = sending (receipt_word a.answer) (if_taken a.answer (numbers_for a.regs h) l) t d x

abbrev pub sending_of : List ℕ → List ℕ → List ℕ → List ℕ → Result Regs Refusal → (Regs → Sending) → Sending
sending_of l t d x (Err why) f = sending (refusal_word why) l t d x
sending_of l t d x (Ok r) f = f r

unfoldable pub write_on : List ℕ → List ℕ → List ℕ → List ℕ → ℕ → Sending
write_on l t d x b = sending_of l t d x (regs_in l) (λ r. posted_on l (data_write r b (held_at l) t d x))

-- ---- Sheets

-- the word, and the buffer that is written to
abbrev pub penned_on : Penned → Answered
penned_on (penned a s) = answered (extent_word a) s

-- `floppy_write_sheet`
unfoldable pub write_sheet_on : List ℕ → List ℕ → List ℕ → Answered
write_sheet_on l x s = answered_of s (regs_in l) (λ r. penned_on (sheet_written r (held_at l) x s))

-- the word, and the bytes of controller and transfer buffer then
pub data TakenUp : Type 0 where
  taken_up : ℕ → List ℕ → List ℕ → TakenUp

abbrev pub resumed_by : Result (Unit {0}) Refusal → List ℕ → Regs → List ℕ → List ℕ → TakenUp
resumed_by (Ok tt) l r h x = taken_up 0 (numbers_for r h) x
resumed_by (Err why) l r h x = taken_up (refusal_word why) l x

abbrev pub resumed_on : List ℕ → Resuming → TakenUp
resumed_on l (resuming a h x) = resumed_by a.answer l a.regs h x

-- `floppy_read_sheet`: 1 for the length
unfoldable pub read_sheet_on : List ℕ → List ℕ → List ℕ → TakenUp
read_sheet_on l x s =
    cond (eqb (length l) controller_length) (resumed_on l (sheet_read (regs_at l) (held_at l) s x)) (taken_up (refusal_word BadController) l x)

-- ---- Calls on a store

-- load and fresh format: what they leave, with a word for the answer
abbrev pub worded : Outcome (Result (Unit {0}) Refusal) → Outcome ℕ
worded (outcome a t b) = outcome (done_word a) t b

-- `disk_image_length`
unfoldable pub image_length_on : List ℕ → List ℕ → ℕ
image_length_on t b = extent_word (extent_of (image_in t b))

-- `disk_write_image`
unfoldable pub write_image_on : List ℕ → List ℕ → List ℕ → Answered
write_image_on t b s = penned_on (written_as (image_in t b) s)

-- the place of a sector's bytes in bits 32 to 63, which sector it is in bits 16 to 31, how many bytes in bits 0 to 15; 0 for none or where 2 applies
abbrev pub part_word : Result (Option Place) Refusal → ℕ
part_word (Err why) = 0
part_word (Ok None) = 0
part_word (Ok (Some p)) = p.from * 2 ^ 32 + match_word p.which + (p.to - p.from)

-- `disk_sector`
unfoldable pub part_on : List ℕ → List ℕ → ℕ → ℕ → SectorId → ℕ
part_on t b side cylinder id = part_word (place_of t b side cylinder id)

-- the part of a list that such a word names: the place in bits 32 to 63, the length in bits 0 to 15
abbrev pub part_named : ℕ → List ℕ → List ℕ
part_named w b = take (w % 2 ^ 16) (drop (w / 2 ^ 32) b)

-- which sector the word of a byte sent, of `disk_has_sector` or of `disk_sector` names: place in bits 16 to 23, count in bits 24 to 31
abbrev pub match_named : ℕ → Match
match_named w = record { place = w / 2 ^ 16 % 2 ^ 8; count = w / 2 ^ 24 % 2 ^ 8 }

-- where no part is named: 2 applies, or no sector is found
pub data NoPart (t b : List ℕ) (side cylinder : ℕ) (id : SectorId) : Type 0 where
  no-disk : (why : Refusal) → disk_of t b ≡ Err why → NoPart t b side cylinder id
  no-sector : (d : Disk) → disk_of t b ≡ Ok d → sector_at d side cylinder id ≡ nothing → NoPart t b side cylinder id

-- ---- An answer by value, as words and bytes

-- of a port read, of a change of motor or disk, of a byte sent
abbrev pub shown_word : Shown ℕ → Answered
shown_word a = answered (byte_word a.answer) (floppy_bytes a.floppy)

abbrev pub changed_word : Shown (Unit {0}) → Answered
changed_word a = answered (done_word a.answer) (floppy_bytes a.floppy)

abbrev pub wrote_word : Wrote → Sending
wrote_word (wrote a t d x) = sending (receipt_word a.answer) (floppy_bytes a.floppy) t d x
