-- What the calls on the registers answer and leave. `proofs/Seen.antt` proves that this, seen as boxes, is what `Ports` says.
use Rattle.std.specs.Prelude.{ℕ, ◌+◌, Bool, true, false, List, ◌==◌, nat_lt, slice_index, Result, Ok, Err}
use Rattle.fields.specs.declared.refusal.Refusal.TheVariants.{BadController}
use Rattle.registers.specs.declared.regs.Regs.{Regs}
use Rattle.registers.specs.Ports.{phase, seek_bit, settled, Poll, Stays, Counts, Drops, poll_by, Source, Bytes, Replies, Neither, source_by}
use Rattle.registers.specs.View.{impossible, impossible_in}
use Rattle.registers.specs.Settle.{regs_with_reply, regs_with_unread, regs_with_drive, regs_with_motor, sought}
use Rattle.fields.specs.declared.refusal.Refusal.{Refusal}
use Rattle.registers.specs.declared.regs.Answered.{Answered}

-- ---- Status read

-- what the status shows
unfoldable pub status_of : Regs → ℕ
status_of r = phase r.write.on (nat_lt r.from r.until) (nat_lt r.place r.fill) (nat_lt 0 r.count) + seek_bit r.drive.seek

-- the registers then
unfoldable pub regs_polled : Poll → Regs → Regs
regs_polled Stays r = r
regs_polled Counts r = regs_with_unread r.from r.until (r.lost + 1) r
regs_polled Drops r = regs_with_unread (r.from + 1) r.until 0 r

unfoldable pub after_status_of : Regs → Regs
after_status_of r =
    regs_polled (poll_by r.write.on (nat_lt r.from r.until) (r.lost == 2)) (sought (settled r.drive.seek) r)

-- a byte and registers, or 1 and the registers as they came
abbrev pub told_if : Bool → ℕ → Regs → Regs → Answered ℕ
told_if true b then r = record { answer = Err BadController; regs = r }
told_if false b then r = record { answer = Ok b; regs = then }

unfoldable pub status_read : Regs → Answered ℕ
status_read r = told_if (impossible r) (status_of r) (after_status_of r) r

-- ---- Data-port read

unfoldable pub byte_from : Source → Regs → List ℕ → ℕ
byte_from Bytes r x = slice_index x r.from
byte_from Replies r x = slice_index r.reply r.place
byte_from Neither r x = 0

unfoldable pub regs_read : Source → Regs → Regs
regs_read Bytes r = regs_with_unread (r.from + 1) r.until 0 r
regs_read Replies r = regs_with_unread r.from r.until 0 (regs_with_reply r.reply (r.place + 1) r.fill r)
regs_read Neither r = regs_with_unread r.from r.until 0 r

abbrev pub source_of : Regs → Source
source_of r = source_by (nat_lt r.from r.until) (nat_lt r.place r.fill)

unfoldable pub data_read : Regs → List ℕ → Answered ℕ
data_read r x = told_if (impossible_in x r) (byte_from (source_of r) r x) (regs_read (source_of r) r) r

-- ---- Motor, track and disk

-- 1 and the registers as they came, or other registers
abbrev pub switched_if : Bool → Regs → Regs → Answered (Unit {0})
switched_if true then r = record { answer = Err BadController; regs = r }
switched_if false then r = record { answer = (Ok tt); regs = then }

unfoldable pub motor_set : Bool → Regs → Answered (Unit {0})
motor_set on r = switched_if (impossible r) (regs_with_motor on r) r

-- all else is carried over
unfoldable pub disk_set : Bool → Regs → Answered (Unit {0})
disk_set present r =
    switched_if (impossible r) (regs_with_drive (record { cylinder = r.drive.cylinder; seek = r.drive.seek; disk = present }) r) r

-- 1, or what is asked
abbrev pub asked_if : {A : Type 0} → Bool → A → Result A Refusal
asked_if true a = Err BadController
asked_if false a = Ok a

unfoldable pub motor_of : Regs → Result Bool Refusal
motor_of r = asked_if (impossible r) r.motor

unfoldable pub current_track : Regs → Result ℕ Refusal
current_track r = asked_if (impossible r) r.drive.cylinder

unfoldable pub disk_in : Regs → Result Bool Refusal
disk_in r = asked_if (impossible r) r.drive.disk

-- the number of what the controller was made with (2026-06)
unfoldable pub setting_in : Regs → Result ℕ Refusal
setting_in r = asked_if (impossible r) r.setting
