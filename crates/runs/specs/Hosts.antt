-- The same calls as a host makes them: on a controller, with table, data and transfer buffer lent. Each call is what its promise says
-- (`crates/floppy/src/lib.rt`).
use Rattle.std.specs.Prelude.{◌≡◌, ℕ, ◌≤◌, ◌<◌, false, List, ◌++◌, length, Result, Ok, Err, Bool}
use Rattle.fields.specs.Capacities.{most_held}
use Rattle.fields.specs.Model.{Disk}
use Rattle.store.specs.Store.{disk_of}
use Rattle.registers.specs.declared.regs.Regs.{Regs}
use Rattle.registers.specs.Boxes.{Rooms, World, silent}
use Rattle.registers.specs.View.{rooms_of, world_of, impossible_in}
use Rattle.registers.specs.Calls.{motor_set, disk_set, motor_of, current_track, disk_in}
use Rattle.floppy.specs.declared.Floppy.{Floppy}
use Rattle.floppy.specs.Calls.{new_floppy, changed_as, Wrote, wrote, status_call, read_call, write_call}
use Rattle.saves.specs.Events.{Question, motor_on?, which_track?, disk_in?, Event, poll, read, send, ask, switch, swap, widen}
use Rattle.saves.specs.Events.{Answer, showed, gave, took, said, stood, denied, Next}
use Rattle.saves.specs.Stages.{Stage, acted}
use Rattle.fields.specs.declared.refusal.Refusal.{Refusal}
use Rattle.registers.specs.declared.regs.Report.{Report}
use Rattle.floppy.specs.declared.Shown.{Shown}

-- what a host has: the controller and the three lent buffers
pub record Host : Type 0 where
  pub floppy : Floppy
  pub table : List ℕ
  pub bytes : List ℕ
  pub transfer : List ℕ

-- the host with another controller, another store, a longer transfer buffer
abbrev pub with_floppy : Floppy → Host → Host
with_floppy f k = record { floppy = f; table = k.table; bytes = k.bytes; transfer = k.transfer }

abbrev pub with_store : List ℕ → List ℕ → Host → Host
with_store t b k = record { floppy = k.floppy; table = t; bytes = b; transfer = k.transfer }

abbrev pub with_more : List ℕ → Host → Host
with_more y k = record { floppy = k.floppy; table = k.table; bytes = k.bytes; transfer = k.transfer ++ y }

-- ---- Answers: what a call by value answers, as one of those of `Events`

-- a byte, yes or no, that it was done, that a byte was taken and what is told; or the refusal
abbrev pub byte_said : (ℕ → Answer) → Result ℕ Refusal → Answer
byte_said f (Ok n) = f n
byte_said f (Err why) = denied why

abbrev pub flag_said : Result Bool Refusal → Answer
flag_said (Ok f) = said f
flag_said (Err why) = denied why

abbrev pub done_said : Result (Unit {0}) Refusal → Answer
done_said (Ok tt) = took silent
done_said (Err why) = denied why

abbrev pub receipt_said : Result Report Refusal → Answer
receipt_said (Ok x) = took x
receipt_said (Err why) = denied why

-- ---- Calls

-- a port read, a change, and a byte sent
abbrev pub after_shown : (ℕ → Answer) → Shown ℕ → Host → Next Answer Host
after_shown f a k = record { answer = byte_said f a.answer; then = with_floppy a.floppy k }

abbrev pub after_changed : Shown (Unit {0}) → Host → Next Answer Host
after_changed a k = record { answer = done_said a.answer; then = with_floppy a.floppy k }

abbrev pub after_wrote : Wrote → Next Answer Host
after_wrote (wrote a t b x) =
    record { answer = receipt_said a.answer; then = record { floppy = a.floppy; table = t; bytes = b; transfer = x } }

-- the store that is lent from then on, unless the change was refused
abbrev pub if_swapped : Result (Unit {0}) Refusal → List ℕ → List ℕ → Host → Host
if_swapped (Ok tt) t b k = with_store t b k
if_swapped (Err why) t b k = k

abbrev pub after_swapped : Shown (Unit {0}) → List ℕ → List ℕ → Host → Next Answer Host
after_swapped a t b k = record { answer = done_said a.answer; then = if_swapped a.answer t b (with_floppy a.floppy k) }

-- what the controller tells
unfoldable pub asked_in : Question → Regs → Answer
asked_in motor_on? r = flag_said (motor_of r)
asked_in which_track? r = byte_said stood (current_track r)
asked_in disk_in? r = flag_said (disk_in r)

-- one call, by its promise
unfoldable pub called : Event → Host → Next Answer Host
called poll k = after_shown showed (status_call k.floppy) k
called read k = after_shown gave (read_call k.floppy k.transfer) k
called (send b) k = after_wrote (write_call k.floppy b k.table k.bytes k.transfer)
called (ask q) k = record { answer = asked_in q k.floppy.regs; then = k }
called (switch on) k = after_changed (changed_as (motor_set on k.floppy.regs) k.floppy.held) k
called (swap present t b) k = after_swapped (changed_as (disk_set present k.floppy.regs) k.floppy.held) t b k
called (widen y) k = record { answer = took silent; then = with_more y k }

-- ---- What a host has, seen

-- the boxes and the disk, and the rooms that are lent
abbrev pub seen : Host → World
seen k = world_of k.floppy.regs k.floppy.held k.table k.bytes k.transfer

abbrev pub lent : Host → Rooms
lent k = rooms_of k.bytes k.transfer

abbrev pub stage_of : Host → Stage
stage_of k = record { rooms = lent k; world = seen k }

-- the disk that a host's store holds
abbrev pub store_of : Host → Result Disk Refusal
store_of k = disk_of k.table k.bytes

-- a new controller with a setting, and with buffers lent
abbrev pub new_host : ℕ → List ℕ → List ℕ → List ℕ → Host
new_host n t b x = record { floppy = new_floppy n; table = t; bytes = b; transfer = x }

-- a controller that is one: its arrays are as long, and its index and the fill of its write as small, as their types say; its setting has a
-- meaning, and its numbers are possible in the transfer buffer that is lent
pub record Sound (k : Host) : Type 0 where
  pub nine : length k.floppy.regs.command ≡ 9
  pub seven : length k.floppy.regs.reply ≡ 7
  pub held : length k.floppy.held ≡ most_held
  pub index-fits : k.floppy.regs.index < 65536
  pub taken-fits : k.floppy.regs.write.taken < 65536
  pub setting-fits : k.floppy.regs.setting ≤ 1
  pub possible : impossible_in k.transfer k.floppy.regs ≡ false

-- the machine answers and leaves what the call does, seen; and the controller is one then
abbrev pub Agrees : Host → Event → Type 0
Agrees k e = (acted e (stage_of k) ≡ record { answer = (called e k).answer; then = stage_of (called e k).then }) × Sound (called e k).then
