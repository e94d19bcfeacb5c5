-- The controller's numbers and the lent buffers, seen as boxes; and the numbers that no controller has.
use Rattle.std.specs.Prelude.{◌≡◌, ℕ, Bool, true, false, not, ◌&&◌, ◌||◌, List, take, nat_le, nat_lt, slice_index, Result, Ok}
use Rattle.std.proofs.Math.Option.{Option, none, some}
use Rattle.std.proofs.Math.Seq.{slice}
use Rattle.fields.specs.Model.{Disk}
use Rattle.store.specs.Store.{room_of, disk_of, transfer_room}
use Rattle.registers.specs.declared.regs.Regs.{Regs}
use Rattle.registers.specs.declared.regs.Pending.{Pending}
use Rattle.registers.specs.declared.regs.Target.{Target}
use Rattle.registers.specs.declared.regs.Goal.{Goal}
use Rattle.registers.specs.declared.regs.Goal.TheVariants.{IntoSector, IntoTrack}
use Rattle.registers.specs.Boxes.{Machine, Rust, DataSheet, Setting, Rooms, Slot, Empty, Holds, Drives, whole_of, Writing, Inside, Front, World}
use Rattle.registers.specs.Boxes.{setting_of, fitted, Named, named}
use Rattle.codes.specs.Table.{command_of, bytes_for}
use Rattle.registers.specs.declared.regs.Drive.{Drive}
use Rattle.fields.specs.declared.refusal.Refusal.{Refusal}
use Rattle.registers.specs.declared.regs.Answered.{Answered}

-- ---- The boxes

-- the rooms of the buffers that are lent
abbrev pub rooms_of : List ℕ → List ℕ → Rooms
rooms_of b x = record { room = room_of b; transfer = transfer_room x }

-- the disk that is in the drive, if the flag says that one is
abbrev pub slot_if : Bool → Result Disk Refusal → Slot
slot_if true disk = Holds disk
slot_if false disk = Empty

abbrev pub slot_of : Regs → List ℕ → List ℕ → Slot
slot_of r t b = slot_if r.drive.disk (disk_of t b)

-- the drives: their numbers, and what is in them
abbrev pub drives_with : Regs → Slot → Drives
drives_with r slot = record { first = record { cylinder = r.drive.cylinder; slot = slot } }

abbrev pub drives_of : Regs → List ℕ → List ℕ → Drives
drives_of r t b = drives_with r (slot_of r t b)

-- the drive that c1 names
abbrev pub named_in : ℕ → Regs → List ℕ → List ℕ → Named
named_in c1 r t b = named c1 (drives_of r t b)

-- a drive with a disk in, or without one, as it is named
abbrev pub named_as : Bool → Drive → Slot → Named
named_as f d slot = record { fitted = f; cylinder = d.cylinder; slot = slot }

-- what is written: of a track, if the flag says so, and which
abbrev pub goal_if : Bool → Target → Goal
goal_if true t = IntoTrack (record { size = t.one; sectors = t.two; gap = t.three; filler = t.four })
goal_if false t = IntoSector (record { c = t.one; h = t.two; r = t.three; n = t.four })

abbrev pub goal_of : Pending → Goal
goal_of p = goal_if p.track p.target

-- a write, and the one that is in progress, if the flag says that one is
abbrev pub writing_of : Pending → List ℕ → Writing
writing_of p held = record { c1 = p.c1; goal = goal_of p; held = held }

abbrev pub writing_if : Bool → Pending → List ℕ → Option Writing
writing_if true p h = some (writing_of p (take p.taken h))
writing_if false p h = none

unfoldable pub inside_of : Regs → List ℕ → Slot → Inside
inside_of r h slot = record {
  setting = setting_of r.setting;
  motor = r.motor;
  index = r.index;
  command = take r.count r.command;
  write = writing_if r.write.on r.write h;
  drives = drives_with r slot;
}

unfoldable pub front_of : Regs → List ℕ → Front
front_of r x = record {
  seek = r.drive.seek;
  reply = slice r.place r.fill r.reply;
  unread = slice r.from r.until x;
  lost = r.lost;
}

-- the controller, its held bytes, the table, the data and the transfer buffer, seen as boxes
abbrev pub world_of : Regs → List ℕ → List ℕ → List ℕ → List ℕ → World
world_of r h t b x = record { inside = inside_of r h (slot_of r t b); front = front_of r x }

-- ---- Calls, seen

-- one that answers a byte: the byte, and the boxes then
abbrev pub Shows : List ℕ → List ℕ → List ℕ → List ℕ → Answered ℕ → ℕ → World → Type 0
Shows h t b x a n w = (a.answer ≡ Ok n) × (world_of a.regs h t b x ≡ w)

-- one that switches the motor or changes the disk: that it was done, and the boxes then
abbrev pub Leaves : List ℕ → List ℕ → List ℕ → List ℕ → Answered (Unit {0}) → World → Type 0
Leaves h t b x a w = (a.answer ≡ Ok tt) × (world_of a.regs h t b x ≡ w)

-- ---- Refusal 1

-- the Rust machine has no Format in progress (2026-06)
abbrev pub is_rust : Machine → Bool
is_rust Rust = true
is_rust DataSheet = false

abbrev pub unknown_to : Machine → Goal → Bool
unknown_to m (IntoSector id) = false
unknown_to m (IntoTrack x) = is_rust m

-- of a write or a Format in progress: as many bytes as it takes, or more; a c1 that names a drive other than 0; a Format in the Rust machine
unfoldable pub wrong_work : Setting → ℕ → Goal → ℕ → Bool
wrong_work x c1 goal taken = nat_le (whole_of goal) taken || (not (fitted c1) || unknown_to x.machine goal)

abbrev pub wrong_write : Setting → Pending → Bool
wrong_write x p = p.on && wrong_work x p.c1 (goal_of p) p.taken

-- controller numbers are impossible: read place past fill, reply over 7 bytes, command not shorter than its length, lost count over 2, or the write
unfoldable pub impossible : Regs → Bool
impossible r =
    nat_lt r.fill r.place
    || (nat_lt r.until r.from
    || (nat_lt 7 r.fill
    || (nat_le (bytes_for (command_of (slice_index r.command 0))) r.count
    || (nat_lt 2 r.lost
    || wrong_write (setting_of r.setting) r.write))))

-- in a call that is lent the transfer buffer: or data fill beyond its room
unfoldable pub impossible_in : List ℕ → Regs → Bool
impossible_in x r = impossible r || nat_lt (transfer_room x) r.until
