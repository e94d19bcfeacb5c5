-- The boxes that a controller has, and the changes that a byte sent to it can bring (01, "Status and data ports").
use Rattle.std.specs.Prelude.{ℕ, ◌+◌, ◌*◌, ◌%◌, min, Bool, true, false, List, [], ◌∷◌, ◌++◌, ◌==◌, Result, Ok}
use Rattle.std.proofs.Math.Option.{Option, none, some}
use Rattle.fields.specs.Model.{size_of, Disk}
use Rattle.fields.specs.declared.id.SectorId.{SectorId}
use Rattle.store.specs.declared.answer.Match.{Match}
use Rattle.store.specs.Search.{no_match}
use Rattle.codes.specs.Second.{drive_of}
use Rattle.registers.specs.declared.regs.Report.{Report}
use Rattle.registers.specs.declared.regs.Goal.{Goal}
use Rattle.registers.specs.declared.regs.Goal.TheVariants.{IntoSector, IntoTrack}
use Rattle.registers.specs.declared.regs.Seek.{Seek}
use Rattle.registers.specs.declared.regs.Seek.TheVariants.{Idle, Running, Done}
use Rattle.fields.specs.declared.refusal.Refusal.{Refusal}

-- ---- What is lent

-- the data room and the transfer room
pub record Rooms : Type 0 where
  pub room : ℕ
  pub transfer : ℕ

-- ---- What a controller is made with

-- the machines: the Rust's, and the data sheet's (2026-06)
pub data Machine : Type 0 where
  Rust : Machine
  DataSheet : Machine

pub record Setting : Type 0 where
  pub machine : Machine

-- the setting that a number names: bit 0 is the machine, other bits mean nothing yet
abbrev pub machine_if : Bool → Machine
machine_if true = Rust
machine_if false = DataSheet

abbrev pub setting_of : ℕ → Setting
setting_of n = record { machine = machine_if (n % 2 == 0) }

-- with the Rust machine, and with the data-sheet machine
abbrev pub rust_machine : Setting
rust_machine = record { machine = Rust }

abbrev pub sheet_machine : Setting
sheet_machine = record { machine = DataSheet }

-- ---- The boxes

-- the drive: no disk, or a disk; the store of one that breaks the layout has its refusal in the disk's place
pub data Slot : Type 0 where
  Empty : Slot
  Holds : Result Disk Refusal → Slot

-- a drive: the cylinder that its head is over, and what is in it
pub record Bay : Type 0 where
  pub cylinder : ℕ
  pub slot : Slot

-- the drives that are fitted: drive 0
pub record Drives : Type 0 where
  pub first : Bay

-- what is written, the data of a sector or, for a Format, the IDs of a track (2026-06): how many bytes that takes, as the sector's n calls for, or
-- four for each ID, of 255 at most
abbrev pub whole_of : Goal → ℕ
whole_of (IntoSector id) = size_of id.n
whole_of (IntoTrack x) = 4 * min x.sectors 255

-- a write in progress: the command's second byte c1, what is written, and the bytes that are held so far
pub record Writing : Type 0 where
  pub c1 : ℕ
  pub goal : Goal
  pub held : List ℕ

-- what a controller is made with, and keeps (2026-06); and what only sent bytes change: motor, Read ID's index, a command partly sent, a write in
-- progress, the drives
pub record Inside : Type 0 where
  pub setting : Setting
  pub motor : Bool
  pub index : ℕ
  pub command : List ℕ
  pub write : Option Writing
  pub drives : Drives

-- what port reads change too: the seek state, the unread reply, the unread data, the lost count
pub record Front : Type 0 where
  pub seek : Seek
  pub reply : List ℕ
  pub unread : List ℕ
  pub lost : ℕ

-- all of them
pub record World : Type 0 where
  pub inside : Inside
  pub front : Front

-- a new controller: `Floppy::new_with`
unfoldable pub new_world : Setting → World
new_world x = record {
  inside = record {
    setting = x;
    motor = false;
    index = 0;
    command = [];
    write = none;
    drives = record { first = record { cylinder = 0; slot = Empty } };
  };
  front = record { seek = Idle; reply = []; unread = []; lost = 0 };
}

-- ---- The drive that a command names

-- whether it is fitted, the cylinder that it shows, and what is in it
pub record Named : Type 0 where
  pub fitted : Bool
  pub cylinder : ℕ
  pub slot : Slot

-- drive 0 is fitted, and no other
abbrev pub fitted : ℕ → Bool
fitted c1 = drive_of c1 == 0

-- a drive that is not fitted is empty, and shows the cylinder of drive 0
abbrev pub named_if : Bool → Bay → Named
named_if true d = record { fitted = true; cylinder = d.cylinder; slot = d.slot }
named_if false d = record { fitted = false; cylinder = d.cylinder; slot = Empty }

unfoldable pub named : ℕ → Drives → Named
named c1 d = named_if (fitted c1) d.first

-- ---- What a sent byte does, as data

-- how it is taken: as the next byte of a command, or of a write
pub data Taking : Type 0 where
  Add : ℕ → Taking
  Hold : ℕ → Taking

-- a change inside: the command is done with, the head moves, the index rises, a write starts, a write is done with
pub data Change : Type 0 where
  Clear : Change
  MoveTo : ℕ → Change
  Turn : Change
  Start : ℕ → Goal → Change
  Finish : Change

-- a reply of seven bytes: st0, st1, st2 and four more
abbrev pub seven : ℕ → ℕ → ℕ → SectorId → List ℕ
seven st0 st1 st2 id = st0 ∷ st1 ∷ st2 ∷ id.c ∷ id.h ∷ id.r ∷ id.n ∷ []

-- a change in front: none, a reply, a reply unless one is unread, a seek, what Sense Interrupt tells (of a seek to a cylinder, and of none), data with
-- their reply
pub data Response : Type 0 where
  Stay : Response
  Reply : List ℕ → Response
  ReplyIfNone : List ℕ → Response
  Seeking : Response
  Interrupt : ℕ → List ℕ → Response
  Serve : List ℕ → List ℕ → Response

-- what the host is told beside that a byte was taken: nothing, or which sector was served (2026-05)
abbrev pub silent : Report
silent = record { sector = no_match }

abbrev pub serves : Match → Report
serves m = record { sector = m }

-- all that a command, or the end of a write, does: the changes, in order, the disk that is then in the drive where it is another, and what is told
pub record Effect : Type 0 where
  pub changes : List Change
  pub response : Response
  pub put : Option Disk
  pub report : Report

-- all that a byte does
pub record Sent : Type 0 where
  pub taking : Taking
  pub effect : Effect

-- ---- What that means for the boxes

-- the boxes with a command, with a write, with drives
abbrev pub with_command : List ℕ → Inside → Inside
with_command x i = record { setting = i.setting; motor = i.motor; index = i.index; command = x; write = i.write; drives = i.drives }

abbrev pub with_write : Option Writing → Inside → Inside
with_write x i = record { setting = i.setting; motor = i.motor; index = i.index; command = i.command; write = x; drives = i.drives }

abbrev pub with_drives : Drives → Inside → Inside
with_drives x i = record { setting = i.setting; motor = i.motor; index = i.index; command = i.command; write = i.write; drives = x }

-- a write of which one more byte is held
abbrev pub holding : ℕ → Writing → Writing
holding b w = record { c1 = w.c1; goal = w.goal; held = w.held ++ (b ∷ []) }

abbrev pub holding_in : ℕ → Option Writing → Option Writing
holding_in b none = none
holding_in b (some w) = some (holding b w)

unfoldable pub taken : Taking → Inside → Inside
taken (Add b) i = with_command (i.command ++ (b ∷ [])) i
taken (Hold b) i = with_write (holding_in b i.write) i

-- the drives with the head over another cylinder, and with something else in
abbrev pub moved_to : ℕ → Drives → Drives
moved_to c d = record { first = record { cylinder = c; slot = d.first.slot } }

abbrev pub loaded_with : Slot → Drives → Drives
loaded_with x d = record { first = record { cylinder = d.first.cylinder; slot = x } }

-- after 65,535 comes 0
unfoldable pub changed : Change → Inside → Inside
changed Clear i = with_command [] i
changed (MoveTo c) i = with_drives (moved_to c i.drives) i
changed Turn i = record { setting = i.setting; motor = i.motor; index = (i.index + 1) % 65536; command = i.command; write = i.write; drives = i.drives }
changed (Start c1 goal) i = with_write (some record { c1 = c1; goal = goal; held = [] }) i
changed Finish i = with_write none i

unfoldable pub all_changed : List Change → Inside → Inside
all_changed [] i = i
all_changed (x ∷ xs) i = all_changed xs (changed x i)

-- a disk is put in the drive, where there is one to put
abbrev pub with_slot : Slot → Inside → Inside
with_slot x i = with_drives (loaded_with x i.drives) i

unfoldable pub put_in : Option Disk → Inside → Inside
put_in none i = i
put_in (some d) i = with_slot (Holds (Ok d)) i

-- the front with another reply
abbrev pub with_reply : List ℕ → Front → Front
with_reply x f = record { seek = f.seek; reply = x; unread = f.unread; lost = f.lost }

-- the new reply where nothing of the old is unread
abbrev pub if_none : List ℕ → List ℕ → List ℕ
if_none new [] = new
if_none new (x ∷ xs) = x ∷ xs

-- Running becomes Done, 0x20 and the cylinder; else what is told of none
unfoldable pub interrupted : ℕ → List ℕ → Front → Seek → Front
interrupted c x f Idle = with_reply x f
interrupted c x f Running = record { seek = Done; reply = 0x20 ∷ c ∷ []; unread = f.unread; lost = f.lost }
interrupted c x f Done = with_reply x f

unfoldable pub responded : Response → Front → Front
responded Stay f = f
responded (Reply x) f = with_reply x f
responded (ReplyIfNone x) f = with_reply (if_none x f.reply) f
responded Seeking f = record { seek = Running; reply = []; unread = f.unread; lost = f.lost }
responded (Interrupt c x) f = interrupted c x f f.seek
responded (Serve bytes x) f = record { seek = f.seek; reply = x; unread = bytes; lost = f.lost }
