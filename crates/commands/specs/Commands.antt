-- What each command does (01, "Commands"). The store is looked at exactly where a definition asks for the disk that a slot holds.
use Rattle.std.specs.Prelude.{ℕ, ◌+◌, Bool, true, false, not, ◌&&◌, cond, List, [], ◌∷◌, length, get_or, eqb, leb, Result, Ok}
use Rattle.std.proofs.Math.Option.{none, some}
use Rattle.fields.specs.Refusals.{need, after}
use Rattle.fields.specs.Bytes.{flip_bit}
use Rattle.fields.specs.Model.{size_of, Sector, Track, Disk, total, byte_count}
use Rattle.fields.specs.declared.id.SectorId.{SectorId}
use Rattle.fields.specs.declared.refusal.Refusal.TheVariants.{NoRoom, NoTransferRoom}
use Rattle.tracks.specs.Rows.{ids_at, ids_from}
use Rattle.store.specs.Find.{Found, nothing, found}
use Rattle.store.specs.Search.{sector_at, match_at, sector_by_index, numbered, read_at}
use Rattle.store.specs.declared.answer.Match.{Match}
use Rattle.store.specs.Store.{contents}
use Rattle.store.specs.Fresh.{formatted}
use Rattle.store.specs.Calls.{fitting}
use Rattle.disk.specs.Change.{saved, set_track}
use Rattle.disk.specs.Calls.{end_of}
use Rattle.codes.specs.Second.{u, drive_of, head_of}
use Rattle.codes.specs.declared.command.Command.{Command}
use Rattle.codes.specs.declared.command.Command.TheVariants.{Specify, SenseDrive, Recalibrate, SenseInterrupt, SeekTo}
use Rattle.codes.specs.declared.command.Command.TheVariants.{Version, ReadData, ReadDeleted, WriteData, ReadId, FormatTrack, Unserved, Invalid}
use Rattle.registers.specs.declared.regs.Goal.{Goal}
use Rattle.registers.specs.declared.regs.Goal.TheVariants.{IntoSector, IntoTrack}
use Rattle.registers.specs.declared.regs.Shape.{Shape}
use Rattle.registers.specs.declared.regs.Report.{Report}
use Rattle.registers.specs.Boxes.{Machine, Rust, DataSheet, Setting, Rooms, Slot, Empty, Holds, Drives, Writing, Named, named, seven, silent, serves}
use Rattle.registers.specs.Boxes.{Change, MoveTo, Turn, Start, Finish, Response, Stay, Reply, ReplyIfNone, Seeking, Interrupt, Serve, Effect}
use Rattle.fields.specs.declared.refusal.Refusal.{Refusal}

-- ---- The parts of a command

-- its byte k, and the sector ID that bytes 2 to 5 name
abbrev pub byte : List ℕ → ℕ → ℕ
byte command k = get_or command k 0

abbrev pub id_of : List ℕ → SectorId
id_of command = record { c = byte command 2; h = byte command 3; r = byte command 4; n = byte command 5 }

-- ---- Ready or not

-- whether there is a disk in a drive, whatever its store looks like
abbrev pub ready : Slot → Bool
ready Empty = false
ready (Holds d) = true

-- not ready means drive not 0, or no disk; ready, the disk is looked at, and 2 comes where its store breaks the layout
abbrev pub when_ready : Slot → Result Effect Refusal → (Disk → Result Effect Refusal) → Result Effect Refusal
when_ready Empty e f = e
when_ready (Holds disk) e f = after disk f

-- ---- Effects

-- changes and a response, with the disk that was there; with something to tell, and with nothing
abbrev pub tells : Report → List Change → Response → Result Effect Refusal
tells told xs x = Ok record { changes = xs; response = x; put = none; report = told }

abbrev pub does : List Change → Response → Result Effect Refusal
does xs x = tells silent xs x

-- a disk put, a reply, and what is told
abbrev pub puts : Report → List Change → Disk → List ℕ → Result Effect Refusal
puts told xs d reply = Ok record { changes = xs; response = Reply reply; put = some d; report = told }

-- ---- Replies

-- FF four times
abbrev pub no_id : SectorId
no_id = record { c = 0xFF; h = 0xFF; r = 0xFF; n = 0xFF }

-- missing = u + 0x40, 01, 00, FF FF FF FF
unfoldable pub missing : ℕ → List ℕ
missing c1 = seven (u c1 + 0x40) 0x01 0x00 no_id

-- not ready: u + 0xC8, 0, 0 and four more
abbrev pub not_ready : ℕ → SectorId → List ℕ
not_ready c1 id = seven (u c1 + 0xC8) 0 0 id

-- ---- 04, Sense Drive

-- drive 0 with disk: (c1 & 7) + 0x28, + 0x10 at cylinder 0; else 0x80 + drive
unfoldable pub sense_if : ℕ → ℕ → Bool → List ℕ
sense_if c1 cylinder true = (u c1 + 0x28 + cond (eqb cylinder 0) 0x10 0) ∷ []
sense_if c1 cylinder false = (0x80 + drive_of c1) ∷ []

abbrev pub sense_drive : ℕ → Named → List ℕ
sense_drive c1 d = sense_if c1 d.cylinder (ready d.slot)

-- ---- 07, Recalibrate, and 0F, Seek

-- drive 0: seek state Running, the head to a cylinder, reply emptied; other drives nothing
unfoldable pub seek_if : Bool → ℕ → Result Effect Refusal
seek_if true c = does (MoveTo c ∷ []) Seeking
seek_if false c = does [] Stay

abbrev pub seek_to : ℕ → Named → Result Effect Refusal
seek_to c d = seek_if d.fitted c

-- ---- 08, Sense Interrupt, with no Running seek, and an invalid first byte

-- 0x80, cylinder; in the data-sheet machine 0x80 alone (2026-06)
abbrev pub no_seek : Machine → ℕ → List ℕ
no_seek Rust c = 0x80 ∷ c ∷ []
no_seek DataSheet c = 0x80 ∷ []

-- none, reply kept; in the data-sheet machine 0x80 alone (2026-06)
abbrev pub invalid : Machine → Response
invalid Rust = Stay
invalid DataSheet = Reply (0x80 ∷ [])

-- ---- Read and Read Deleted

-- Read Deleted flips 0x40 of st2
unfoldable pub mark_of : Bool → ℕ → ℕ
mark_of true st2 = flip_bit 0x40 st2
mark_of false st2 = st2

-- the sum of the sizes by n
abbrev pub sizes_of : List Sector → ℕ
sizes_of ss = total (λ s. size_of s.id.n) ss

-- u + 0x40, st1, st2, c, h, eot, n
unfoldable pub read_reply : Bool → List ℕ → ℕ → ℕ → ℕ → ℕ → List ℕ
read_reply deleted command long sizes st1 st2 =
    seven (u (byte command 1) + 0x40) (end_of long sizes st1) (mark_of deleted st2) (numbered (id_of command) (byte command 6))

-- what was read: nothing is missing; 9 where it exceeds the transfer room; else it replaces the unread data, and the first sector is told
unfoldable pub served_as : Rooms → Bool → List ℕ → Match → List Sector → Result Effect Refusal
served_as s deleted command m [] = does [] (Reply (missing (byte command 1)))
served_as s deleted command m (x ∷ xs) =
    need (leb (length (contents (x ∷ xs))) s.transfer) NoTransferRoom
    (tells (serves m) [] (Serve (contents (x ∷ xs))
    (read_reply deleted command (length (contents (x ∷ xs))) (sizes_of (x ∷ xs)) x.st1.bits x.st2.bits)))

-- not ready: u + 0xC8, 0, 0, c, h, r, n
unfoldable pub read_data : Rooms → Bool → List ℕ → Named → Result Effect Refusal
read_data s deleted command d =
    when_ready d.slot (does [] (Reply (not_ready (byte command 1) (id_of command))))
    (λ disk.
    served_as s deleted command (match_at disk (head_of (byte command 1)) d.cylinder (id_of command))
    (read_at disk (head_of (byte command 1)) d.cylinder (id_of command) (byte command 6)))

-- ---- Write

-- found starts the data phase, old reply kept, and is told
unfoldable pub start_at : ℕ → SectorId → Match → Found Sector → Result Effect Refusal
start_at c1 id m nothing = does [] (Reply (missing c1))
start_at c1 id m (found k x) = tells (serves m) (Start c1 (IntoSector id) ∷ []) Stay

-- not ready: u + 0xC8, 0, 0, FF four times
unfoldable pub write_data : ℕ → SectorId → Named → Result Effect Refusal
write_data c1 id d =
    when_ready d.slot (does [] (Reply (not_ready c1 no_id)))
    (λ disk. start_at c1 id (match_at disk (head_of c1) d.cylinder id) (sector_at disk (head_of c1) d.cylinder id))

-- after the last byte: u + 0x40, 80, 00, c, h, r, n
unfoldable pub write_reply : ℕ → SectorId → List ℕ
write_reply c1 id = seven (u c1 + 0x40) 0x80 0x00 id

-- the first match at that moment takes the new bytes and is told; 8 where the stored bytes would exceed the data room; no match, the same reply
unfoldable pub save_at : Rooms → ℕ → SectorId → Match → Disk → Found Sector → Result Effect Refusal
save_at s c1 id m new nothing = does (Finish ∷ []) (Reply (write_reply c1 id))
save_at s c1 id m new (found k x) = need (leb (byte_count new) s.room) NoRoom (puts (serves m) (Finish ∷ []) new (write_reply c1 id))

-- with no disk the reply is the same
unfoldable pub written_sector : Rooms → ℕ → SectorId → List ℕ → Named → Result Effect Refusal
written_sector s c1 id held d =
    when_ready d.slot (does (Finish ∷ []) (Reply (write_reply c1 id)))
    (λ disk. save_at s c1 id (match_at disk (head_of c1) d.cylinder id) (saved (head_of c1) d.cylinder id held disk) (sector_at disk (head_of c1) d.cylinder id))

-- ---- Read ID

-- u, 0, 0, ID; the index rises, found or not
unfoldable pub id_given : ℕ → Found Sector → Result Effect Refusal
id_given c1 nothing = does (Turn ∷ []) (Reply (missing c1))
id_given c1 (found k x) = does (Turn ∷ []) (Reply (seven (u c1) 0 0 x.id))

-- not ready: u + 0xC8, 0, 0, 0, 0, 0, 2, but only if no reply byte is unread
abbrev pub not_ready_id : SectorId
not_ready_id = record { c = 0; h = 0; r = 0; n = 2 }

unfoldable pub read_id : ℕ → ℕ → Named → Result Effect Refusal
read_id c1 index d =
    when_ready d.slot (does [] (ReplyIfNone (not_ready c1 not_ready_id)))
    (λ disk. id_given c1 (sector_by_index disk (head_of c1) d.cylinder index))

-- ---- Format

-- the shape that a Format asks for: n, how many sectors, gap, filler
abbrev pub shape_of : List ℕ → Shape
shape_of command = record { size = byte command 2; sectors = byte command 3; gap = byte command 4; filler = byte command 5 }

-- the track of a shape, where the head is: filler data, each sector as long as the command's n says, whatever the IDs are
abbrev pub track_as : ℕ → ℕ → Shape → List SectorId → Track
track_as c1 cylinder x ids = formatted cylinder (head_of c1) x.size x.gap x.filler ids

-- u, 0, 0, 0, 0, 0, n
abbrev pub format_reply : ℕ → ℕ → List ℕ
format_reply c1 n = seven (u c1) 0 0 (record { c = 0; h = 0; r = 0; n = n })

-- 6, 7, 8, or the track is laid
unfoldable pub lays_track : Rooms → List Change → ℕ → ℕ → Shape → List SectorId → Disk → Result Effect Refusal
lays_track s xs c1 cylinder x ids disk =
    after (fitting s.room (set_track (head_of c1) cylinder (track_as c1 cylinder x ids) disk)) (λ new. puts silent xs new (format_reply c1 x.size))

-- IDs are cylinder, head, 1 to count, n
abbrev pub numbered_for : List ℕ → ℕ → List SectorId
numbered_for command cylinder = ids_from cylinder (head_of (byte command 1)) (byte command 2) 1 (byte command 3)

-- no ID bytes are taken. Not ready: u + 0xC8, 0, 0, cylinder, head, 0, n
unfoldable pub format_at_once : Rooms → List ℕ → Named → Result Effect Refusal
format_at_once s command d =
    when_ready d.slot
    (does [] (Reply (not_ready (byte command 1) (record { c = d.cylinder; h = head_of (byte command 1); r = 0; n = byte command 2 }))))
    (λ disk. lays_track s [] (byte command 1) d.cylinder (shape_of command) (numbered_for command d.cylinder) disk)

-- the data-sheet machine has an execution phase, but not for count 0, and not where the drive is not ready (2026-06)
abbrev pub has_phase : Machine → ℕ → Bool → Bool
has_phase Rust count ready = false
has_phase DataSheet count ready = ready && not (eqb count 0)

-- it counts as a write in progress; the store is not looked at, old reply kept
abbrev pub format_if : Bool → Rooms → List ℕ → Named → Result Effect Refusal
format_if true s command d = does (Start (byte command 1) (IntoTrack (shape_of command)) ∷ []) Stay
format_if false s command d = format_at_once s command d

unfoldable pub format_track : Setting → Rooms → List ℕ → Named → Result Effect Refusal
format_track x s command d = format_if (has_phase x.machine (byte command 3) (ready d.slot)) s command d

-- after the last one the track is laid with those IDs, c, h, r, n of each; with no disk the reply is the same (2026-06)
unfoldable pub written_track : Rooms → ℕ → Shape → List ℕ → Named → Result Effect Refusal
written_track s c1 x held d =
    when_ready d.slot (does (Finish ∷ []) (Reply (format_reply c1 x.size)))
    (λ disk. lays_track s (Finish ∷ []) c1 d.cylinder x (ids_at held 0 x.sectors) disk)

-- ---- The end of a write, of a sector or of a track

unfoldable pub written_into : Goal → Rooms → ℕ → List ℕ → Named → Result Effect Refusal
written_into (IntoSector id) s c1 held d = written_sector s c1 id held d
written_into (IntoTrack x) s c1 held d = written_track s c1 x held d

abbrev pub written : Rooms → Writing → Named → Result Effect Refusal
written s w d = written_into w.goal s w.c1 w.held d

-- ---- A whole command

unfoldable pub obeyed : Setting → Rooms → Command → List ℕ → Drives → ℕ → Result Effect Refusal
obeyed x s Specify command d index = does [] Stay
obeyed x s SenseDrive command d index = does [] (Reply (sense_drive (byte command 1) (named (byte command 1) d)))
obeyed x s Recalibrate command d index = seek_to 0 (named (byte command 1) d)
obeyed x s SeekTo command d index = seek_to (byte command 2) (named (byte command 1) d)
obeyed x s SenseInterrupt command d index = does [] (Interrupt d.first.cylinder (no_seek x.machine d.first.cylinder))
obeyed x s Version command d index = does [] (Reply (0x80 ∷ []))
obeyed x s ReadData command d index = read_data s false command (named (byte command 1) d)
obeyed x s ReadDeleted command d index = read_data s true command (named (byte command 1) d)
obeyed x s WriteData command d index = write_data (byte command 1) (id_of command) (named (byte command 1) d)
obeyed x s ReadId command d index = read_id (byte command 1) index (named (byte command 1) d)
obeyed x s FormatTrack command d index = format_track x s command (named (byte command 1) d)
obeyed x s Unserved command d index = does [] Stay
obeyed x s Invalid command d index = does [] (invalid x.machine)
