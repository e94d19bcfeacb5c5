-- What a sent byte does, on the controller's numbers: every one of them is settled here, dead bytes too.
use Rattle.std.specs.Prelude.{ℕ, ◌+◌, ◌-◌, ◌%◌, Bool, true, false, List, [], ◌∷◌, ◌++◌, length, replicate, nat_lt, slice_set, Result, Ok, Err}
use Rattle.fields.specs.declared.refusal.Refusal.{Refusal}
use Rattle.registers.specs.declared.regs.Regs.{Regs}
use Rattle.registers.specs.declared.regs.Drive.{Drive}
use Rattle.registers.specs.declared.regs.Pending.{Pending}
use Rattle.registers.specs.declared.regs.Goal.{Goal}
use Rattle.registers.specs.declared.regs.Goal.TheVariants.{IntoSector, IntoTrack}
use Rattle.registers.specs.declared.regs.Target.{Target}
use Rattle.registers.specs.declared.regs.Report.{Report}
use Rattle.registers.specs.declared.regs.Seek.{Seek}
use Rattle.registers.specs.declared.regs.Seek.TheVariants.{Idle, Running, Done}
use Rattle.registers.specs.Boxes.{fitted, Taking, Add, Hold, Change, Clear, MoveTo, Turn, Start, Finish, Response, Stay, Reply, ReplyIfNone}
use Rattle.registers.specs.Boxes.{Seeking, Interrupt, Serve, Effect}
use Rattle.registers.specs.declared.regs.Answered.{Answered}

-- ---- The registers, with some of them anew

abbrev pub regs_with_command : List ℕ → ℕ → Regs → Regs
regs_with_command x n r = record {
  command = x;
  count = n;
  reply = r.reply;
  place = r.place;
  fill = r.fill;
  from = r.from;
  until = r.until;
  lost = r.lost;
  motor = r.motor;
  index = r.index;
  write = r.write;
  drive = r.drive;
  setting = r.setting;
}

abbrev pub regs_with_reply : List ℕ → ℕ → ℕ → Regs → Regs
regs_with_reply x p n r = record {
  command = r.command;
  count = r.count;
  reply = x;
  place = p;
  fill = n;
  from = r.from;
  until = r.until;
  lost = r.lost;
  motor = r.motor;
  index = r.index;
  write = r.write;
  drive = r.drive;
  setting = r.setting;
}

abbrev pub regs_with_unread : ℕ → ℕ → ℕ → Regs → Regs
regs_with_unread p n l r = record {
  command = r.command;
  count = r.count;
  reply = r.reply;
  place = r.place;
  fill = r.fill;
  from = p;
  until = n;
  lost = l;
  motor = r.motor;
  index = r.index;
  write = r.write;
  drive = r.drive;
  setting = r.setting;
}

abbrev pub regs_with_index : ℕ → Regs → Regs
regs_with_index x r = record {
  command = r.command;
  count = r.count;
  reply = r.reply;
  place = r.place;
  fill = r.fill;
  from = r.from;
  until = r.until;
  lost = r.lost;
  motor = r.motor;
  index = x;
  write = r.write;
  drive = r.drive;
  setting = r.setting;
}

abbrev pub regs_with_write : Pending → Regs → Regs
regs_with_write x r = record {
  command = r.command;
  count = r.count;
  reply = r.reply;
  place = r.place;
  fill = r.fill;
  from = r.from;
  until = r.until;
  lost = r.lost;
  motor = r.motor;
  index = r.index;
  write = x;
  drive = r.drive;
  setting = r.setting;
}

abbrev pub regs_with_drive : Drive → Regs → Regs
regs_with_drive x r = record {
  command = r.command;
  count = r.count;
  reply = r.reply;
  place = r.place;
  fill = r.fill;
  from = r.from;
  until = r.until;
  lost = r.lost;
  motor = r.motor;
  index = r.index;
  write = r.write;
  drive = x;
  setting = r.setting;
}

abbrev pub regs_with_motor : Bool → Regs → Regs
regs_with_motor x r = record {
  command = r.command;
  count = r.count;
  reply = r.reply;
  place = r.place;
  fill = r.fill;
  from = r.from;
  until = r.until;
  lost = r.lost;
  motor = x;
  index = r.index;
  write = r.write;
  drive = r.drive;
  setting = r.setting;
}

-- ---- Answers

-- a byte that was taken, with what is told and the registers then; and one that was not, with the registers as they came
abbrev pub accepted : {A : Type 0} → A → Regs → Answered A
accepted x r = record { answer = Ok x; regs = r }

abbrev pub declined : {A : Type 0} → Refusal → Regs → Answered A
declined why r = record { answer = Err why; regs = r }

-- ---- The drive that a command names

-- one that is not fitted has no disk in, and shows the cylinder of drive 0
abbrev pub drive_if : Bool → Drive → Drive
drive_if true d = d
drive_if false d = record { cylinder = d.cylinder; seek = d.seek; disk = false }

unfoldable pub drive_named : ℕ → Regs → Drive
drive_named c1 r = drive_if (fitted c1) r.drive

-- ---- Replies and seeks

-- a reply, with zeros behind it
abbrev pub replied : List ℕ → Regs → Regs
replied bytes r = regs_with_reply (bytes ++ replicate (7 - length bytes) 0) 0 (length bytes) r

-- the drive with a seek state
abbrev pub sought : Seek → Regs → Regs
sought s r = regs_with_drive (record { cylinder = r.drive.cylinder; seek = s; disk = r.drive.disk }) r

-- ---- How a byte is taken

-- no write in progress, all numbers 0
abbrev pub no_pending : Pending
no_pending = record { on = false; c1 = 0; track = false; target = record { one = 0; two = 0; three = 0; four = 0 }; taken = 0 }

-- a write that is in progress or not, with so many bytes held
abbrev pub pending_with : Bool → ℕ → Pending → Pending
pending_with on n p = record { on = on; c1 = p.c1; track = p.track; target = p.target; taken = n }

abbrev pub regs_taken : Taking → Regs → Regs
regs_taken (Add b) r = regs_with_command (slice_set r.command r.count b) (r.count + 1) r
regs_taken (Hold b) r = regs_with_write (pending_with r.write.on (r.write.taken + 1) r.write) r

abbrev pub held_taken : Taking → Regs → List ℕ → List ℕ
held_taken (Add b) r h = h
held_taken (Hold b) r h = slice_set h r.write.taken b

-- ---- Changes and responses

-- whether it is a Format's that is written, and its four numbers
abbrev pub track_in : Goal → Bool
track_in (IntoSector id) = false
track_in (IntoTrack x) = true

abbrev pub target_in : Goal → Target
target_in (IntoSector id) = record { one = id.c; two = id.h; three = id.r; four = id.n }
target_in (IntoTrack x) = record { one = x.size; two = x.sectors; three = x.gap; four = x.filler }

-- a command that is done with leaves its bytes, a write all but its fill
abbrev pub regs_changed : Change → Regs → Regs
regs_changed Clear r = regs_with_command r.command 0 r
regs_changed (MoveTo c) r = regs_with_drive (record { cylinder = c; seek = r.drive.seek; disk = r.drive.disk }) r
regs_changed Turn r = regs_with_index ((r.index + 1) % 65536) r
regs_changed (Start c1 goal) r = regs_with_write (record { on = true; c1 = c1; track = track_in goal; target = target_in goal; taken = 0 }) r
regs_changed Finish r = regs_with_write (pending_with false 0 r.write) r

unfoldable pub regs_all : List Change → Regs → Regs
regs_all [] r = r
regs_all (x ∷ xs) r = regs_all xs (regs_changed x r)

unfoldable pub if_unread : Bool → List ℕ → Regs → Regs
if_unread true bytes r = r
if_unread false bytes r = replied bytes r

unfoldable pub interrupted_by : ℕ → List ℕ → Regs → Seek → Regs
interrupted_by c x r Idle = replied x r
interrupted_by c x r Running = replied (0x20 ∷ c ∷ []) (sought Done r)
interrupted_by c x r Done = replied x r

unfoldable pub regs_responded : Response → Regs → Regs
regs_responded Stay r = r
regs_responded (Reply bytes) r = replied bytes r
regs_responded (ReplyIfNone bytes) r = if_unread (nat_lt r.place r.fill) bytes r
regs_responded Seeking r = replied [] (sought Running r)
regs_responded (Interrupt c x) r = interrupted_by c x r r.drive.seek
regs_responded (Serve bytes reply) r = replied reply (regs_with_unread 0 (length bytes) r.lost r)

-- ---- A whole effect: the answer with the registers; a refusal leaves them as they came

unfoldable pub regs_of : Result Effect Refusal → Regs → Answered Report
regs_of (Err why) r = declined why r
regs_of (Ok e) r = accepted e.report (regs_responded e.response (regs_all e.changes r))

-- an answer, or where it refuses the refusal with the registers as they came
abbrev pub kept_if : Result Report Refusal → Answered Report → Regs → Answered Report
kept_if (Ok x) a r = a
kept_if (Err why) a r = declined why r

abbrev pub kept : Regs → Answered Report → Answered Report
kept r a = kept_if a.answer a r
