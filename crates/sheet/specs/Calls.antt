-- What the calls that write and read a sheet answer and leave.
use Rattle.std.specs.Prelude.{◌≡◌, ℕ, ◌+◌, ◌-◌, Bool, true, false, List, [], ◌∷◌, length, take, replicate, leb, Result, Ok, Err}
use Rattle.std.proofs.Math.Option.{Option, none, some}
use Rattle.buffer.specs.Over.{over}
use Rattle.fields.specs.Capacities.{most_transfer, most_held}
use Rattle.fields.specs.Refusals.{need, after}
use Rattle.fields.specs.declared.refusal.Refusal.TheVariants.{BadController, NoTransferRoom}
use Rattle.store.specs.Store.{transfer_room}
use Rattle.store.specs.Calls.{Penned, penned, penned_to}
use Rattle.registers.specs.declared.regs.Regs.{Regs}
use Rattle.registers.specs.declared.regs.Pending.{Pending}
use Rattle.registers.specs.Boxes.{Empty, Writing, World}
use Rattle.registers.specs.View.{inside_of, front_of}
use Rattle.registers.specs.Settle.{no_pending, track_in, target_in}
use Rattle.sending.specs.Calls.{impossible_with}
use Rattle.sheet.specs.Sheets.{machine_byte, sheet_of, wrong_boxes, world_in}
use Rattle.fields.specs.declared.refusal.Refusal.{Refusal}
use Rattle.registers.specs.declared.regs.Answered.{Answered}

-- the longest sheet: 36 bytes of numbers and lengths, a command of 8, a reply of 7, all data that can be lent, a write that lacks one byte
abbrev pub longest_sheet : ℕ
longest_sheet = 36 + 8 + 7 + most_transfer + 5 + (most_held - 1)

-- boxes whose sheet is as long
pub record Longest : Type 0 where
  pub boxes : World
  pub right : wrong_boxes boxes ≡ false
  pub unread-most : length boxes.front.unread ≡ most_transfer
  pub long : length (sheet_of boxes) ≡ longest_sheet

-- ---- Writing

-- the boxes that a controller shows, all but what is in the drive
abbrev pub boxes_seen : Regs → List ℕ → List ℕ → World
boxes_seen r h x = record { inside = inside_of r h Empty; front = front_of r x }

-- the box that a write's numbers make, where it is to stand
abbrev pub work_for : Bool → Pending → List ℕ → List ℕ
work_for true p h = p.c1 ∷ p.target.one ∷ p.target.two ∷ p.target.three ∷ p.target.four ∷ take p.taken h
work_for false p h = []

-- the sheet at the buffer's start, but 1 first
abbrev pub unless_wrong : Bool → List ℕ → List ℕ → Penned
unless_wrong true sheet s = penned (Err BadController) s
unless_wrong false sheet s = penned_to sheet s

unfoldable pub sheet_written : Regs → List ℕ → List ℕ → List ℕ → Penned
sheet_written r h x s = unless_wrong (impossible_with h x r) (sheet_of (boxes_seen r h x)) s

-- ---- Reading

-- bytes from the start of so many zeros
abbrev pub on_zeros : ℕ → List ℕ → List ℕ
on_zeros n x = over (replicate n 0) 0 x

-- a write in progress, and the bytes that are held
abbrev pub pending_for : Option Writing → Pending
pending_for none = no_pending
pending_for (some w) = record { on = true; c1 = w.c1; track = track_in w.goal; target = target_in w.goal; taken = length w.held }

abbrev pub held_for : Option Writing → List ℕ
held_for none = replicate most_held 0
held_for (some w) = on_zeros most_held w.held

-- the controller that has these boxes, with no disk: every place is 0, and so is every byte behind what counts
unfoldable pub regs_for : World → Regs
regs_for w = record {
  command = on_zeros 9 w.inside.command;
  count = length w.inside.command;
  reply = on_zeros 7 w.front.reply;
  place = 0;
  fill = length w.front.reply;
  from = 0;
  until = length w.front.unread;
  lost = w.front.lost;
  motor = w.inside.motor;
  index = w.inside.index;
  write = pending_for w.inside.write;
  drive = record { cylinder = w.inside.drives.first.cylinder; seek = w.front.seek; disk = false };
  setting = machine_byte w.inside.setting.machine;
}

-- the boxes that a sheet holds; 11, then 9 for unread data over the transfer room
unfoldable pub taken_from : List ℕ → List ℕ → Result World Refusal
taken_from s x = after (world_in s) (λ w. need (leb (length w.front.unread) (transfer_room x)) NoTransferRoom (Ok w))

-- that it was read, or the refusal
abbrev pub whether_taken : Result World Refusal → Result (Unit {0}) Refusal
whether_taken (Err why) = Err why
whether_taken (Ok w) = Ok tt

-- the answer with the registers, the held bytes and the transfer buffer
pub data Resuming : Type 0 where
  resuming : Answered (Unit {0}) → List ℕ → List ℕ → Resuming

-- the controller of these boxes, with its unread data at the buffer's start; a refusal leaves all as it came
abbrev pub resumed_as : Result World Refusal → Regs → List ℕ → List ℕ → Resuming
resumed_as (Err why) r h x = resuming (record { answer = Err why; regs = r }) h x
resumed_as (Ok w) r h x = resuming (record { answer = Ok tt; regs = regs_for w }) (held_for w.inside.write) (over x 0 w.front.unread)

unfoldable pub sheet_read : Regs → List ℕ → List ℕ → List ℕ → Resuming
sheet_read r h s x = resumed_as (taken_from s x) r h x
