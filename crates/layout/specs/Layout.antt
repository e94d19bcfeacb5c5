-- The controller as bytes: 44 bytes of numbers, then the 1,024 held bytes of a write. docs/HOST.md has the same as a table.
use Rattle.std.specs.Prelude.{◌≡◌, ℕ, zero, suc, ◌+◌, ◌/◌, ◌%◌, ◌≤◌, ◌<◌, Bool, true, false, not, ◌&&◌, List, [], ◌∷◌, length, drop, eqb, leb, Result, Ok}
use Rattle.fields.specs.Bytes.{byte_at, number_at}
use Rattle.fields.specs.Capacities.{most_held}
use Rattle.fields.specs.Refusals.{need}
use Rattle.fields.specs.declared.refusal.Refusal.TheVariants.{BadController}
use Rattle.registers.specs.declared.regs.Regs.{Regs}
use Rattle.registers.specs.declared.regs.Pending.{Pending}
use Rattle.registers.specs.declared.regs.Drive.{Drive}
use Rattle.registers.specs.declared.regs.Seek.{Seek}
use Rattle.registers.specs.declared.regs.Seek.TheVariants.{Idle, Running, Done}
use Rattle.floppy.specs.declared.Floppy.{Floppy}
use Rattle.fields.specs.declared.refusal.Refusal.{Refusal}

-- how many bytes the numbers take, and the whole controller
abbrev pub numbers_length : ℕ
numbers_length = 44

abbrev pub controller_length : ℕ
controller_length = numbers_length + most_held

-- ---- Writing

-- a flag is 0 or 1
abbrev pub flag_byte : Bool → ℕ
flag_byte false = 0
flag_byte true = 1

-- a seek state is 0, 1 or 2
abbrev pub seek_byte : Seek → ℕ
seek_byte Idle = 0
seek_byte Running = 1
seek_byte Done = 2

-- a number in so many bytes, low byte first, before what follows it
abbrev pub number_for : ℕ → ℕ → List ℕ → List ℕ
number_for zero n rest = rest
number_for (suc width) n rest = n % 256 ∷ number_for width (n / 256) rest

-- so many bytes of a list from a place, before what follows them
abbrev pub part_for : ℕ → List ℕ → ℕ → List ℕ → List ℕ
part_for zero x at rest = rest
part_for (suc count) x at rest = byte_at x at ∷ part_for count x (at + 1) rest

-- the command, its count and the reply, before what follows them
abbrev pub command_for : Regs → List ℕ → List ℕ
command_for r rest = part_for 9 r.command 0 (r.count ∷ part_for 7 r.reply 0 rest)

-- how far the reply and the data are read, before what follows
abbrev pub reading_for : Regs → List ℕ → List ℕ
reading_for r rest = r.place ∷ r.fill ∷ number_for 4 r.from (number_for 4 r.until (r.lost ∷ rest))

-- the motor, the index, a write in progress, the drive, the setting and whether a write is a Format's (2026-06), before what follows them
abbrev pub state_for : Regs → List ℕ → List ℕ
state_for r rest =
    flag_byte r.motor
    ∷ number_for 2 r.index (flag_byte r.write.on
    ∷ r.write.c1
    ∷ r.write.target.one
    ∷ r.write.target.two
    ∷ r.write.target.three
    ∷ r.write.target.four
    ∷ number_for 2 r.write.taken (r.drive.cylinder
    ∷ seek_byte r.drive.seek
    ∷ flag_byte r.drive.disk
    ∷ r.setting
    ∷ flag_byte r.write.track
    ∷ rest))

-- the numbers, before what follows them
unfoldable pub numbers_for : Regs → List ℕ → List ℕ
numbers_for r rest = command_for r (reading_for r (state_for r rest))

-- a whole controller
abbrev pub floppy_bytes : Floppy → List ℕ
floppy_bytes f = numbers_for f.regs f.held

-- ---- Reading

abbrev pub flag_at : ℕ → Bool
flag_at b = not (eqb b 0)

abbrev pub seek_from : Bool → Bool → Seek
seek_from true done = Running
seek_from false true = Done
seek_from false false = Idle

abbrev pub seek_at : ℕ → Seek
seek_at b = seek_from (eqb b 1) (eqb b 2)

abbrev pub write_at : List ℕ → Pending
write_at l = record {
  on = flag_at (byte_at l 31);
  c1 = byte_at l 32;
  track = flag_at (byte_at l 43);
  target = record { one = byte_at l 33; two = byte_at l 34; three = byte_at l 35; four = byte_at l 36 };
  taken = number_at 2 l 37;
}

abbrev pub drive_at : List ℕ → Drive
drive_at l = record { cylinder = byte_at l 39; seek = seek_at (byte_at l 40); disk = flag_at (byte_at l 41) }

unfoldable pub regs_at : List ℕ → Regs
regs_at l = record {
  command = part_for 9 l 0 [];
  count = byte_at l 9;
  reply = part_for 7 l 10 [];
  place = byte_at l 17;
  fill = byte_at l 18;
  from = number_at 4 l 19;
  until = number_at 4 l 23;
  lost = byte_at l 27;
  motor = flag_at (byte_at l 28);
  index = number_at 2 l 29;
  write = write_at l;
  drive = drive_at l;
  setting = byte_at l 42;
}

-- the held bytes
abbrev pub held_at : List ℕ → List ℕ
held_at l = drop numbers_length l

-- bytes that a controller has: so many, flags and the setting up to 1, a seek state up to 2
unfoldable pub formed : List ℕ → Bool
formed l =
    eqb (length l) controller_length
    && (leb (byte_at l 28) 1
    && (leb (byte_at l 31) 1
    && (leb (byte_at l 40) 2
    && (leb (byte_at l 41) 1
    && (leb (byte_at l 42) 1
    && leb (byte_at l 43) 1)))))

-- the registers that are in these bytes; 1 where no controller has them
unfoldable pub regs_in : List ℕ → Result Regs Refusal
regs_in l = need (formed l) BadController (Ok (regs_at l))

-- registers whose numbers fit the fields of their types, as those of every controller do
pub record Fitting (r : Regs) : Type 0 where
  pub nine : length r.command ≡ 9
  pub seven : length r.reply ≡ 7
  pub from-fits : r.from < 4294967296
  pub until-fits : r.until < 4294967296
  pub index-fits : r.index < 65536
  pub taken-fits : r.write.taken < 65536
  pub setting-fits : r.setting ≤ 1
