-- What a status read, a data-port read and a change of motor or disk do (01, "Status and data ports").
use Rattle.std.specs.Prelude.{ℕ, zero, suc, ◌+◌, Bool, true, false, List, [], ◌∷◌, drop, ◌==◌, slice_index}
use Rattle.std.proofs.Math.Option.{Option, none, some}
use Rattle.registers.specs.declared.regs.Seek.{Seek}
use Rattle.registers.specs.declared.regs.Seek.TheVariants.{Idle, Running, Done}
use Rattle.registers.specs.Boxes.{Slot, Writing, Front, World, with_slot}

-- ---- Status read

-- write in progress 0xB0; else unread data 0xF0; else unread reply 0xD0; else 0x80, with 0x10 added while a command is partly sent
abbrev pub phase : Bool → Bool → Bool → Bool → ℕ
phase true unread reply command = 0xB0
phase false true reply command = 0xF0
phase false false true command = 0xD0
phase false false false true = 0x90
phase false false false false = 0x80

-- 0x01 if the seek state is Running or Done
abbrev pub seek_bit : Seek → ℕ
seek_bit Idle = 0x00
seek_bit Running = 0x01
seek_bit Done = 0x01

-- Done then turns Idle
abbrev pub settled : Seek → Seek
settled Idle = Idle
settled Running = Running
settled Done = Idle

-- whether there is something in a box
abbrev pub some? : {A : Type 0} → List A → Bool
some? [] = false
some? (x ∷ xs) = true

abbrev pub on? : Option Writing → Bool
on? none = false
on? (some w) = true

unfoldable pub status : World → ℕ
status w =
    phase (on? w.inside.write) (some? w.front.unread) (some? w.front.reply) (some? w.inside.command) + seek_bit w.front.seek

-- what becomes of unread data and the lost count: with unread data and no write in progress the count rises; at three a byte is dropped
pub data Poll : Type 0 where
  Stays : Poll
  Counts : Poll
  Drops : Poll

abbrev pub poll_by : Bool → Bool → Bool → Poll
poll_by true unread two = Stays
poll_by false false two = Stays
poll_by false true false = Counts
poll_by false true true = Drops

-- and the count returns to 0
unfoldable pub polled : Poll → Front → Front
polled Stays f = f
polled Counts f = record { seek = f.seek; reply = f.reply; unread = f.unread; lost = f.lost + 1 }
polled Drops f = record { seek = f.seek; reply = f.reply; unread = drop 1 f.unread; lost = 0 }

abbrev pub settled_in : Front → Front
settled_in f = record { seek = settled f.seek; reply = f.reply; unread = f.unread; lost = f.lost }

unfoldable pub after_status : World → World
after_status w = record {
  inside = w.inside;
  front = settled_in (polled (poll_by (on? w.inside.write) (some? w.front.unread) (w.front.lost == 2)) w.front);
}

-- so many status reads
unfoldable pub polls : ℕ → World → World
polls zero w = w
polls (suc n) w = polls n (after_status w)

-- ---- Data-port read

-- unread data, else unread reply, else 0
pub data Source : Type 0 where
  Bytes : Source
  Replies : Source
  Neither : Source

abbrev pub source_by : Bool → Bool → Source
source_by true reply = Bytes
source_by false true = Replies
source_by false false = Neither

unfoldable pub given : Source → Front → ℕ
given Bytes f = slice_index f.unread 0
given Replies f = slice_index f.reply 0
given Neither f = 0

-- a data-port read zeroes the lost count
unfoldable pub read_from : Source → Front → Front
read_from Bytes f = record { seek = f.seek; reply = f.reply; unread = drop 1 f.unread; lost = 0 }
read_from Replies f = record { seek = f.seek; reply = drop 1 f.reply; unread = f.unread; lost = 0 }
read_from Neither f = record { seek = f.seek; reply = f.reply; unread = f.unread; lost = 0 }

unfoldable pub port_byte : World → ℕ
port_byte w = given (source_by (some? w.front.unread) (some? w.front.reply)) w.front

unfoldable pub after_read : World → World
after_read w = record { inside = w.inside; front = read_from (source_by (some? w.front.unread) (some? w.front.reply)) w.front }

-- ---- Motor and disk: all else is carried over

unfoldable pub set_motor : Bool → World → World
set_motor on w = record {
  inside = record {
    setting = w.inside.setting;
    motor = on;
    index = w.inside.index;
    command = w.inside.command;
    write = w.inside.write;
    drives = w.inside.drives;
  };
  front = w.front;
}

unfoldable pub change_disk : Slot → World → World
change_disk slot w = record { inside = with_slot slot w.inside; front = w.front }
