-- A sheet for every box (02, requests 2026-01 and 2026-06): the boxes of the machine, all but what is in the drive, as bytes, and back.
use Rattle.std.specs.Prelude.{◌≡◌, ℕ, zero, suc, ◌+◌, ◌*◌, ◌^◌, ◌/◌, ◌%◌, ◌≤◌, ◌<◌, Bool, true, false, not, ◌&&◌, ◌||◌, List, [], ◌∷◌, ◌++◌, length, take, drop, eqb, leb, ltb, Result, Ok}
use Rattle.std.proofs.Math.Option.{Option, none, some}
use Rattle.fields.specs.Bytes.{byte_at}
use Rattle.fields.specs.Capacities.{most_transfer}
use Rattle.fields.specs.Refusals.{need}
use Rattle.fields.specs.declared.refusal.Refusal.TheVariants.{BadSheet}
use Rattle.codes.specs.Table.{command_of, bytes_for}
use Rattle.registers.specs.declared.regs.Goal.{Goal}
use Rattle.registers.specs.declared.regs.Goal.TheVariants.{IntoSector, IntoTrack}
use Rattle.registers.specs.declared.regs.Target.{Target}
use Rattle.registers.specs.Boxes.{Machine, Rust, DataSheet, Setting, setting_of, Empty, Writing, World}
use Rattle.registers.specs.View.{goal_if, wrong_work}
use Rattle.layout.specs.Layout.{flag_byte, seek_byte, flag_at, seek_at}
use Rattle.sheet.specs.declared.reading.Places.{Places}
use Rattle.fields.specs.declared.refusal.Refusal.{Refusal}

-- ---- Numbers, high byte first

-- a number in so many bytes, before what follows it
abbrev pub high_for : ℕ → ℕ → List ℕ → List ℕ
high_for zero n rest = rest
high_for (suc width) n rest = high_for width (n / 256) (n % 256 ∷ rest)

-- the number that stands in so many bytes from a place
unfoldable pub high_at : ℕ → List ℕ → ℕ → ℕ
high_at zero s at = 0
high_at (suc width) s at = 256 ^ width * byte_at s at + high_at width s (at + 1)

-- ---- The boxes of a sheet, in its order

-- the bytes of each
pub record Sheet : Type 0 where
  pub motor : List ℕ
  pub cylinder : List ℕ
  pub seek : List ℕ
  pub index : List ℕ
  pub command : List ℕ
  pub reply : List ℕ
  pub unread : List ℕ
  pub lost : List ℕ
  pub write : List ℕ
  pub machine : List ℕ
  pub format : List ℕ

-- a write is c1, ID and the bytes so far, or empty
abbrev pub write_as : Goal → ℕ → List ℕ → List ℕ
write_as (IntoSector id) c1 held = c1 ∷ id.c ∷ id.h ∷ id.r ∷ id.n ∷ held
write_as (IntoTrack x) c1 held = []

abbrev pub write_box : Option Writing → List ℕ
write_box none = []
write_box (some w) = write_as w.goal w.c1 w.held

-- machine: Rust 0, data sheet 1
abbrev pub machine_byte : Machine → ℕ
machine_byte Rust = 0
machine_byte DataSheet = 1

-- a pending Format is c1, n, count, gap, filler and the IDs so far, or empty
abbrev pub format_as : Goal → ℕ → List ℕ → List ℕ
format_as (IntoSector id) c1 held = []
format_as (IntoTrack x) c1 held = c1 ∷ x.size ∷ x.sectors ∷ x.gap ∷ x.filler ∷ held

abbrev pub format_box : Option Writing → List ℕ
format_box none = []
format_box (some w) = format_as w.goal w.c1 w.held

-- numbers take one byte, the ID index two; motor 0 or 1; seek state Idle 0, Running 1, Done 2
unfoldable pub boxes_of : World → Sheet
boxes_of w = record {
  motor = flag_byte w.inside.motor ∷ [];
  cylinder = w.inside.drives.first.cylinder ∷ [];
  seek = seek_byte w.front.seek ∷ [];
  index = high_for 2 w.inside.index [];
  command = w.inside.command;
  reply = w.front.reply;
  unread = w.front.unread;
  lost = w.front.lost ∷ [];
  write = write_box w.inside.write;
  machine = machine_byte w.inside.setting.machine ∷ [];
  format = format_box w.inside.write;
}

-- ---- Writing: the house form

-- the version, and the one of before, which has neither machine nor Format
abbrev pub sheet_version : ℕ
sheet_version = 2

abbrev pub old_version : ℕ
old_version = 1

-- a box with its own length, in so many bytes, first, before what follows it
abbrev pub box_for : ℕ → List ℕ → List ℕ → List ℕ
box_for width x rest = high_for width (length x) (x ++ rest)

-- every box, even if its length is 0
unfoldable pub boxes_for : Sheet → List ℕ
boxes_for p =
    box_for 2 p.motor
    (box_for 2 p.cylinder
    (box_for 2 p.seek
    (box_for 2 p.index
    (box_for 2 p.command
    (box_for 2 p.reply
    (box_for 4 p.unread
    (box_for 2 p.lost
    (box_for 2 p.write
    (box_for 2 p.machine
    (box_for 2 p.format []))))))))))

-- one version byte, a four-byte length of the rest, the rest
unfoldable pub paper_of : Sheet → List ℕ
paper_of p = sheet_version ∷ high_for 4 (length (boxes_for p)) (boxes_for p)

-- the sheet of these boxes
abbrev pub sheet_of : World → List ℕ
sheet_of w = paper_of (boxes_of w)

-- ---- Reading: the form

-- the box whose length stands at a place, in so many bytes, and the place behind it
unfoldable pub box_at : ℕ → List ℕ → ℕ → List ℕ
box_at width s at = take (high_at width s at) (drop (at + width) s)

unfoldable pub behind : ℕ → List ℕ → ℕ → ℕ
behind width s at = at + width + high_at width s at

-- the same of a box that version 1 does not have
abbrev pub behind_new : Bool → List ℕ → ℕ → ℕ
behind_new true s at = at
behind_new false s at = behind 2 s at

-- whether it is a sheet of version 1
abbrev pub is_old : List ℕ → Bool
is_old s = eqb (byte_at s 0) old_version

-- where the length of each box stands, and where the last box ends
unfoldable pub places_of : List ℕ → Places
places_of s =
    let motor : ℕ = 5 in
    let cylinder : ℕ = behind 2 s motor in
    let seek : ℕ = behind 2 s cylinder in
    let index : ℕ = behind 2 s seek in
    let command : ℕ = behind 2 s index in
    let reply : ℕ = behind 2 s command in
    let unread : ℕ = behind 2 s reply in
    let lost : ℕ = behind 4 s unread in
    let write : ℕ = behind 2 s lost in
    let machine : ℕ = behind 2 s write in
    let format : ℕ = behind_new (is_old s) s machine in
    record {
      motor = motor;
      cylinder = cylinder;
      seek = seek;
      index = index;
      command = command;
      reply = reply;
      unread = unread;
      lost = lost;
      write = write;
      machine = machine;
      format = format;
      end = behind_new (is_old s) s format;
    }

-- the boxes that stand at these places
abbrev pub boxes_at : List ℕ → Places → Sheet
boxes_at s p = record {
  motor = box_at 2 s p.motor;
  cylinder = box_at 2 s p.cylinder;
  seek = box_at 2 s p.seek;
  index = box_at 2 s p.index;
  command = box_at 2 s p.command;
  reply = box_at 2 s p.reply;
  unread = box_at 4 s p.unread;
  lost = box_at 2 s p.lost;
  write = box_at 2 s p.write;
  machine = box_at 2 s p.machine;
  format = box_at 2 s p.format;
}

unfoldable pub sheet_at : List ℕ → Sheet
sheet_at s = boxes_at s (places_of s)

-- a number of one byte, up to a greatest
abbrev pub one_to : ℕ → List ℕ → Bool
one_to most x = eqb (length x) 1 && leb (byte_at x 0) most

-- the version is 1, or 2 with a machine; the length is that of the rest, and the last box ends where the bytes do
unfoldable pub framed : List ℕ → Bool
framed s =
    (is_old s || (eqb (byte_at s 0) sheet_version && one_to 1 (sheet_at s).machine))
    && (eqb (5 + high_at 4 s 1) (length s) && eqb (places_of s).end (length s))

-- ---- Reading: the boxes

-- empty, or five numbers and what follows them
abbrev pub is_work : List ℕ → Bool
is_work x = eqb (length x) 0 || leb 5 (length x)

-- numbers as long as they are, motor and seek state in their range; a write and a Format that are none, or have their numbers, and not both
unfoldable pub in_range : Sheet → Bool
in_range p =
    one_to 1 p.motor
    && (eqb (length p.cylinder) 1
    && (one_to 2 p.seek
    && (eqb (length p.index) 2
    && (eqb (length p.lost) 1
    && (is_work p.write
    && (is_work p.format
    && (eqb (length p.write) 0 || eqb (length p.format) 0)))))))

-- the write, or the Format, that a box holds
abbrev pub target_at : List ℕ → Target
target_at x = record { one = byte_at x 1; two = byte_at x 2; three = byte_at x 3; four = byte_at x 4 }

abbrev pub work_if : Bool → Bool → List ℕ → Option Writing
work_if track true x = none
work_if track false x = some record { c1 = byte_at x 0; goal = goal_if track (target_at x); held = drop 5 x }

abbrev pub in_box : Bool → List ℕ → Option Writing
in_box track x = work_if track (eqb (length x) 0) x

-- the box of a write, or where it is empty that of a Format
abbrev pub either_box : Bool → List ℕ → List ℕ → List ℕ
either_box true x y = y
either_box false x y = x

abbrev pub no_write : Sheet → Bool
no_write p = eqb (length p.write) 0

abbrev pub work_of : Sheet → Option Writing
work_of p = in_box (no_write p) (either_box (no_write p) p.write p.format)

-- the boxes of the machine, with no disk
unfoldable pub world_from : Sheet → World
world_from p = record {
  inside = record {
    setting = setting_of (byte_at p.machine 0);
    motor = flag_at (byte_at p.motor 0);
    index = high_at 2 p.index 0;
    command = p.command;
    write = work_of p;
    drives = record { first = record { cylinder = byte_at p.cylinder 0; slot = Empty } };
  };
  front = record { seek = seek_at (byte_at p.seek 0); reply = p.reply; unread = p.unread; lost = byte_at p.lost 0 };
}

-- ---- What refusal 1 names, the transfer room apart

-- a write or a Format that is complete, or whose c1 names a drive other than 0; a Format in the Rust machine
abbrev pub wrong_writing : Setting → Option Writing → Bool
wrong_writing x none = false
wrong_writing x (some w) = wrong_work x w.c1 w.goal (length w.held)

-- a reply over 7 bytes, a command not shorter than its length, a lost count over 2, or the write
unfoldable pub wrong_boxes : World → Bool
wrong_boxes w =
    ltb 7 (length w.front.reply)
    || (leb (bytes_for (command_of (byte_at w.inside.command 0))) (length w.inside.command)
    || (ltb 2 w.front.lost
    || wrong_writing w.inside.setting w.inside.write))

-- the boxes that a sheet holds; 11 where it breaks the form or holds what refusal 1 names
unfoldable pub world_in : List ℕ → Result World Refusal
world_in s =
    let w : World = world_from (sheet_at s) in
    need (framed s) BadSheet (need (in_range (sheet_at s)) BadSheet (need (not (wrong_boxes w)) BadSheet (Ok w)))

-- boxes that can be written out: those that refusal 1 does not name, with an index of two bytes and no more unread data than can be lent
pub record Writable (w : World) : Type 0 where
  pub index-fits : w.inside.index < 65536
  pub unread-fits : length w.front.unread ≤ most_transfer
  pub right : wrong_boxes w ≡ false
