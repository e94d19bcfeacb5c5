-- The controller that boxes give, and the boxes that a controller shows.
use mathlib.Core.Path.{◌≡◌, refl, sym, ap, ◌∙◌}
use Prim.Native.Nat.{ℕ, zero, suc, ◌%◌, ◌≤◌, ◌<◌}
use native.Mathlib.Omega.{arith}
use mathlib.Core.Bool.{Bool, true, false}
use mathlib.Core.List.{List, [], ◌∷◌}
use mathlib.Core.Option.{Option, none, some}
use lib.ListN.{length, take, replicate, length-take, length-replicate}
use lib.Seq.{slice, take_at, length-slice}
use lib.Dec.{eqb}
use borrow.Author.Tests.{eqb-true, eqb-false, le-ltb, lt-leb}
use Rattle.buffer.specs.Over.{over}
use Rattle.buffer.proofs.Overs.{over-front, over-length, over-slice}
use Rattle.fields.specs.Bytes.{byte_at}
use Rattle.fields.specs.Capacities.{most_held}
use Rattle.codes.specs.Table.{command_of, bytes_for}
use Rattle.codes.proofs.Rows.{bytes-range}
use Rattle.store.specs.Store.{transfer_room}
use Rattle.registers.specs.declared.regs.Regs.{Regs}
use Rattle.registers.specs.declared.regs.Pending.{Pending}
use Rattle.registers.specs.declared.regs.Goal.{Goal}
use Rattle.registers.specs.Boxes.{Machine, Rust, DataSheet, Setting, machine_if, setting_of, Empty, whole_of, Writing, World}
use Rattle.registers.specs.Ports.{change_disk}
use Rattle.registers.specs.View.{goal_of, writing_if, inside_of, front_of, world_of, wrong_work, wrong_write, impossible, impossible_in}
use Rattle.registers.proofs.Numbers.{possible, count-few, goal-kept, whole-most, work-below, work-more, write-right, taken-few}
use Rattle.sheet.specs.Sheets.{machine_byte, wrong_writing, wrong_boxes}
use Rattle.sheet.specs.Calls.{boxes_seen, on_zeros, pending_for, held_for, regs_for}

-- ---- bytes laid from a start

-- the bytes are there again
front-back : (d x : List ℕ) → take (length x) (over d 0 x) ≡ x
front-back d x = ap (take (length x)) (over-front d x) ∙ take_at x _ (length x) refl

slice_back : (d x : List ℕ) → slice 0 (length x) (over d 0 x) ≡ x
slice_back d x = over-slice d 0 x (length x) (omega arith) (omega arith)

-- so many bytes, all in all
zeros-long : (n : ℕ) (x : List ℕ) → length x ≤ n → length (on_zeros n x) ≡ n
zeros-long n x h = over-length (replicate n 0) 0 x (simp length-replicate (omega arith)) ∙ length-replicate n 0

-- the first of a command is its own, or 0 where there is none
first-same : (x : List ℕ) → byte_at (on_zeros 9 x) 0 ≡ byte_at x 0
unfolding over
first-same [] = refl
first-same (b ∷ x) = refl

-- ---- the numbers of the controller

-- the number of the machine that a setting has
pub machine-number : (n : ℕ) → n % 2 ≡ machine_byte (setting_of n).machine
machine-number n = go (eqb (n % 2) 0) refl
  where
    go : (f : Bool) → eqb (n % 2) 0 ≡ f → n % 2 ≡ machine_byte (machine_if f)
    go true e = eqb-true (n % 2) 0 e
    go false e = let z : n % 2 ≡ 0 → ⊥ = eqb-false (n % 2) 0 e in omega (arith, z)

-- the machine, by its number
pub setting_same : (x : Setting) → setting_of (machine_byte x.machine) ≡ x
setting_same x = go x.machine
  where
    go : (m : Machine) → ◌≡◌ {A = Setting} (setting_of (machine_byte m)) (record { machine = m })
    go Rust = refl
    go DataSheet = refl

-- and the number that it is kept as is one of the two
pub setting-fits : (w : World) → (regs_for w).setting ≤ 1
unfolding regs_for
setting-fits w = go w.inside.setting.machine
  where
    go : (m : Machine) → machine_byte m ≤ 1
    go Rust = omega arith
    go DataSheet = omega arith

write_same : (x : Setting) (w : Option Writing) → wrong_write x (pending_for w) ≡ wrong_writing x w
write_same x none = refl
write_same x (some w) = ap (λ (g : Goal). wrong_work x w.c1 g (length w.held)) (goal-kept w.goal)

-- What a sheet may not hold is what refusal 1 names of the controller that it would give.
pub wrong-is : (w : World) → impossible (regs_for w) ≡ wrong_boxes w
unfolding impossible regs_for wrong_boxes
wrong-is w =
    let replies = le-ltb (length w.front.reply) 0 (omega arith) in
    let unread = le-ltb (length w.front.unread) 0 (omega arith) in
    rw (replies, unread, first-same w.inside.command, setting_same w.inside.setting, write_same w.inside.setting w.inside.write)

-- ---- the boxes that it shows

write-back : (w : Option Writing) → writing_if (pending_for w).on (pending_for w) (held_for w) ≡ w
write-back none = refl
write-back (some w) = λ i. some record { c1 = w.c1; goal = goal-kept w.goal i; held = front-back (replicate most_held 0) w.held i }

-- The controller that boxes give shows these boxes, with no disk, where its unread data are laid at the transfer buffer's start.
pub gives-seen : (w : World) (x : List ℕ)
    → boxes_seen (regs_for w) (held_for w.inside.write) (over x 0 w.front.unread) ≡ change_disk Empty w
unfolding regs_for inside_of front_of change_disk
gives-seen w x = λ i. record {
  inside = record {
    setting = setting_same w.inside.setting i;
    motor = w.inside.motor;
    index = w.inside.index;
    command = front-back (replicate 9 0) w.inside.command i;
    write = write-back w.inside.write i;
    drives = record { first = record { cylinder = w.inside.drives.first.cylinder; slot = Empty } };
  };
  front = record {
    seek = w.front.seek;
    reply = slice_back (replicate 7 0) w.front.reply i;
    unread = slice_back x w.front.unread i;
    lost = w.front.lost;
  };
}

-- and its numbers are possible there
pub gives-possible : (w : World) (x : List ℕ) → wrong_boxes w ≡ false → length w.front.unread ≤ transfer_room x
    → impossible_in (over x 0 w.front.unread) (regs_for w) ≡ false
unfolding impossible_in regs_for transfer_room
gives-possible w x right fits =
    rw (wrong-is w, right, over-length x 0 w.front.unread (omega arith), le-ltb (transfer_room x) (length w.front.unread) fits)

-- ---- the boxes of any controller

-- a command partly sent is shorter than its length, whatever stands behind it
part-below : (n : ℕ) (c : List ℕ) → n < bytes_for (command_of (byte_at c 0)) → length (take n c) < bytes_for (command_of (byte_at (take n c) 0))
part-below zero c h = omega (arith, (bytes-range (command_of 0)).0)
part-below (suc n) [] h = omega (arith, (bytes-range (command_of 0)).0)
part-below (suc n) (b ∷ c) h = omega (arith, length-take n c)

-- a write in progress that is right is seen as one
seen-write : (x : Setting) (f : Bool) (p : Pending) (h : List ℕ) → p.on ≡ f → wrong_write x p ≡ false → wrong_writing x (writing_if f p h) ≡ false
seen-write x true p h on e =
    let short : length (take p.taken h) < whole_of (goal_of p) = omega (arith, length-take p.taken h, taken-few x p e on) in
    work-more x p.c1 (goal_of p) p.taken (length (take p.taken h)) short (write-right x p e on)
seen-write x false p h on e = refl

-- The boxes that a controller shows are right where its numbers are possible.
pub seen-right : (r : Regs) (h x : List ℕ) → length r.reply ≡ 7 → impossible r ≡ false → wrong_boxes (boxes_seen r h x) ≡ false
unfolding wrong_boxes inside_of front_of
seen-right r h x seven e =
    let p = possible r e in
    let command = take r.count r.command in
    let reply = slice r.place r.fill r.reply in
    let few : length reply ≤ 7 = omega (arith, length-slice r.place r.fill r.reply (omega (arith, p.fill-in)), p.fill-in) in
    let below = lt-leb (bytes_for (command_of (byte_at command 0))) (length command) (part-below r.count r.command p.count-in) in
    rw (le-ltb 7 (length reply) few, below, le-ltb 2 r.lost p.lost-in, seen-write (setting_of r.setting) r.write.on r.write h refl p.write-in)

-- They are those of the whole controller, but for the disk.
pub seen_same : (r : Regs) (h t b x : List ℕ) → change_disk Empty (world_of r h t b x) ≡ boxes_seen r h x
unfolding change_disk inside_of front_of
seen_same r h t b x = refl

-- ---- how long right boxes are

-- what is held of a write lacks a byte at least
pub held-few : (x : Setting) (w : Writing) → wrong_writing x (some w) ≡ false → length w.held < most_held
held-few x w e = omega (arith, work-below x w.c1 w.goal (length w.held) e, whole-most w.goal)

held-long : (x : Setting) (w : Option Writing) → wrong_writing x w ≡ false → length (held_for w) ≡ most_held
held-long x none e = simp length-replicate
held-long x (some w) e = zeros-long most_held w.held (omega (arith, held-few x w e))

taken-fits : (x : Setting) (w : Option Writing) → wrong_writing x w ≡ false → (pending_for w).taken < 65536
taken-fits x none e = omega arith
taken-fits x (some w) e = omega (arith, held-few x w e)

module _ (w : World) (right : wrong_boxes w ≡ false) where
  could : impossible (regs_for w) ≡ false
  could = wrong-is w ∙ right

  -- a command lacks a byte at least
  pub command-few : length w.inside.command < 9
  unfolding regs_for
  command-few = count-few (regs_for w) could

  -- a reply has seven bytes at most
  pub reply-few : length w.front.reply ≤ 7
  unfolding regs_for
  reply-few = (possible (regs_for w) could).fill-in

  -- a write is one that refusal 1 does not name
  pub write-fits : wrong_writing w.inside.setting w.inside.write ≡ false
  unfolding regs_for
  write-fits =
      sym (ap (λ (x : Setting). wrong_write x (pending_for w.inside.write)) (setting_same w.inside.setting) ∙ write_same w.inside.setting w.inside.write)
      ∙ (possible (regs_for w) could).write-in

  -- arrays and held bytes are as long as their types say: the command's,
  pub gives-nine : length (regs_for w).command ≡ 9
  unfolding regs_for
  gives-nine = zeros-long 9 w.inside.command (omega (arith, command-few))

  -- the reply's,
  pub gives-seven : length (regs_for w).reply ≡ 7
  unfolding regs_for
  gives-seven = zeros-long 7 w.front.reply reply-few

  -- those of a write,
  pub gives-held : length (held_for w.inside.write) ≡ most_held
  gives-held = held-long w.inside.setting w.inside.write write-fits

  -- and their number fits
  pub gives-taken : (regs_for w).write.taken < 65536
  unfolding regs_for
  gives-taken = taken-fits w.inside.setting w.inside.write write-fits
