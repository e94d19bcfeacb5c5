-- A controller that is read from a sheet: it is one, it shows the boxes of the sheet, and it goes on as the controller that was written out.
use mathlib.Core.Path.{◌≡◌, refl, sym, ap, subst, ◌∙◌}
use Prim.Native.Nat.{ℕ, ◌≤◌, ◌<◌}
use native.Mathlib.Omega.{arith}
use mathlib.Core.Bool.{Bool, false}
use mathlib.Core.List.{List, [], ◌++◌, append-nil}
use lib.ListN.{length}
use lib.Seq.{slice, length-slice}
use borrow.Author.Tests.{eq-eqb, le-leb}
use Rattle.buffer.specs.Over.{over}
use Rattle.buffer.proofs.Overs.{over-length}
use Rattle.fields.specs.Bytes.{byte_at}
use Rattle.fields.specs.Capacities.{most_held}
use Rattle.fields.specs.Model.{Disk}
use Rattle.store.specs.Store.{room_of, transfer_room, disk_of}
use Rattle.store.proofs.Checks.{transfer-in}
use Rattle.registers.specs.declared.regs.Regs.{Regs}
use Rattle.registers.specs.Boxes.{Empty, World}
use Rattle.registers.specs.Ports.{change_disk}
use Rattle.registers.specs.View.{rooms_of, slot_if, inside_of, front_of}
use Rattle.registers.proofs.Numbers.{possible-in, until-in, until-long}
use Rattle.sending.specs.Calls.{impossible_with}
use Rattle.store.specs.Calls.{penned, penned_to}
use Rattle.sheet.specs.Sheets.{boxes_of, paper_of, sheet_of, wrong_boxes, world_in, Writable}
use Rattle.sheet.specs.Calls.{longest_sheet, boxes_seen, sheet_written, held_for, regs_for, taken_from, resuming, sheet_read}
use Rattle.sheet.proofs.Gives.{gives-seen, gives-possible, seen-right, gives-nine, gives-seven, gives-held, gives-taken, setting-fits}
use Rattle.sheet.proofs.Lengths.{sheet-most}
use Rattle.sheet.proofs.Rounds.{sheet-back, accepted-right, accepted-empty, accepted-index}
use Rattle.saves.specs.Events.{Event, Answer, Next, run, swap, widen}
use Rattle.saves.specs.Stages.{Stage, acted}
use Rattle.saves.specs.Words.{Ready, Save, bytes_of, address_of, IsSave, saved_by, Sends, Only}
use Rattle.runs.specs.Hosts.{Host, with_more, called, seen, stage_of, store_of, Sound}
use Rattle.runs.specs.Alike.{Alike}
use Rattle.runs.proofs.Any.{calls-run, calls-sound}
use Rattle.runs.proofs.Gets.{save-calls}
use Rattle.runs.proofs.Steps.{no-smaller, agrees}
use Rattle.runs.proofs.Together.{swapped-store, alike-calls}
use Rattle.pauses.specs.Resumed.{host_from, disk_back}
use Rattle.std.specs.Prelude.{Ok}

-- ---- what is read from a sheet that is accepted

-- what is in a drive is not seen in the controller that boxes give
regs_same : (w : World) → regs_for (change_disk Empty w) ≡ regs_for w
unfolding regs_for change_disk
regs_same w = refl

-- Where its unread data fit the transfer room, the controller of its boxes, whatever the registers and held bytes were.
pub accepted-read : (s : List ℕ) (w : World) (r : Regs) (h x : List ℕ) → world_in s ≡ Ok w → length w.front.unread ≤ transfer_room x
    → sheet_read r h s x ≡ resuming (record { answer = Ok tt; regs = regs_for w }) (held_for w.inside.write) (over x 0 w.front.unread)
unfolding sheet_read taken_from
accepted-read s w r h x e fits = rw (e, le-leb (length w.front.unread) (transfer_room x) fits) refl

-- ---- the sheet of a controller that is one

module _ (k : Host) (s : Sound k) where
  abbrev R : Regs
  R = k.floppy.regs

  few : length (slice R.from R.until k.transfer) ≤ transfer_room k.transfer
  few = omega (arith, length-slice R.from R.until k.transfer (until-long k.transfer R s.possible), until-in k.transfer R s.possible)

  -- its boxes can be written out
  pub writable : Writable (seen k)
  unfolding inside_of front_of wrong_boxes
  writable = record {
    index-fits = s.index-fits;
    unread-fits = omega (arith, few, transfer-in k.transfer);
    right = seen-right R k.floppy.held k.transfer s.seven (possible-in k.transfer R s.possible);
  }

  unread-few : length (seen k).front.unread ≤ transfer_room k.transfer
  unfolding front_of
  unread-few = few

  -- what is in the drive is not on the sheet
  sheet-same : sheet_of (boxes_seen R k.floppy.held k.transfer) ≡ sheet_of (seen k)
  unfolding paper_of boxes_of inside_of
  sheet-same = refl

  -- A buffer as long as the longest sheet is never too short for it.
  pub paused-short : length (sheet_of (seen k)) ≤ longest_sheet
  paused-short = subst (λ (l : List ℕ). length l ≤ longest_sheet) sheet-same (sheet-most R k.floppy.held k.transfer s.seven fine)
    where
      fine : impossible_with k.floppy.held k.transfer R ≡ false
      fine = unfold impossible_with in rw (eq-eqb (length k.floppy.held) most_held s.held) s.possible

  -- It is written where it fits, and never refused with 1.
  pub paused-written : (buf : List ℕ) → length (sheet_of (seen k)) ≤ length buf
      → sheet_written R k.floppy.held k.transfer buf ≡ penned (Ok (length (sheet_of (seen k)))) (over buf 0 (sheet_of (seen k)))
  unfolding sheet_written impossible_with penned_to
  paused-written buf h =
      rw (eq-eqb (length k.floppy.held) most_held s.held, s.possible, sheet-same, le-leb (length (sheet_of (seen k))) (length buf) h) refl

  -- Read over a transfer room that is no smaller, it gives the controller of these boxes, whatever the registers and held bytes were.
  pub paused-read : (r : Regs) (h x : List ℕ) → transfer_room k.transfer ≤ transfer_room x
      → sheet_read r h (sheet_of (seen k)) x
      ≡ resuming (record { answer = Ok tt; regs = regs_for (seen k) }) (held_for (seen k).inside.write) (over x 0 (seen k).front.unread)
  unfolding change_disk
  paused-read r h x room =
      accepted-read (sheet_of (seen k)) (change_disk Empty (seen k)) r h x (sheet-back (seen k) writable) (omega (arith, unread-few, room))
      ∙ ap (λ (g : Regs). resuming (record { answer = Ok tt; regs = g }) (held_for (seen k).inside.write) (over x 0 (seen k).front.unread)) (regs_same (seen k))

-- ---- the controller that boxes give

-- it shows these boxes, with no disk
from-seen : (w : World) (t b x : List ℕ) → seen (host_from w t b x) ≡ change_disk Empty w
unfolding regs_for
from-seen w t b x = gives-seen w x

-- boxes that refusal 1 does not name, whose unread data fit the transfer room
module _ (w : World) (t b x : List ℕ) (right : wrong_boxes w ≡ false) (index : w.inside.index < 65536) (fits : length w.front.unread ≤ transfer_room x) where
  abbrev J : Host
  J = host_from w t b x

  from-sound : Sound J
  unfolding regs_for
  from-sound = record {
    nine = gives-nine w right;
    seven = gives-seven w right;
    held = gives-held w right;
    index-fits = index;
    taken-fits = gives-taken w right;
    setting-fits = setting-fits w;
    possible = gives-possible w x right fits;
  }

  -- and as much transfer room is lent
  from-room : transfer_room J.transfer ≡ transfer_room x
  unfolding transfer_room
  from-room = rw (over-length x 0 w.front.unread (omega (arith, fits, transfer-in x)))

-- A controller that is read from any sheet is one,
pub sheet-sound : (s : List ℕ) (w : World) (t b x : List ℕ) → ((k : ℕ) → byte_at s k < 256) → world_in s ≡ Ok w → length w.front.unread ≤ transfer_room x
    → Sound (host_from w t b x)
sheet-sound s w t b x bytes e fits = from-sound w t b x (accepted-right s w e) (accepted-index s w bytes e) fits

-- and shows the boxes of the sheet, with no disk.
pub sheet-seen : (s : List ℕ) (w : World) (t b x : List ℕ) → world_in s ≡ Ok w → seen (host_from w t b x) ≡ w
sheet-seen s w t b x e = from-seen w t b x ∙ accepted-empty s w e

-- ---- it goes on

-- putting a disk in again that was out
back_in : (k : Host) → change_disk (slot_if k.floppy.regs.drive.disk (disk_of k.table k.bytes)) (change_disk Empty (seen k)) ≡ seen k
unfolding change_disk inside_of
back_in k = refl

-- more transfer room changes no box
module _ (k : Host) (y : List ℕ) (s : Sound k) where
  more-sound : Sound (with_more y k)
  unfolding called
  more-sound = (agrees k s (widen y)).1

  more-seen : seen (with_more y k) ≡ seen k
  unfolding acted called
  more-seen = sym (ap (λ (n : Next Answer Stage). n.then.world) (agrees k s (widen y)).0)

-- a disk change changes nothing else
module _ (j : Host) (s : Sound j) (f : Bool) (t b : List ℕ) where
  swap-seen : change_disk (slot_if f (disk_of t b)) (seen j) ≡ seen (called (swap f t b) j).then
  unfolding acted
  swap-seen = ap (λ (n : Next Answer Stage). n.then.world) (agrees j s (swap f t b)).0

  swap-room : transfer_room j.transfer ≡ transfer_room (called (swap f t b) j).then.transfer
  unfolding acted
  swap-room = ap (λ (n : Next Answer Stage). n.then.rooms.transfer) (agrees j s (swap f t b)).0

module _ (k : Host) (y t b x : List ℕ) (s : Sound k) (room : transfer_room (k.transfer ++ y) ≡ transfer_room x) where
  abbrev W : World
  W = seen k

  abbrev N : Host
  N = host_from W t b x

  room_fits : length W.front.unread ≤ transfer_room x
  room_fits = omega (arith, unread-few k s, room, no-smaller k s y)

  pub from_is : Sound N
  from_is = from-sound W t b x (writable k s).right (writable k s).index-fits room_fits

  from-boxes : seen N ≡ change_disk Empty W
  from-boxes = from-seen W t b x

  -- A controller that is one, given more transfer room or none; and the one that is read from its sheet over as much room, given its disk: they are
  -- alike.
  pub goes_on : Alike (with_more y k) (disk_back k N)
  goes_on =
      let f : Bool = k.floppy.regs.drive.disk in
      let store = swapped-store N from_is f k.table k.bytes in
      record {
        one = more-sound k y s;
        other = (agrees N from_is (swap f k.table k.bytes)).1;
        boxes = more-seen k y s
            ∙ sym (sym (swap-seen N from_is f k.table k.bytes) ∙ ap (change_disk (slot_if f (disk_of k.table k.bytes))) from-boxes ∙ back_in k);
        table = sym store.0;
        bytes = sym store.1;
        room = room ∙ sym (from-room W t b x (writable k s).right (writable k s).index-fits room_fits) ∙ swap-room N from_is f k.table k.bytes;
      }

  -- So every later call answers alike, refusals included, and leaves the same store.
  pub goes-on-calls : (es : List Event)
      → ((run called es (with_more y k)).answers ≡ (run called es (disk_back k N)).answers) × Alike (run called es (with_more y k)).end (run called es (disk_back k N)).end
  goes-on-calls es = alike-calls es (with_more y k) (disk_back k N) goes_on

-- With no more room than was lent, as it stands.
pub goes-on-same : (k : Host) (t b x : List ℕ) → Sound k → transfer_room k.transfer ≡ transfer_room x → (es : List Event)
    → let j : Host = disk_back k (host_from (seen k) t b x) in ((run called es k).answers ≡ (run called es j).answers) × Alike (run called es k).end (run called es j).end
goes-on-same k t b x s room es =
    let e : k.transfer ++ [] ≡ k.transfer = append-nil k.transfer in
    let j : Host = disk_back k (host_from (seen k) t b x) in
    let same : with_more [] k ≡ k = λ i. record { floppy = k.floppy; table = k.table; bytes = k.bytes; transfer = e i } in
    subst (λ (m : Host). ((run called es m).answers ≡ (run called es j).answers) × Alike (run called es m).end (run called es j).end) same
    (goes-on-calls k [] t b x s (ap transfer_room e ∙ room) es)

-- ---- the sheet's own calls among the others

-- Hosts that are alike write the same sheet,
pub alike-sheet : (k j : Host) → Alike k j → sheet_of (seen k) ≡ sheet_of (seen j)
alike-sheet k j a = ap (λ (w : World). sheet_of w) a.boxes

-- and one sheet that is read over as much transfer room, whatever bytes are in it, leaves hosts that are alike.
pub read_alike : (s : List ℕ) (w : World) (t b x x' : List ℕ) → ((k : ℕ) → byte_at s k < 256) → world_in s ≡ Ok w → length w.front.unread ≤ transfer_room x
    → transfer_room x ≡ transfer_room x' → Alike (host_from w t b x) (host_from w t b x')
read_alike s w t b x x' bytes e fits room =
    let fits' : length w.front.unread ≤ transfer_room x' = omega (arith, fits, room) in
    let right = accepted-right s w e in
    let index = accepted-index s w bytes e in
    record {
      one = sheet-sound s w t b x bytes e fits;
      other = sheet-sound s w t b x' bytes e fits';
      boxes = sheet-seen s w t b x e ∙ sym (sheet-seen s w t b x' e);
      table = refl;
      bytes = refl;
      room = from-room w t b x right index fits ∙ room ∙ sym (from-room w t b x' right index fits');
    }

-- ---- demands 2 and 3 from a sheet

module _ (s : List ℕ) (w : World) (t b x : List ℕ) (bytes : (k : ℕ) → byte_at s k < 256) (e : world_in s ≡ Ok w) (fits : length w.front.unread ≤ transfer_room x) where
  abbrev H : Host
  H = host_from w t b x

  -- Demand 2: calls on a controller that is read from a sheet answer what the machine answers from the boxes of the sheet, and leave what it leaves.
  pub sheet-run : (es : List Event) → run acted es (record { rooms = rooms_of b x; world = w }) ≡ record { answers = (run called es H).answers; end = stage_of (run called es H).end }
  sheet-run es = ap (run acted es) stage ∙ calls-run es H (sheet-sound s w t b x bytes e fits)
    where
      stage : record { rooms = rooms_of b x; world = w } ≡ stage_of H
      stage = λ i. record { rooms = record { room = room_of b; transfer = sym (from-room w t b x (accepted-right s w e) (accepted-index s w bytes e) fits) i }; world = sym (sheet-seen s w t b x e) i }

  -- Demand 3: a save after any calls from there, as from any controller that is one.
  pub sheet-save : (a : Save) (d : Disk) (fs es : List Event)
      → let k : Host = (run called fs H).end in Ready (seen k) d → (save : IsSave a d) → Sends es (bytes_of a) (run called es k).answers
      → (store_of (run called es k).end ≡ Ok (saved_by a d)) × Only (address_of a) a.content save.sector d (saved_by a d)
  sheet-save a d fs es = save-calls a d (run called fs H).end es (calls-sound fs H (sheet-sound s w t b x bytes e fits))
