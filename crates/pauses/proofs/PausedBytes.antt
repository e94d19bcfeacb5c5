-- The same on lent bytes, by the exported calls.
use mathlib.Core.Path.{◌≡◌, refl, sym, ap, ◌∙◌}
use Prim.Native.Nat.{ℕ, ◌*◌, ◌^◌, ◌≤◌, ◌<◌}
use mathlib.Core.List.{List, ◌++◌, map}
use lib.ListN.{length}
use borrow.Author.Tests.{eq-eqb}
use Rattle.buffer.specs.Over.{over}
use Rattle.fields.specs.Bytes.{byte_at}
use Rattle.fields.specs.Model.{Disk}
use Rattle.store.specs.Store.{transfer_room}
use Rattle.registers.specs.Boxes.{World}
use Rattle.layout.specs.Layout.{controller_length, regs_at, held_at, regs_in}
use Rattle.sheet.specs.Sheets.{sheet_of, world_in}
use Rattle.sheet.specs.Calls.{longest_sheet}
use Rattle.host.specs.Calls.{answered, penned_on, write_sheet_on, taken_up, resumed_on, read_sheet_on}
use Rattle.saves.specs.Events.{Event, Next, Run, run, swap, widen}
use Rattle.saves.specs.Words.{Ready, Save, bytes_of, address_of, IsSave, saved_by, Only}
use Rattle.runs.specs.Hosts.{Host, with_more, called, seen, Sound}
use Rattle.runs.specs.Alike.{Alike}
use Rattle.lending.specs.Lendings.{Lending, exported, word_of, host_at, lending_of, seen_in, store_in, Formed, Posts}
use Rattle.lending.proofs.Exports.{exports, host-run, host-back, host-formed}
use Rattle.lending.proofs.Demands.{bytes-formed, formed-read, save-bytes}
use Rattle.pauses.specs.Resumed.{host_from, disk_back, lending_from, disk_back_in}
use Rattle.pauses.proofs.Paused.{accepted-read, paused-short, paused-written, paused-read, sheet-sound, from_is, goes_on, goes-on-calls}
use Rattle.std.specs.Prelude.{Ok}

-- ---- writing and reading

module _ (l : Lending) (f : Formed l) where
  abbrev K : Host
  K = host_at l

  -- A buffer as long as `floppy_sheet_length` says is never too short,
  pub bytes-short : length (sheet_of (seen_in l)) ≤ longest_sheet
  bytes-short = paused-short K f.sound

  regs_are : regs_in l.controller ≡ Ok (regs_at l.controller)
  unfolding regs_in
  regs_are = rw (formed-read l f).0 refl

  -- and the sheet is written to any that is long enough: its length in bits 32 to 63, the sheet at the start, bytes behind it as they were.
  pub bytes-written : (buf : List ℕ) → length (sheet_of (seen_in l)) ≤ length buf
      → write_sheet_on l.controller l.transfer buf ≡ answered (length (sheet_of (seen_in l)) * 2 ^ 32) (over buf 0 (sheet_of (seen_in l)))
  unfolding write_sheet_on
  bytes-written buf h = rw regs_are (ap penned_on (paused-written K f.sound buf h))

  -- Read over a transfer room that is no smaller, into any controller's bytes, it gives the bytes of the controller of these boxes.
  pub bytes_read : (c t b x : List ℕ) → length c ≡ controller_length → transfer_room l.transfer ≤ transfer_room x
      → read_sheet_on c x (sheet_of (seen_in l)) ≡ taken_up 0 (lending_from (seen_in l) t b x).controller (lending_from (seen_in l) t b x).transfer
  unfolding read_sheet_on
  bytes_read c t b x long room =
      rw (eq-eqb (length c) controller_length long) (ap (resumed_on c) (paused-read K f.sound (regs_at c) (held_at c) x room))

-- Any sheet that is accepted, and whose unread data fit the transfer room, is read so, whatever the controller's bytes were,
pub sheet-read : (s : List ℕ) (w : World) (c t b x : List ℕ) → world_in s ≡ Ok w → length w.front.unread ≤ transfer_room x → length c ≡ controller_length
    → read_sheet_on c x s ≡ taken_up 0 (lending_from w t b x).controller (lending_from w t b x).transfer
unfolding read_sheet_on
sheet-read s w c t b x e fits long =
    rw (eq-eqb (length c) controller_length long) (ap (resumed_on c) (accepted-read s w (regs_at c) (held_at c) x e fits))

module _ (s : List ℕ) (w : World) (t b x : List ℕ) (bytes : (k : ℕ) → byte_at s k < 256) (e : world_in s ≡ Ok w) (fits : length w.front.unread ≤ transfer_room x) where
  -- and what is read are bytes of a controller that is one: so all that is proved of such bytes, demands 2 and 3 among it, holds from there on.
  pub sheet-formed : Formed (lending_from w t b x)
  sheet-formed = host-formed (host_from w t b x) (sheet-sound s w t b x bytes e fits)

  -- Demand 3: a save by exported calls, after any calls from there.
  pub sheet-save-bytes : (a : Save) (d : Disk) (fs es : List Event)
      → let l : Lending = (run exported fs (lending_from w t b x)).end in Ready (seen_in l) d → (save : IsSave a d) → Posts es (bytes_of a) (run exported es l).answers
      → (store_in (run exported es l).end ≡ Ok (saved_by a d)) × Only (address_of a) a.content save.sector d (saved_by a d)
  sheet-save-bytes a d fs es = save-bytes a d (run exported fs (lending_from w t b x)).end es (bytes-formed fs (lending_from w t b x) sheet-formed)

-- ---- it goes on

module _ (l : Lending) (f : Formed l) (y t b x : List ℕ) (room : transfer_room (l.transfer ++ y) ≡ transfer_room x) where
  abbrev P : Host
  P = with_more y (host_at l)

  abbrev Q : Host
  Q = disk_back (host_at l) (host_from (seen_in l) t b x)

  alike : Alike P Q
  alike = goes_on (host_at l) y t b x f.sound room

  -- the bytes with more transfer room
  abbrev M : Lending
  M = (exported (widen y) l).then

  paused-is : M ≡ lending_of P
  unfolding exported
  paused-is = ap (λ (m : Lending). (exported (widen y) m).then) (sym f.same)

  resumed-is : disk_back_in l (lending_from (seen_in l) t b x) ≡ lending_of Q
  resumed-is =
      ap (λ (n : Next ℕ Lending). n.then)
      (exports (host_from (seen_in l) t b x) (from_is (host_at l) y t b x f.sound room) (swap (host_at l).floppy.regs.drive.disk l.table l.bytes))

  -- A controller's bytes, with more transfer room or none, and those that are read from its sheet over as much room, with its disk put in again: every
  -- later exported call answers the same word on both, refusals included, and they leave the same table and data, and equal boxes.
  pub bytes-go-on : (es : List Event)
      → let m : Run ℕ Lending = run exported es (exported (widen y) l).then in let n : Run ℕ Lending = run exported es (disk_back_in l (lending_from (seen_in l) t b x)) in
      (m.answers ≡ n.answers) × ((m.end.table ≡ n.end.table) × ((m.end.bytes ≡ n.end.bytes) × (seen_in m.end ≡ seen_in n.end)))
  bytes-go-on es =
      let both = goes-on-calls (host_at l) y t b x f.sound room es in
      let m : run exported es (exported (widen y) l).then ≡ record { answers = map word_of (run called es P).answers; end = lending_of (run called es P).end }
      = ap (run exported es) paused-is ∙ host-run es P alike.one in
      let n : run exported es (disk_back_in l (lending_from (seen_in l) t b x)) ≡ record { answers = map word_of (run called es Q).answers; end = lending_of (run called es Q).end }
      = ap (run exported es) resumed-is ∙ host-run es Q alike.other in
      let end : (p : Host) → Sound p → seen_in (lending_of p) ≡ seen p = λ p q. ap seen (host-back p q) in (
        ap (λ (r : Run ℕ Lending). r.answers) m ∙ ap (map word_of) both.0 ∙ sym (ap (λ (r : Run ℕ Lending). r.answers) n),
        (
          ap (λ (r : Run ℕ Lending). r.end.table) m ∙ both.1.table ∙ sym (ap (λ (r : Run ℕ Lending). r.end.table) n),
          (
            ap (λ (r : Run ℕ Lending). r.end.bytes) m ∙ both.1.bytes ∙ sym (ap (λ (r : Run ℕ Lending). r.end.bytes) n),
            ap (λ (r : Run ℕ Lending). seen_in r.end) m ∙ end (run called es P).end both.1.one ∙ both.1.boxes
                ∙ sym (ap (λ (r : Run ℕ Lending). seen_in r.end) n ∙ end (run called es Q).end both.1.other),
          ),
        ),
      )
