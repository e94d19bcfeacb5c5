-- Data that were read stay as they were when Read Data ran: no byte but the last one of a read that finds a sector touches them.
use mathlib.Core.Path.{◌≡◌, refl, sym, subst}
use Prim.Native.Nat.{ℕ}
use mathlib.Core.Bool.{Bool, true, false, not}
use mathlib.Core.List.{List, [], ◌∷◌, ◌++◌}
use mathlib.Core.Logic.{◌⊎◌, inl, inr}
use mathlib.Core.Option.{none}
use lib.ListN.{length}
use lib.Dec.{leb}
use Rattle.fields.specs.Refusals.{need, after}
use Rattle.fields.specs.Model.{Sector, Disk}
use Rattle.fields.specs.declared.refusal.Refusal.TheVariants.{BadController, NoTransferRoom}
use Rattle.fields.proofs.Tests.{never}
use Rattle.store.specs.Search.{match_at, read_at}
use Rattle.store.specs.declared.answer.Match.{Match}
use Rattle.store.specs.Store.{contents}
use Rattle.codes.specs.declared.command.Command.{Command}
use Rattle.codes.specs.declared.command.Command.TheVariants.{Specify, SenseDrive, Recalibrate, SenseInterrupt, SeekTo, Version, ReadData, ReadDeleted, WriteData, ReadId, FormatTrack, Unserved, Invalid}
use Rattle.codes.specs.Second.{head_of}
use Rattle.codes.specs.Table.{command_of, bytes_for}
use Rattle.registers.specs.declared.regs.Regs.{Regs}
use Rattle.registers.specs.declared.regs.Seek.{Seek}
use Rattle.registers.specs.declared.regs.Seek.TheVariants.{Idle, Running, Done}
use Rattle.registers.specs.Boxes.{Rooms, Slot, Empty, Holds, Inside, Front, World, Named, named, serves, interrupted, responded}
use Rattle.registers.specs.Boxes.{Response, Stay, Reply, ReplyIfNone, Seeking, Interrupt, Serve, Effect, Sent}
use Rattle.registers.specs.Ports.{set_motor, change_disk}
use Rattle.registers.specs.View.{rooms_of, slot_of, inside_of, front_of, impossible}
use Rattle.registers.specs.Calls.{switched_if, motor_set, disk_set}
use Rattle.registers.specs.Settle.{regs_with_motor, regs_with_drive}
use Rattle.commands.specs.Commands.{byte, id_of, tells, does, not_ready, when_ready, seek_to, invalid, served_as, read_data, write_data, written, read_id, format_track, obeyed}
use Rattle.commands.specs.Lent.{transfer_with, left, left_of}
use Rattle.commands.proofs.Runs.{StillS, Still, quiet-seek, quiet-invalid, quiet-id, quiet_write, still-format, still-written}
use Rattle.sending.specs.Reads.{EndsRead, Refilled}
use Rattle.sending.specs.Machine.{sent, done, write_port}
use Rattle.sending.specs.Calls.{impossible_with, sent_to, data_write}
use Rattle.sending.proofs.Every.{OfEffect, OfSent, of-this}
use Rattle.std.specs.Prelude.{Result, Ok, Err}
use Rattle.fields.specs.declared.refusal.Refusal.{Refusal}
use Rattle.registers.specs.declared.regs.Answered.{Answered}
use Rattle.registers.specs.declared.regs.Report.{Report}

module _ (s : Rooms) (i : Inside) (b : ℕ) where
  -- data are served only by such a byte
  abbrev Serves : Response → Type 0
  Serves Stay = Unit {0}
  Serves (Reply x) = Unit {0}
  Serves (ReplyIfNone x) = Unit {0}
  Serves Seeking = Unit {0}
  Serves (Interrupt c y) = Unit {0}
  Serves (Serve bytes reply) = EndsRead i b bytes

  abbrev ServesE : Result Effect Refusal → Type 0
  ServesE = OfEffect (λ response put. Serves response)

  still-serves : (x : Response) → StillS x → Serves x
  still-serves Stay q = tt
  still-serves (Reply x) q = tt
  still-serves (ReplyIfNone x) q = tt
  still-serves Seeking q = tt
  still-serves (Interrupt c y) q = tt
  still-serves (Serve bytes reply) q = absurd q

  none-served : (e : Result Effect Refusal) → Still e → ServesE e
  none-served (Err why) q = tt
  none-served (Ok e) q = still-serves e.response q

  abbrev Line : List ℕ
  Line = i.command ++ (b ∷ [])

  abbrev Drive : Named
  Drive = named (byte Line 1) i.drives

  module _ (n : i.write ≡ none) (w : length Line ≡ bytes_for (command_of (byte Line 0))) where
    read-serves : (deleted : Bool) → (command_of (byte Line 0) ≡ ReadData) ⊎ (command_of (byte Line 0) ≡ ReadDeleted) → ServesE (read_data s deleted Line Drive)
    unfolding read_data served_as
    read-serves deleted k = in-slot Drive.slot refl (does [] (Reply (not_ready (byte Line 1) (id_of Line)))) tt
      where
        Read : Disk → List Sector
        Read y = read_at y (head_of (byte Line 1)) Drive.cylinder (id_of Line) (byte Line 6)

        roomy : (v : Bool) (y : Disk) → Drive.slot ≡ Holds (Ok y) → (x : Sector) (xs : List Sector) → Read y ≡ x ∷ xs → (m : Match) (reply : List ℕ)
            → ServesE (need v NoTransferRoom (tells (serves m) [] (Serve (contents (x ∷ xs)) reply)))
        roomy true y d x xs e m reply =
            record { command = Line; is-command = refl; no_write = n; reads = k; whole = w; disk = y; in-drive = d; first = x; rest = xs; found = e; theirs = refl }
        roomy false y d x xs e m reply = tt

        served : (y : Disk) → Drive.slot ≡ Holds (Ok y) → (m : Match) (ss : List Sector) → Read y ≡ ss → ServesE (served_as s deleted Line m ss)
        served y d m [] e = tt
        served y d m (x ∷ xs) e = roomy (leb (length (contents (x ∷ xs))) s.transfer) y d x xs e m _

        First : Disk → Match
        First y = match_at y (head_of (byte Line 1)) Drive.cylinder (id_of Line)

        in-slot : (z : Slot) → Drive.slot ≡ z → (e : Result Effect Refusal) → ServesE e → ServesE (when_ready z e (λ y. served_as s deleted Line (First y) (Read y)))
        in-slot Empty d e q = q
        in-slot (Holds (Err why)) d e q = tt
        in-slot (Holds (Ok y)) d e q = served y d (First y) (Read y) refl

    command-serves : (k : Command) → command_of (byte Line 0) ≡ k → ServesE (obeyed i.setting s k Line i.drives i.index)
    unfolding obeyed
    command-serves Specify e = tt
    command-serves SenseDrive e = tt
    command-serves Recalibrate e = none-served (seek_to 0 Drive) (quiet-seek Drive.fitted 0).1
    command-serves SenseInterrupt e = tt
    command-serves SeekTo e = none-served (seek_to (byte Line 2) Drive) (quiet-seek Drive.fitted (byte Line 2)).1
    command-serves Version e = tt
    command-serves ReadData e = read-serves false (inl e)
    command-serves ReadDeleted e = read-serves true (inr e)
    command-serves WriteData e = none-served (write_data (byte Line 1) (id_of Line) Drive) (quiet_write (byte Line 1) (id_of Line) Drive).1
    command-serves ReadId e = none-served (read_id (byte Line 1) i.index Drive) (quiet-id (byte Line 1) i.index Drive).1
    command-serves FormatTrack e = none-served (format_track i.setting s Line Drive) (still-format i.setting s Line Drive)
    command-serves Unserved e = tt
    command-serves Invalid e = none-served (does [] (invalid i.setting.machine)) (quiet-invalid i.setting.machine).1

  sent-serves : OfSent (λ response put. Serves response) (sent s i b)
  sent-serves =
      of-this (λ response put. Serves response) s i b tt (λ n w. command-serves n w (command_of (byte Line 0)) refl)
      (λ w. none-served (written s w (named w.c1 i.drives)) (still-written w.goal s w.c1 w.held (named w.c1 i.drives)))

  -- ---- on the machine

  front-stays : (x : Response) (f : Front) → Serves x → ((responded x f).unread ≡ f.unread) ⊎ EndsRead i b (responded x f).unread
  unfolding responded interrupted
  front-stays Stay f q = inl refl
  front-stays (Reply x) f q = inl refl
  front-stays (ReplyIfNone x) f q = inl refl
  front-stays Seeking f q = inl refl
  front-stays (Interrupt c y) f q = inl (by f.seek)
    where
      by : (z : Seek) → (interrupted c y f z).unread ≡ f.unread
      by Idle = refl
      by Running = refl
      by Done = refl
  front-stays (Serve bytes reply) f q = inr q

-- A byte that is taken leaves the unread data as they are, or it ends a read that finds a sector, and they are the contents of what it finds.
pub unread-stays : (s : Rooms) (w v : World) (b : ℕ) → write_port s w b ≡ Ok v
    → (v.front.unread ≡ w.front.unread) ⊎ EndsRead w.inside b v.front.unread
unfolding write_port done
unread-stays s w v b e = by (sent s w.inside b) (sent-serves s w.inside b) e
  where
    by : (x : Result Sent Refusal) → OfSent (λ response put. Serves s w.inside b response) x → after x (λ y. Ok (done w y)) ≡ Ok v
        → (v.front.unread ≡ w.front.unread) ⊎ EndsRead w.inside b v.front.unread
    by (Err why) q e = never (cc)
    by (Ok y) q e =
        let z : done w y ≡ v = cc in
        subst (λ (u : World). (u.front.unread ≡ w.front.unread) ⊎ EndsRead w.inside b u.front.unread) z
        (front-stays s w.inside b y.effect.response w.front q)

-- Another disk, or none, and the motor leave them, and all else that port reads change.
pub disk-leaves : (slot : Slot) (w : World) → (change_disk slot w).front ≡ w.front
unfolding change_disk
disk-leaves slot w = refl

pub motor-leaves : (on : Bool) (w : World) → (set_motor on w).front ≡ w.front
unfolding set_motor
motor-leaves on w = refl

-- ---- on the lent bytes

module _ (r : Regs) (b : ℕ) (h t d x : List ℕ) where
  -- the boxes that are seen
  abbrev pub I : Inside
  I = inside_of r h (slot_of r t d)

  buffer-stays : (y : Response) → Serves (rooms_of d x) I b y → (transfer_with y x ≡ x) ⊎ Refilled I b x (transfer_with y x)
  buffer-stays Stay q = inl refl
  buffer-stays (Reply z) q = inl refl
  buffer-stays (ReplyIfNone z) q = inl refl
  buffer-stays Seeking q = inl refl
  buffer-stays (Interrupt c y) q = inl refl
  buffer-stays (Serve bytes reply) q = inr record { bytes = bytes; ends = q; laid = refl }

  -- A byte sent leaves the transfer buffer byte for byte as it came, refused or not, or it ends a read that finds a sector.
  pub transfer-stays : (a : Answered Report) (h' t' d' x' : List ℕ) → data_write r b h t d x ≡ left a h' t' d' x' → (x' ≡ x) ⊎ Refilled I b x x'
  unfolding data_write sent_to left_of
  transfer-stays a h' t' d' x' = asked (impossible_with h x r)
    where
      Stays : Result Sent Refusal → Type 0
      Stays y = left_of y r h t d x ≡ left a h' t' d' x' → (x' ≡ x) ⊎ Refilled I b x x'

      by : (y : Result Sent Refusal) → OfSent (λ response put. Serves (rooms_of d x) I b response) y → Stays y
      by (Err why) q e = let z : x ≡ x' = cc in inl (sym z)
      by (Ok y) q e =
          let z : transfer_with y.effect.response x ≡ x' = cc in
          subst (λ (u : List ℕ). (u ≡ x) ⊎ Refilled I b x u) z (buffer-stays y.effect.response q)

      asked : (v : Bool) → Stays (need (not v) BadController (sent (rooms_of d x) I b))
      asked true = by (Err BadController) tt
      asked false = by (sent (rooms_of d x) I b) (sent-serves (rooms_of d x) I b)

-- Neither call on motor or disk is lent the transfer buffer: what is then seen in front is what was.
module _ (r : Regs) (x : List ℕ) where
  switched-leaves : (v : Bool) (r' : Regs) → front_of r' x ≡ front_of r x → front_of (switched_if v r' r).regs x ≡ front_of r x
  switched-leaves true r' e = refl
  switched-leaves false r' e = e

  pub disk-call-leaves : (present : Bool) → front_of (disk_set present r).regs x ≡ front_of r x
  unfolding disk_set front_of
  disk-call-leaves present = switched-leaves (impossible r) (regs_with_drive (record { cylinder = r.drive.cylinder; seek = r.drive.seek; disk = present }) r) refl

  pub motor-call-leaves : (on : Bool) → front_of (motor_set on r).regs x ≡ front_of r x
  unfolding motor_set front_of
  motor-call-leaves on = switched-leaves (impossible r) (regs_with_motor on r) refl
