-- Seen as boxes and disk, a byte sent to the controller is the machine's step.
use mathlib.Core.Path.{◌≡◌, refl, sym, ap, subst, ◌∙◌}
use Prim.Native.Nat.{ℕ, ◌+◌, ◌-◌, ◌≤◌, ◌<◌}
use native.Mathlib.Omega.{arith}
use native.Mathlib.Numerals.{add-one}
use mathlib.Core.Bool.{Bool, true, false}
use mathlib.Core.List.{List, [], ◌∷◌, ◌++◌}
use mathlib.Core.Option.{Option, none, some}
use lib.ListN.{length, set, take, drop, replicate, drop_of_length-le}
use lib.Seq.{slice, length-slice, length-take-le, take-suc-set, take-append_seam}
use lib.Dec.{eqb, ltb, leb}
use borrow.Author.Tests.{ltb-true, ltb-false, leb-true}
use Rattle.buffer.proofs.Overs.{over-front}
use Rattle.buffer.specs.Over.{over}
use Rattle.fields.specs.Refusals.{need, after}
use Rattle.fields.specs.Capacities.{most_held}
use Rattle.fields.specs.Model.{Sector, Disk, byte_count}
use Rattle.fields.specs.declared.id.SectorId.{SectorId}
use Rattle.fields.specs.declared.refusal.Refusal.TheVariants.{BadController, NoRoom}
use Rattle.fields.proofs.Tests.{never}
use Rattle.store.specs.Find.{Found, nothing, found}
use Rattle.store.specs.Search.{sector_at, match_at}
use Rattle.store.specs.declared.answer.Match.{Match}
use Rattle.store.specs.Store.{room_of, table_of, data_of, disk_of}
use Rattle.store.specs.Calls.{fitting}
use Rattle.disk.specs.Change.{saved, set_track}
use Rattle.disk.proofs.Accepts.{format-accepted, save-accepted}
use Rattle.codes.specs.declared.command.Command.{Command}
use Rattle.codes.specs.declared.command.Command.TheVariants.{Specify, SenseDrive, Recalibrate, SenseInterrupt, SeekTo, Version, ReadData, ReadDeleted, WriteData, ReadId, FormatTrack, Unserved, Invalid}
use Rattle.registers.specs.declared.regs.Goal.{Goal}
use Rattle.registers.specs.declared.regs.Goal.TheVariants.{IntoSector, IntoTrack}
use Rattle.registers.specs.declared.regs.Regs.{Regs}
use Rattle.registers.specs.declared.regs.Pending.{Pending}
use Rattle.registers.specs.declared.regs.Shape.{Shape}
use Rattle.registers.specs.declared.regs.Seek.{Seek}
use Rattle.registers.specs.declared.regs.Seek.TheVariants.{Idle, Running, Done}
use Rattle.registers.specs.Boxes.{setting_of, Setting, Rooms, Slot, Holds, Drives, whole_of, Writing, Inside, fitted, named_if, named, silent, serves}
use Rattle.registers.specs.Boxes.{with_command, with_write, with_slot, holding_in}
use Rattle.registers.specs.Boxes.{Taking, Add, Hold, Change, Clear, MoveTo, Turn, Start, Finish, Response, Stay, Reply, ReplyIfNone, Seeking, Interrupt, Serve, Effect, Sent}
use Rattle.registers.specs.Boxes.{taken, changed, all_changed, put_in, with_reply, if_none, interrupted, responded}
use Rattle.codes.specs.Table.{command_of, bytes_for}
use Rattle.registers.specs.View.{rooms_of, slot_if, slot_of, drives_of, named_in, goal_of, writing_of, writing_if, inside_of, front_of, world_of, impossible, impossible_in}
use Rattle.registers.specs.Calls.{disk_in}
use Rattle.registers.specs.Settle.{declined, replied, pending_with, regs_taken, held_taken, regs_changed, regs_all, if_unread, interrupted_by, regs_responded, regs_of}
use Rattle.registers.proofs.Numbers.{possible, possible-in, count-few, goal-kept, whole-most, taken-few}
use Rattle.codes.specs.Second.{head_of}
use Rattle.commands.specs.Commands.{byte, id_of, ready, when_ready, does, puts, seek_to, invalid, read_data, write_data, read_id, write_reply, save_at, written_sector}
use Rattle.commands.specs.Commands.{track_as, format_reply, lays_track, format_at_once, has_phase, format_if, format_track, written_track, written_into, written, obeyed}
use Rattle.sending.specs.Machine.{sends, command_if, command_byte, data_if, data_byte, sent, done, write_port, reported, report_of}
use Rattle.commands.specs.Lent.{table_with, data_with, transfer_with, left, left_of, Sees}
use Rattle.sending.specs.Calls.{data_write}
use Rattle.commands.proofs.Runs.{Unput, quiet-seek, quiet-invalid, quiet-id, quiet_write, unput-read}
use Rattle.sending.proofs.Sends.{wrong-length, wrong-numbers, write-wrong, sent-right, sent-data, sent-command}
use Rattle.sending.proofs.Every.{OfEffect, OfSent, of-sent}
use Rattle.std.specs.Prelude.{Result, Ok, Err}
use Rattle.fields.specs.declared.refusal.Refusal.{Refusal}

-- ---- inside: taking a byte, and changes

-- there is room for a byte that is taken
abbrev Fits : Taking → Regs → List ℕ → Type 0
Fits (Add b) r h = r.count < length r.command
Fits (Hold b) r h = r.write.taken < length h

more : (l : List ℕ) (i b : ℕ) → i < length l → take (i + 1) (set l i b) ≡ take i l ++ (b ∷ [])
more l i b g = rw add-one (take-suc-set l i b g)

more-held : (f : Bool) (p : Pending) (h : List ℕ) (b : ℕ) → p.taken < length h
    → writing_if f (pending_with f (p.taken + 1) p) (set h p.taken b) ≡ holding_in b (writing_if f p h)
more-held true p h b g = ap (λ (l : List ℕ). some (writing_of p l)) (more h p.taken b g)
more-held false p h b g = refl

seen-taken : (x : Taking) (r : Regs) (h : List ℕ) (s : Slot) → Fits x r h → inside_of (regs_taken x r) (held_taken x r h) s ≡ taken x (inside_of r h s)
unfolding inside_of taken
seen-taken (Add b) r h s g = ap (λ (l : List ℕ). with_command l (inside_of r h s)) (more r.command r.count b g)
seen-taken (Hold b) r h s g = ap (λ (w : Option Writing). with_write w (inside_of r h s)) (more-held r.write.on r.write h b g)

seen-change : (x : Change) (r : Regs) (h : List ℕ) (s : Slot) → inside_of (regs_changed x r) h s ≡ changed x (inside_of r h s)
unfolding inside_of changed
seen-change Clear r h s = refl
seen-change (MoveTo c) r h s = refl
seen-change Turn r h s = refl
seen-change (Start c1 g) r h s = ap (λ (x : Goal). with_write (some record { c1 = c1; goal = x; held = [] }) (inside_of r h s)) (goal-kept g)
seen-change Finish r h s = refl

seen-changes : (xs : List Change) (r : Regs) (h : List ℕ) (s : Slot) → inside_of (regs_all xs r) h s ≡ all_changed xs (inside_of r h s)
unfolding regs_all all_changed
seen-changes [] r h s = refl
seen-changes (x ∷ xs) r h s = seen-changes xs (regs_changed x r) h s ∙ ap (all_changed xs) (seen-change x r h s)

-- ---- what a byte does inside leaves the front, and the flag of the disk

record Same (r r' : Regs) : Type 0 where
  pub front : (x : List ℕ) → front_of r' x ≡ front_of r x
  pub flag : r'.drive.disk ≡ r.drive.disk
  pub few : r.fill ≤ 7 → r'.fill ≤ 7
  pub long : length r.reply ≡ 7 → length r'.reply ≡ 7

same_taken : (x : Taking) (r : Regs) → Same r (regs_taken x r)
unfolding front_of
same_taken (Add b) r = record { front = λ x. refl; flag = refl; few = λ h. h; long = λ h. h }
same_taken (Hold b) r = record { front = λ x. refl; flag = refl; few = λ h. h; long = λ h. h }

same-change : (x : Change) (r : Regs) → Same r (regs_changed x r)
unfolding front_of
same-change Clear r = record { front = λ x. refl; flag = refl; few = λ h. h; long = λ h. h }
same-change (MoveTo c) r = record { front = λ x. refl; flag = refl; few = λ h. h; long = λ h. h }
same-change Turn r = record { front = λ x. refl; flag = refl; few = λ h. h; long = λ h. h }
same-change (Start c1 g) r = record { front = λ x. refl; flag = refl; few = λ h. h; long = λ h. h }
same-change Finish r = record { front = λ x. refl; flag = refl; few = λ h. h; long = λ h. h }

same_then : (a b c : Regs) → Same a b → Same b c → Same a c
same_then a b c p q = record {
  front = λ x. q.front x ∙ p.front x;
  flag = q.flag ∙ p.flag;
  few = λ h. q.few (p.few h);
  long = λ h. q.long (p.long h);
}

same-changes : (xs : List Change) (r : Regs) → Same r (regs_all xs r)
unfolding regs_all
same-changes [] r = record { front = λ x. refl; flag = refl; few = λ h. h; long = λ h. h }
same-changes (x ∷ xs) r = same_then r (regs_changed x r) (regs_all xs (regs_changed x r)) (same-change x r) (same-changes xs (regs_changed x r))

-- ---- in front

read_back : (bytes rest : List ℕ) → slice 0 (length bytes) (bytes ++ rest) ≡ bytes
read_back bytes rest = take-append_seam bytes rest

seen-reply : (bytes : List ℕ) (r : Regs) (x : List ℕ) → front_of (replied bytes r) x ≡ with_reply bytes (front_of r x)
unfolding front_of
seen-reply bytes r x = ap (λ (l : List ℕ). with_reply l (front_of r x)) (read_back bytes (replicate (7 - length bytes) 0))

seen-interrupt : (c : ℕ) (y : List ℕ) (r : Regs) (x : List ℕ) (s : Seek) → front_of (interrupted_by c y r s) x ≡ interrupted c y (front_of r x) s
unfolding interrupted_by interrupted
seen-interrupt c y r x Idle = seen-reply y r x
seen-interrupt c y r x Running = unfold front_of in refl
seen-interrupt c y r x Done = seen-reply y r x

-- a reply that is unread is kept
if_some : (new l : List ℕ) (f t : ℕ) (k : List ℕ) → l ≡ slice f t k → f < t → t ≤ length k → if_none new l ≡ l
if_some new [] f t k e g h = let z : length (slice f t k) ≡ t - f = length-slice f t k h in absurd (omega (arith, ap length e))
if_some new (x ∷ l) f t k e g h = refl

if_none_lem : (new : List ℕ) (f t : ℕ) (k : List ℕ) → t ≤ f → t ≤ length k → if_none new (slice f t k) ≡ new
if_none_lem new f t k g h = ap (if_none new) (drop_of_length-le (take t k) {i = f} (omega (arith, length-take-le t k h)))

seen_if : (v : Bool) (bytes : List ℕ) (r : Regs) (x : List ℕ) → r.fill ≤ 7 → length r.reply ≡ 7 → ltb r.place r.fill ≡ v
    → front_of (if_unread v bytes r) x ≡ with_reply (if_none bytes (front_of r x).reply) (front_of r x)
unfolding if_unread
seen_if true bytes r x f l e =
    unfold front_of in ap (λ (y : List ℕ). with_reply y (front_of r x)) (sym (if_some bytes _ r.place r.fill r.reply refl (ltb-true _ _ e) (omega (arith, f, l))))
seen_if false bytes r x f l e =
    seen-reply bytes r x
    ∙ (unfold front_of in ap (λ (y : List ℕ). with_reply y (front_of r x)) (sym (if_none_lem bytes r.place r.fill r.reply (ltb-false _ _ e) (omega (arith, f, l)))))

seen-serve : (bytes reply : List ℕ) (r : Regs) (x : List ℕ) → front_of (regs_responded (Serve bytes reply) r) (over x 0 bytes) ≡ responded (Serve bytes reply) (front_of r x)
unfolding regs_responded responded front_of
seen-serve bytes reply r x =
    let p : slice 0 (length reply) (reply ++ replicate (7 - length reply) 0) ≡ reply = read_back reply (replicate (7 - length reply) 0) in
    let q : slice 0 (length bytes) (over x 0 bytes) ≡ bytes = ap (slice 0 (length bytes)) (over-front x bytes) ∙ read_back bytes (drop (length bytes) x) in
    λ i. record { seek = r.drive.seek; reply = p i; unread = q i; lost = r.lost }

seen-response : (s : Response) (r : Regs) (x : List ℕ) → r.fill ≤ 7 → length r.reply ≡ 7 → front_of (regs_responded s r) (transfer_with s x) ≡ responded s (front_of r x)
unfolding regs_responded responded front_of
seen-response Stay r x f l = refl
seen-response (Reply bytes) r x f l = seen-reply bytes r x
seen-response (ReplyIfNone bytes) r x f l = seen_if (ltb r.place r.fill) bytes r x f l refl
seen-response Seeking r x f l = refl
seen-response (Interrupt c y) r x f l = seen-interrupt c y r x r.drive.seek
seen-response (Serve bytes reply) r x f l = seen-serve bytes reply r x

-- what is done in front leaves the inside, and the flag of the disk
response-inside : (s : Response) (r : Regs) (h : List ℕ) (slot : Slot) → (inside_of (regs_responded s r) h slot ≡ inside_of r h slot) × ((regs_responded s r).drive.disk ≡ r.drive.disk)
unfolding regs_responded inside_of
response-inside Stay r h slot = (refl, refl)
response-inside (Reply bytes) r h slot = (refl, refl)
response-inside (ReplyIfNone bytes) r h slot = go (ltb r.place r.fill)
  where
    go : (v : Bool) → (inside_of (if_unread v bytes r) h slot ≡ inside_of r h slot) × ((if_unread v bytes r).drive.disk ≡ r.drive.disk)
    go true = unfold if_unread in (refl, refl)
    go false = unfold if_unread in (refl, refl)
response-inside Seeking r h slot = (refl, refl)
response-inside (Interrupt c y) r h slot = go r.drive.seek
  where
    go : (s : Seek) → (inside_of (interrupted_by c y r s) h slot ≡ inside_of r h slot) × ((interrupted_by c y r s).drive.disk ≡ r.drive.disk)
    go Idle = unfold interrupted_by in (refl, refl)
    go Running = unfold interrupted_by in (refl, refl)
    go Done = unfold interrupted_by in (refl, refl)
response-inside (Serve bytes reply) r h slot = (refl, refl)

-- ---- the disk that is put is the one that the store then holds

module _ (r : Regs) (t d : List ℕ) where
  abbrev Lays : Option Disk → Type 0
  Lays none = Unit {0}
  Lays (some y) = (r.drive.disk ≡ true) × (disk_of (over t 0 (table_of y)) (over d 0 (data_of y)) ≡ Ok y)

  abbrev LaysE : Result Effect Refusal → Type 0
  LaysE = OfEffect (λ response put. Lays put)

  abbrev LaysS : Result Sent Refusal → Type 0
  LaysS = OfSent (λ response put. Lays put)

  seen-slot : (put : Option Disk) (i : Inside) (f : Bool) → Lays put → f ≡ r.drive.disk → i.drives.first.slot ≡ slot_of r t d
      → put_in put i ≡ with_slot (slot_if f (disk_of (table_with put t) (data_with put d))) i
  unfolding put_in
  seen-slot none i f g e q = λ k. with_slot ((q ∙ ap (λ (v : Bool). slot_if v (disk_of t d)) (sym e)) k) i
  seen-slot (some y) i f g e q = ap (λ (s : Slot). with_slot s i) (held f (e ∙ g.0) g.1)
    where
      held : (v : Bool) → v ≡ true → disk_of (over t 0 (table_of y)) (over d 0 (data_of y)) ≡ Ok y → Holds (Ok y) ≡ slot_if v (disk_of (over t 0 (table_of y)) (over d 0 (data_of y)))
      held true z w = ap Holds (sym w)
      held false z w = never (cc)

  unput-lays : (e : Result Effect Refusal) → Unput e → LaysE e
  unput-lays (Err why) q = tt
  unput-lays (Ok e) q = subst Lays (sym q) tt

  -- a command that looks at the drive that it names finds no disk, a refusal, or the disk that the store holds
  named-lays : (c1 : ℕ) (e : Result Effect Refusal) (F : Disk → Result Effect Refusal) → LaysE e → ((y : Disk) → r.drive.disk ≡ true → disk_of t d ≡ Ok y → LaysE (F y))
      → LaysE (when_ready (named_in c1 r t d).slot e F)
  unfolding named
  named-lays c1 e F p q = go (fitted c1) r.drive.disk refl (disk_of t d) refl
    where
      go : (v f : Bool) → r.drive.disk ≡ f → (disk : Result Disk Refusal) → disk_of t d ≡ disk
          → LaysE (when_ready (named_if v (record { cylinder = r.drive.cylinder; slot = slot_if f disk })).slot e F)
      go false f h disk w = p
      go true false h disk w = p
      go true true h (Err why) w = tt
      go true true h (Ok y) w = q y h w

  -- a track that is laid
  track-lays : (x : List ℕ) (xs : List Change) (c1 c : ℕ) (z : Shape) (ids : List SectorId) (y : Disk) → r.drive.disk ≡ true → disk_of t d ≡ Ok y
      → LaysE (lays_track (rooms_of d x) xs c1 c z ids y)
  unfolding lays_track
  track-lays x xs c1 c z ids y h w = go (fitting (room_of d) New) refl
    where
      New : Disk
      New = set_track (head_of c1) c (track_as c1 c z ids) y

      go : (new : Result Disk Refusal) → fitting (room_of d) New ≡ new → LaysE (after new (λ v. puts silent xs v (format_reply c1 z.size)))
      go (Err why) e = tt
      go (Ok v) e = (h, format-accepted t d y w New v e)

  format-lays : (x l : List ℕ) → LaysE (format_track (setting_of r.setting) (rooms_of d x) l (named_in (byte l 1) r t d))
  unfolding format_track format_at_once
  format-lays x l = go (has_phase (setting_of r.setting).machine (byte l 3) (ready (named_in (byte l 1) r t d).slot))
    where
      go : (v : Bool) → LaysE (format_if v (rooms_of d x) l (named_in (byte l 1) r t d))
      go true = tt
      go false = named-lays (byte l 1) _ _ tt (λ y h w. track-lays x [] (byte l 1) _ _ _ y h w)

  sector-lays : (x : List ℕ) (c1 : ℕ) (id : SectorId) (held : List ℕ) → LaysE (written_sector (rooms_of d x) c1 id held (named_in c1 r t d))
  unfolding written_sector save_at
  sector-lays x c1 id held = named-lays c1 _ _ tt (λ y h e. go y h e (match_at y (head_of c1) Cylinder id) (sector_at y (head_of c1) Cylinder id))
    where
      Cylinder : ℕ
      Cylinder = (named_in c1 r t d).cylinder

      New : Disk → Disk
      New y = saved (head_of c1) Cylinder id held y

      put : (v : Bool) (m : Match) (y : Disk) → r.drive.disk ≡ true → disk_of t d ≡ Ok y → leb (byte_count (New y)) (room_of d) ≡ v
          → LaysE (need v NoRoom (puts (serves m) (Finish ∷ []) (New y) (write_reply c1 id)))
      put true m y h e q = (h, save-accepted t d y e (head_of c1) Cylinder id held (leb-true _ _ q))
      put false m y h e q = tt

      go : (y : Disk) → r.drive.disk ≡ true → disk_of t d ≡ Ok y → (m : Match) (s : Found Sector) → LaysE (save_at (rooms_of d x) c1 id m (New y) s)
      go y h e m nothing = tt
      go y h e m (found k s) = put (leb (byte_count (New y)) (room_of d)) m y h e refl

  written-lays : (x : List ℕ) (w : Writing) → LaysE (written (rooms_of d x) w (named_in w.c1 r t d))
  unfolding written_into written_track
  written-lays x w = go w.goal
    where
      go : (g : Goal) → LaysE (written_into g (rooms_of d x) w.c1 w.held (named_in w.c1 r t d))
      go (IntoSector id) = sector-lays x w.c1 id w.held
      go (IntoTrack z) = named-lays w.c1 _ _ tt (λ y h e. track-lays x (Finish ∷ []) w.c1 _ z _ y h e)

  obeyed-lays : (x : List ℕ) (k : Command) (l : List ℕ) → LaysE (obeyed (setting_of r.setting) (rooms_of d x) k l (drives_of r t d) r.index)
  unfolding obeyed
  obeyed-lays x Specify l = tt
  obeyed-lays x SenseDrive l = tt
  obeyed-lays x Recalibrate l = unput-lays (seek_to 0 (named_in (byte l 1) r t d)) (quiet-seek _ _).0
  obeyed-lays x SenseInterrupt l = tt
  obeyed-lays x SeekTo l = unput-lays (seek_to (byte l 2) (named_in (byte l 1) r t d)) (quiet-seek _ _).0
  obeyed-lays x Version l = tt
  obeyed-lays x ReadData l = unput-lays (read_data (rooms_of d x) false l (named_in (byte l 1) r t d)) (unput-read _ _ _ _)
  obeyed-lays x ReadDeleted l = unput-lays (read_data (rooms_of d x) true l (named_in (byte l 1) r t d)) (unput-read _ _ _ _)
  obeyed-lays x WriteData l = unput-lays (write_data (byte l 1) (id_of l) (named_in (byte l 1) r t d)) (quiet_write _ _ _).0
  obeyed-lays x ReadId l = unput-lays (read_id (byte l 1) r.index (named_in (byte l 1) r t d)) (quiet-id _ _ _).0
  obeyed-lays x FormatTrack l = format-lays x l
  obeyed-lays x Unserved l = tt
  obeyed-lays x Invalid l = unput-lays (does [] (invalid (setting_of r.setting).machine)) (quiet-invalid (setting_of r.setting).machine).0

  sent-lays : (x h : List ℕ) (b : ℕ) → LaysS (sent (rooms_of d x) (inside_of r h (slot_of r t d)) b)
  unfolding inside_of
  sent-lays x h = of-sent (λ response put. Lays put) (rooms_of d x) (inside_of r h (slot_of r t d)) tt (obeyed-lays x) (written-lays x)

-- ---- a whole byte

-- how a byte is taken
abbrev Takes : Taking → Result Sent Refusal → Type 0
Takes k (Err why) = Unit {0}
Takes k (Ok s) = s.taking ≡ k

sends-takes : (k : Taking) (e : Result Effect Refusal) → Takes k (sends k e)
sends-takes k (Err why) = tt
sends-takes k (Ok e) = refl

command-takes : (x : Setting) (s : Rooms) (b : ℕ) (l : List ℕ) (d : Drives) (i : ℕ) → Takes (Add b) (command_byte x s b l d i)
unfolding command_byte
command-takes x s b l d i = sends-takes (Add b) (command_if (eqb (length l) (bytes_for (command_of (byte l 0)))) x s (command_of (byte l 0)) l d i)

data-takes : (s : Rooms) (b : ℕ) (w : Writing) (d : Drives) → Takes (Hold b) (data_byte s b w d)
unfolding data_byte
data-takes s b w d = sends-takes (Hold b) (data_if (eqb (length w.held) (whole_of w.goal)) s w d)

module _ (r : Regs) (b : ℕ) (h t d x : List ℕ) (ok : impossible_in x r ≡ false) (nine : length r.command ≡ 9) (seven : length r.reply ≡ 7) (held : length h ≡ most_held) where
  seen-byte : (e : Result Sent Refusal) (k : Taking) → Fits k r h → Takes k e → LaysS r t d e → Sees r h t d x (left_of e r h t d x) (reported e) (after e (λ s. Ok (done (world_of r h t d x) s)))
  unfolding left_of regs_of done inside_of
  seen-byte (Err why) k g q l = refl
  seen-byte (Ok s) k g q l =
      let tk : Taking = s.taking in
      let xs : List Change = s.effect.changes in
      let sh : Response = s.effect.response in
      let r₁ : Regs = regs_taken tk r in
      let r₂ : Regs = regs_all xs r₁ in
      let h' : List ℕ = held_taken tk r h in
      let same = same_then r r₁ r₂ (same_taken tk r) (same-changes xs r₁) in
      let fit : Fits tk r h = subst (λ (z : Taking). Fits z r h) (sym q) g in
      let slot' = slot_of (regs_responded sh r₂) (table_with s.effect.put t) (data_with s.effect.put d) in
      let i : inside_of r₂ h' (slot_of r t d) ≡ all_changed xs (taken tk (inside_of r h (slot_of r t d)))
      = seen-changes xs r₁ h' (slot_of r t d) ∙ ap (all_changed xs) (seen-taken tk r h (slot_of r t d) fit) in
      let j : inside_of (regs_responded sh r₂) h' slot' ≡ inside_of r₂ h' slot' = (response-inside sh r₂ h' slot').0 in
      let m : put_in s.effect.put (inside_of r₂ h' (slot_of r t d)) ≡ inside_of r₂ h' slot'
      = seen-slot r t d s.effect.put (inside_of r₂ h' (slot_of r t d)) (regs_responded sh r₂).drive.disk l ((response-inside sh r₂ h' slot').1 ∙ same.flag) refl in
      let f : front_of (regs_responded sh r₂) (transfer_with sh x) ≡ responded sh (front_of r x)
      = seen-response sh r₂ x (same.few (possible r (possible-in x r ok)).fill-in) (same.long seven) ∙ ap (responded sh) (same.front x) in
      (refl, λ n. record { inside = (j ∙ sym m ∙ ap (put_in s.effect.put) i) n; front = f n })

  seen-sent : (f : Bool) → r.write.on ≡ f → Sees r h t d x (left_of (sent (rooms_of d x) (inside_of r h (slot_of r t d)) b) r h t d x) (report_of (rooms_of d x) (world_of r h t d x) b) (write_port (rooms_of d x) (world_of r h t d x) b)
  unfolding write_port report_of
  seen-sent true e =
      let g : r.write.taken < length h = omega (arith, taken-few (setting_of r.setting) r.write (possible r (possible-in x r ok)).write-in e, whole-most (goal_of r.write)) in
      seen-byte (sent (rooms_of d x) (inside_of r h (slot_of r t d)) b) (Hold b) g (subst (Takes (Hold b)) (sent-data r b h t d x e) (data-takes _ b _ _)) (sent-lays r t d x h b)
  seen-sent false e =
      let g : r.count < length r.command = omega (arith, count-few r (possible-in x r ok)) in
      seen-byte (sent (rooms_of d x) (inside_of r h (slot_of r t d)) b) (Add b) g (subst (Takes (Add b)) (sent-command r b h t d x e) (command-takes _ _ b _ _ _)) (sent-lays r t d x h b)

  -- a byte sent leaves, and tells, what the machine's step says of the boxes seen
  pub write-seen : Sees r h t d x (data_write r b h t d x) (report_of (rooms_of d x) (world_of r h t d x) b) (write_port (rooms_of d x) (world_of r h t d x) b)
  unfolding data_write
  write-seen =
      subst (λ (z : Result Sent Refusal). Sees r h t d x (left_of z r h t d x) (report_of (rooms_of d x) (world_of r h t d x) b) (write_port (rooms_of d x) (world_of r h t d x) b)) (sent-right r b h t d x ok held) (seen-sent r.write.on refl)

-- numbers that no controller has, and held bytes of another length, are refusal 1, and change nothing
module _ (r : Regs) (b : ℕ) (h t d x : List ℕ) where
  pub write-refused : impossible_in x r ≡ true → data_write r b h t d x ≡ left (declined BadController r) h t d x
  write-refused e = sym (write-wrong r b h t d x (declined BadController r) (wrong-numbers r h x e) refl)

  pub write-unheld : (length h ≡ most_held → ⊥) → data_write r b h t d x ≡ left (declined BadController r) h t d x
  write-unheld n = sym (write-wrong r b h t d x (declined BadController r) (wrong-length r h x n) refl)

-- whether a disk is in, seen: whether there is one in the drive
pub disk-told : (r : Regs) (h t d x : List ℕ) → impossible r ≡ false → disk_in r ≡ Ok (ready (world_of r h t d x).inside.drives.first.slot)
unfolding disk_in inside_of
disk-told r h t d x ok = rw ok (ap Ok (is-in r.drive.disk (disk_of t d)))
  where
    is-in : (f : Bool) (disk : Result Disk Refusal) → f ≡ ready (slot_if f disk)
    is-in true disk = refl
    is-in false disk = refl
