-- What each command does, from what the store answers.
use mathlib.Core.Path.{◌≡◌, refl, sym, ap, subst, ◌∙◌}
use Prim.Native.Nat.{ℕ, ◌≤◌}
use native.Mathlib.Omega.{arith}
use mathlib.Core.Bool.{Bool, true, false, cond}
use mathlib.Core.List.{List, [], ◌∷◌}
use lib.ListN.{length}
use lib.Dec.{leb}
use borrow.Author.Tests.{le-leb, leb-true}
use Rattle.buffer.specs.Over.{over}
use Rattle.fields.specs.Capacities.{most_transfer, most_held}
use Rattle.fields.specs.Refusals.{need, after}
use Rattle.fields.specs.Model.{Sector, Disk, byte_count}
use Rattle.fields.specs.declared.id.SectorId.{SectorId}
use Rattle.fields.specs.declared.refusal.Refusal.TheVariants.{NoTransferRoom, NoRoom}
use Rattle.tracks.specs.Rows.{ids_at, ids_from}
use Rattle.store.specs.Find.{Found, nothing, found}
use Rattle.store.specs.Search.{sector_at, match_at, sector_by_index, read_at}
use Rattle.store.specs.Store.{room_of, transfer_room, contents, disk_of}
use Rattle.store.specs.Calls as looks
use Rattle.disk.specs.Change.{saved, set_track}
use Rattle.disk.specs.Calls as calls
use Rattle.store.specs.declared.answer.Match.{Match}
use Rattle.store.proofs.Checks.{transfer-in}
use Rattle.codes.specs.Second.{u, head_of}
use Rattle.registers.specs.declared.regs.Goal.TheVariants.{IntoSector, IntoTrack}
use Rattle.registers.specs.declared.regs.Regs.{Regs}
use Rattle.registers.specs.declared.regs.Drive.{Drive}
use Rattle.registers.specs.declared.regs.Report.{Report}
use Rattle.registers.specs.declared.regs.Shape.{Shape}
use Rattle.registers.specs.Boxes.{setting_of, Empty, Holds, fitted, Named, seven, silent, serves, Change, Turn, Start, Finish, Effect}
use Rattle.registers.specs.Boxes.{Stay, Reply, ReplyIfNone, Serve}
use Rattle.registers.specs.View.{slot_if, rooms_of, named_in, named_as}
use Rattle.registers.specs.Settle.{accepted, declined, drive_named, replied, regs_with_unread, regs_changed, regs_all, regs_responded, regs_of}
use Rattle.registers.proofs.Drives.{drive-shown, drive-empty, drive-holds}
use Rattle.commands.specs.Commands.{byte, id_of, sizes_of, ready, tells, does, puts, no_id, missing, not_ready, sense_if, sense_drive, seek_if, seek_to}
use Rattle.commands.specs.Commands.{read_reply, served_as, read_data, start_at, write_data, write_reply, save_at, written_sector, id_given, not_ready_id, read_id}
use Rattle.commands.specs.Commands.{shape_of, track_as, format_reply, lays_track, numbered_for, format_at_once, has_phase, format_if, format_track, written_track, written_into}
use Rattle.commands.specs.Lent.{Fills, Stores, read_here, at_once_here, format_here, into_here}
use Rattle.std.specs.Prelude.{Result, Ok, Err, Option, Some, None}
use Rattle.fields.specs.declared.refusal.Refusal.{Refusal}
use Rattle.disk.specs.declared.answer.Served.{Served}
use Rattle.registers.specs.declared.regs.Answered.{Answered}

-- an answer, of which it is known what is in it
pub ok-is : {A : Type 0} (r : Result A Refusal) (x y : A) → r ≡ Ok x → x ≡ y → r ≡ Ok y
ok-is r x y e q = e ∙ ap Ok q

-- ---- Sense Drive, Recalibrate and Seek

ready-flag : (f : Bool) (disk : Result Disk Refusal) → f ≡ ready (slot_if f disk)
ready-flag true disk = refl
ready-flag false disk = refl

module _ (r : Regs) (c1 : ℕ) (t b : List ℕ) where
  pub sense-ran : accepted silent (replied (sense_if c1 (drive_named c1 r).cylinder (drive_named c1 r).disk) r)
      ≡ regs_of (does [] (Reply (sense_drive c1 (named_in c1 r t b)))) r
  unfolding regs_of regs_all regs_responded
  sense-ran =
      ap (λ (f : Bool). accepted silent (replied (sense_if c1 (drive_named c1 r).cylinder f) r)) (ready-flag (drive_named c1 r).disk (disk_of t b))
      ∙ ap (λ (n : Named). accepted silent (replied (sense_drive c1 n) r)) (sym (drive-shown r c1 t b))

  pub seek-ran : (c : ℕ) → regs_of (seek_if (fitted c1) c) r ≡ regs_of (seek_to c (named_in c1 r t b)) r
  seek-ran c = ap (λ (n : Named). regs_of (seek_to c n) r) (sym (drive-shown r c1 t b))

-- ---- the drive that is named, by what the registers tell of it

module _ (r : Regs) (c1 : ℕ) (t b : List ℕ) (d : Drive) (e : d ≡ drive_named c1 r) where
  with_none : (F : Named → Result Effect Refusal) → d.disk ≡ false → F (named_as (fitted c1) d Empty) ≡ F (named_in c1 r t b)
  with_none F q = ap F (sym (drive-empty r c1 t b d e q))

  with-disk : (F : Named → Result Effect Refusal) → d.disk ≡ true → F (named_as (fitted c1) d (Holds (disk_of t b))) ≡ F (named_in c1 r t b)
  with-disk F q = ap F (sym (drive-holds r c1 t b d e q))

-- ---- Read ID

-- by what the search answers
abbrev pub id_effect : ℕ → Result (Option SectorId) Refusal → Result Effect Refusal
id_effect c1 (Err why) = Err why
id_effect c1 (Ok None) = does (Turn ∷ []) (Reply (missing c1))
id_effect c1 (Ok (Some x)) = does (Turn ∷ []) (Reply (seven (u c1) 0 0 x))

id-named : (c1 : ℕ) (s : Found Sector) → id_effect c1 (looks.named_of s) ≡ id_given c1 s
unfolding id_given
id-named c1 nothing = refl
id-named c1 (found k s) = refl

id-disk : (c1 index : ℕ) (f : Bool) (d : Drive) (disk : Result Disk Refusal)
    → id_effect c1 (looks.id_by_index disk (head_of c1) d.cylinder index) ≡ read_id c1 index (named_as f d (Holds disk))
unfolding read_id
id-disk c1 index f d (Err why) = refl
id-disk c1 index f d (Ok x) = id-named c1 (sector_by_index x (head_of c1) d.cylinder index)

-- ---- Write Data

-- by what the search answers
abbrev pub start_effect : ℕ → SectorId → Result (Option Match) Refusal → Result Effect Refusal
start_effect c1 x (Err why) = Err why
start_effect c1 x (Ok None) = does [] (Reply (missing c1))
start_effect c1 x (Ok (Some m)) = tells (serves m) (Start c1 (IntoSector x) ∷ []) Stay

start-found : (c1 : ℕ) (x : SectorId) (m : Match) (s : Found Sector) → start_effect c1 x (looks.found_of m s) ≡ start_at c1 x m s
unfolding start_at
start-found c1 x m nothing = refl
start-found c1 x m (found k s) = refl

start-disk : (c1 : ℕ) (x : SectorId) (f : Bool) (d : Drive) (disk : Result Disk Refusal)
    → start_effect c1 x (looks.has_of disk (head_of c1) d.cylinder x) ≡ write_data c1 x (named_as f d (Holds disk))
unfolding write_data
start-disk c1 x f d (Err why) = refl
start-disk c1 x f d (Ok y) = start-found c1 x (match_at y (head_of c1) d.cylinder x) (sector_at y (head_of c1) d.cylinder x)

module _ (r : Regs) (c1 : ℕ) (t b : List ℕ) (d : Drive) (e : d ≡ drive_named c1 r) where
  pub id-none : d.disk ≡ false
      → regs_of (does [] (ReplyIfNone (not_ready c1 not_ready_id))) r ≡ regs_of (read_id c1 r.index (named_in c1 r t b)) r
  unfolding read_id
  id-none q = ap (λ (y : Result Effect Refusal). regs_of y r) (with_none r c1 t b d e (read_id c1 r.index) q)

  pub id-ran : d.disk ≡ true → (h : ℕ) → h ≡ head_of c1 → (a a' : Result (Option SectorId) Refusal) → a ≡ a' → a ≡ looks.id_by_index (disk_of t b) h d.cylinder r.index
      → regs_of (id_effect c1 a') r ≡ regs_of (read_id c1 r.index (named_in c1 r t b)) r
  id-ran q h p a a' f g =
      ap (λ (y : Result Effect Refusal). regs_of y r)
      (ap (id_effect c1) (sym f ∙ g ∙ ap (λ (y : ℕ). looks.id_by_index (disk_of t b) y d.cylinder r.index) p)
      ∙ id-disk c1 r.index (fitted c1) d (disk_of t b)
      ∙ with-disk r c1 t b d e (read_id c1 r.index) q)

  pub start_none : (x : SectorId) → d.disk ≡ false
      → regs_of (does [] (Reply (not_ready c1 no_id))) r ≡ regs_of (write_data c1 x (named_in c1 r t b)) r
  unfolding write_data
  start_none x q = ap (λ (y : Result Effect Refusal). regs_of y r) (with_none r c1 t b d e (write_data c1 x) q)

  pub start-ran : (x : SectorId) → d.disk ≡ true → (h : ℕ) → h ≡ head_of c1 → (a a' : Result (Option Match) Refusal) → a ≡ a' → a ≡ looks.has_of (disk_of t b) h d.cylinder x
      → regs_of (start_effect c1 x a') r ≡ regs_of (write_data c1 x (named_in c1 r t b)) r
  start-ran x q h p a a' f g =
      ap (λ (y : Result Effect Refusal). regs_of y r)
      (ap (start_effect c1 x) (sym f ∙ g ∙ ap (λ (y : ℕ). looks.has_of (disk_of t b) y d.cylinder x) p)
      ∙ start-disk c1 x (fitted c1) d (disk_of t b)
      ∙ with-disk r c1 t b d e (write_data c1 x) q)

-- ---- Read Data

-- by what the read answers
abbrev pub read_regs : Bool → List ℕ → Result (Option Served) Refusal → Regs → Answered Report
read_regs deleted command (Err why) r = declined why r
read_regs deleted command (Ok None) r = accepted silent (replied (missing (byte command 1)) r)
read_regs deleted command (Ok (Some got)) r =
    accepted (serves got.sector) (replied (read_reply deleted command got.total got.sizes got.st1.bits got.st2.bits) (regs_with_unread 0 got.total r.lost r))

-- the answer, and the transfer buffer, of what was filled
answer-of : calls.Filled → Result (Option Served) Refusal
answer-of (calls.filled a x') = a

buffer-of : calls.Filled → List ℕ
buffer-of (calls.filled a x') = x'

module _ (r : Regs) (deleted : Bool) (command b x : List ℕ) where
  -- a read's answer and the transfer buffer are the effect's
  abbrev pub Read : Result Effect Refusal → Result (Option Served) Refusal → List ℕ → Type 0
  Read e a x' = Fills e r x (read_regs deleted command a r) x'

  abbrev Serving : Match → List Sector → Result Effect Refusal
  Serving m ss = served_as (rooms_of b x) deleted command m ss

  read-like : (f : calls.Filled) (e : Result Effect Refusal) → Read e (answer-of f) (buffer-of f) → (a : Result (Option Served) Refusal) (x' : List ℕ) → calls.filled a x' ≡ f → Read e a x'
  unfolding answer-of buffer-of
  read-like f e h a x' q =
      (ap (λ (g : calls.Filled). read_regs deleted command (answer-of g) r) q ∙ h.0, ap buffer-of q ∙ h.1)

  fit-read : (v : Bool) (m : Match) (s : Sector) (ss : List Sector) (f : calls.Filled)
      → f ≡ cond v (calls.filled (calls.reading_of m s ss) (over x 0 (contents (s ∷ ss)))) (calls.filled (Err NoTransferRoom) x)
      → Read (need v NoTransferRoom (tells (serves m) [] (Serve (contents (s ∷ ss))
      (read_reply deleted command (length (contents (s ∷ ss))) (sizes_of (s ∷ ss)) s.st1.bits s.st2.bits)))) (answer-of f) (buffer-of f)
  unfolding answer-of buffer-of regs_of regs_all regs_responded
  fit-read true m s ss f q = rw q (refl, refl)
  fit-read false m s ss f q = rw q (refl, refl)

  all_read : (m : Match) (ss : List Sector) → Read (Serving m ss) (answer-of (calls.filled_of x m ss)) (buffer-of (calls.filled_of x m ss))
  unfolding served_as
  all_read m [] = unfold answer-of buffer-of regs_of regs_all regs_responded in (refl, refl)
  all_read m (s ∷ ss) = fit-read (leb (length (contents (s ∷ ss))) (transfer_room x)) m s ss _ refl

  disk-read : (side cylinder eot : ℕ) (n : SectorId) (disk : Result Disk Refusal) → let f = calls.filled_from x side cylinder n eot disk in
      Read (after disk (λ y. Serving (match_at y side cylinder n) (read_at y side cylinder n eot))) (answer-of f) (buffer-of f)
  disk-read side cylinder eot n (Err why) = unfold answer-of buffer-of regs_of in (refl, refl)
  disk-read side cylinder eot n (Ok y) = all_read (match_at y side cylinder n) (read_at y side cylinder n eot)

  module _ (t : List ℕ) (d : Drive) (e : d ≡ drive_named (byte command 1) r) where
    abbrev ReadAs : Named → Result Effect Refusal
    ReadAs = read_data (rooms_of b x) deleted command

    pub read_none : d.disk ≡ false
        → Fills (read_here deleted command r t b x) r x (accepted silent (replied (not_ready (byte command 1) (id_of command)) r)) x
    unfolding read_data regs_of regs_all regs_responded
    read_none q =
        subst (λ (y : Result Effect Refusal). Fills y r x (accepted silent (replied (not_ready (byte command 1) (id_of command)) r)) x)
        (with_none r (byte command 1) t b d e ReadAs q) (refl, refl)

    pub read-ran : (h : ℕ) → h ≡ head_of (byte command 1) → (n : SectorId) → n ≡ id_of command
        → (a a' : Result (Option Served) Refusal) (x' : List ℕ) → d.disk ≡ true → a ≡ a'
        → calls.filled a x' ≡ calls.read_of t b h d.cylinder n (byte command 6) x → Read (read_here deleted command r t b x) a' x'
    unfolding read_data calls.read_of
    read-ran h p n g a a' x' q f w =
        let z : calls.filled a' x' ≡ calls.filled_from x (head_of (byte command 1)) d.cylinder (id_of command) (byte command 6) (disk_of t b) =
        ap (λ (y : Result (Option Served) Refusal). calls.filled y x') (sym f) ∙ w
        ∙ (λ i. calls.filled_from x (p i) d.cylinder (g i) (byte command 6) (disk_of t b)) in
        subst (λ (y : Result Effect Refusal). Read y a' x') (with-disk r (byte command 1) t b d e ReadAs q)
        (read-like _ _ (disk-read (head_of (byte command 1)) d.cylinder (byte command 6) (id_of command) (disk_of t b)) a' x' z)

-- no read is longer than the greatest transfer room
abbrev Short : Result (Option Served) Refusal → Type 0
Short (Err why) = Unit {0}
Short (Ok None) = Unit {0}
Short (Ok (Some got)) = got.total ≤ most_transfer

fit-short : (v : Bool) (m : Match) (s : Sector) (ss : List Sector) (x : List ℕ) → leb (length (contents (s ∷ ss))) (transfer_room x) ≡ v
    → Short (answer-of (cond v (calls.filled (calls.reading_of m s ss) (over x 0 (contents (s ∷ ss)))) (calls.filled (Err NoTransferRoom) x)))
unfolding answer-of
fit-short true m s ss x e = omega (arith, leb-true (length (contents (s ∷ ss))) (transfer_room x) e, transfer-in x)
fit-short false m s ss x e = tt

all_short : (x : List ℕ) (m : Match) (ss : List Sector) → Short (answer-of (calls.filled_of x m ss))
all_short x m [] = unfold answer-of in tt
all_short x m (s ∷ ss) = fit-short (leb (length (contents (s ∷ ss))) (transfer_room x)) m s ss x refl

disk-short : (x : List ℕ) (side cylinder eot : ℕ) (n : SectorId) (disk : Result Disk Refusal) → Short (answer-of (calls.filled_from x side cylinder n eot disk))
disk-short x side cylinder eot n (Err why) = unfold answer-of in tt
disk-short x side cylinder eot n (Ok d) = all_short x (match_at d side cylinder n) (read_at d side cylinder n eot)

pub read_short : (t b : List ℕ) (side cylinder eot : ℕ) (n : SectorId) (x x' : List ℕ) (a a' : Result (Option Served) Refusal) → a ≡ a'
    → calls.filled a x' ≡ calls.read_of t b side cylinder n eot x → Short a'
unfolding answer-of calls.read_of
read_short t b side cylinder eot n x x' a a' f e = subst Short (sym (ap answer-of e) ∙ f) (disk-short x side cylinder eot n (disk_of t b))

-- ---- Format

-- a track that is laid, with what the changes leave of the registers
module _ (r : Regs) (xs : List Change) (c1 : ℕ) (z : Shape) (t b : List ℕ) where
  -- by what `set_track` answers
  abbrev pub laid_regs : Result (Unit {0}) Refusal → Answered Report
  laid_regs (Err why) = declined why r
  laid_regs (Ok tt) = accepted silent (replied (format_reply c1 z.size) (regs_all xs r))

  abbrev Laid : Result Effect Refusal → looks.Outcome (Result (Unit {0}) Refusal) → Type 0
  Laid y (looks.outcome a t' b') = Stores y r t b (laid_regs a) t' b'

  abbrev Put : Disk → Result Effect Refusal
  Put new = puts silent xs new (format_reply c1 z.size)

  laid-new : (new : Result Disk Refusal) → Laid (after new Put) (looks.laid t b new)
  unfolding regs_of regs_responded
  laid-new (Err why) = (refl, (refl, refl))
  laid-new (Ok y) = (refl, (refl, refl))

  laid-disk : (disk : Result Disk Refusal) (F : Disk → Result Disk Refusal) → Laid (after disk (λ y. after (F y) Put)) (looks.laid t b (after disk F))
  laid-disk (Err why) F = unfold regs_of in (refl, (refl, refl))
  laid-disk (Ok y) F = laid-new (F y)

  laid-ran : (cylinder : ℕ) (ids : List SectorId) (a a' : Result (Unit {0}) Refusal) (t' b' : List ℕ) → a ≡ a'
      → looks.outcome a t' b' ≡ calls.set_of (head_of c1) cylinder (track_as c1 cylinder z ids) t b
      → (x : List ℕ) → Stores (after (disk_of t b) (λ y. lays_track (rooms_of b x) xs c1 cylinder z ids y)) r t b (laid_regs a') t' b'
  unfolding lays_track calls.set_of
  laid-ran cylinder ids a a' t' b' f w x =
      let F : Disk → Result Disk Refusal = λ y. looks.fitting (room_of b) (set_track (head_of c1) cylinder (track_as c1 cylinder z ids) y) in
      subst (λ (y : Result (Unit {0}) Refusal). Stores (after (disk_of t b) (λ y. after (F y) Put)) r t b (laid_regs y) t' b') f
      (subst (Laid (after (disk_of t b) (λ y. after (F y) Put))) (sym w) (laid-disk (disk_of t b) F))

-- the track whose IDs were numbered is the one that the command asks for
pub track-numbered : (command : List ℕ) (cylinder h : ℕ) (ids t b : List ℕ) (z : Shape) → h ≡ head_of (byte command 1) → z ≡ shape_of command
    → ids_at ids 0 (byte command 3) ≡ ids_from cylinder h (byte command 2) 1 (byte command 3)
    → calls.set_of (head_of (byte command 1)) cylinder (track_as (byte command 1) cylinder z (ids_at ids 0 z.sectors)) t b
    ≡ calls.set_of (head_of (byte command 1)) cylinder (track_as (byte command 1) cylinder (shape_of command) (numbered_for command cylinder)) t b
track-numbered command cylinder h ids t b z p g q =
    let laid : Shape → List SectorId → looks.Outcome (Result (Unit {0}) Refusal) = λ y l. calls.set_of (head_of (byte command 1)) cylinder (track_as (byte command 1) cylinder y l) t b in
    ap (λ (y : Shape). laid y (ids_at ids 0 y.sectors)) g
    ∙ ap (laid (shape_of command)) (q ∙ ap (λ (k : ℕ). ids_from cylinder k (byte command 2) 1 (byte command 3)) p)

-- whether the drive that is named has a disk in
named-ready : (r : Regs) (c1 : ℕ) (t b : List ℕ) → (drive_named c1 r).disk ≡ ready (named_in c1 r t b).slot
named-ready r c1 t b = ready-flag (drive_named c1 r).disk (disk_of t b) ∙ ap (λ (n : Named). ready n.slot) (sym (drive-shown r c1 t b))

module _ (r : Regs) (command t b : List ℕ) where
  module _ (d : Drive) (e : d ≡ drive_named (byte command 1) r) (x : List ℕ) where
    abbrev AtOnce : Named → Result Effect Refusal
    AtOnce = format_at_once (rooms_of b x) command

    pub format-none : d.disk ≡ false
        → let n : SectorId = record { c = d.cylinder; h = head_of (byte command 1); r = 0; n = byte command 2 } in
        Stores (at_once_here command r t b x) r t b (accepted silent (replied (not_ready (byte command 1) n) r)) t b
    unfolding format_at_once regs_of regs_all regs_responded
    format-none q =
        let n : SectorId = record { c = d.cylinder; h = head_of (byte command 1); r = 0; n = byte command 2 } in
        subst (λ (y : Result Effect Refusal). Stores y r t b (accepted silent (replied (not_ready (byte command 1) n) r)) t b)
        (with_none r (byte command 1) t b d e AtOnce q) (refl, (refl, refl))

    pub format-ran : (a a' : Result (Unit {0}) Refusal) (t' b' : List ℕ) → d.disk ≡ true → a ≡ a'
        → looks.outcome a t' b' ≡ calls.set_of (head_of (byte command 1)) d.cylinder (track_as (byte command 1) d.cylinder (shape_of command) (numbered_for command d.cylinder)) t b
        → Stores (at_once_here command r t b x) r t b (laid_regs r [] (byte command 1) (shape_of command) t b a') t' b'
    unfolding format_at_once
    format-ran a a' t' b' q f w =
        subst (λ (y : Result Effect Refusal). Stores y r t b (laid_regs r [] (byte command 1) (shape_of command) t b a') t' b') (with-disk r (byte command 1) t b d e AtOnce q)
        (laid-ran r [] (byte command 1) (shape_of command) t b d.cylinder (numbered_for command d.cylinder) a a' t' b' f w x)

  -- by whether there is an execution phase
  format-by : (v : Bool) → v ≡ has_phase (setting_of r.setting).machine (byte command 3) (drive_named (byte command 1) r).disk
      → (x : List ℕ) → format_if v (rooms_of b x) command (named_in (byte command 1) r t b) ≡ format_here command r t b x
  unfolding format_track
  format-by v e x =
      ap (λ (f : Bool). format_if f (rooms_of b x) command (named_in (byte command 1) r t b))
      (e ∙ ap (has_phase (setting_of r.setting).machine (byte command 3)) (named-ready r (byte command 1) t b))

  pub format-phase : (v : Bool) → v ≡ has_phase (setting_of r.setting).machine (byte command 3) (drive_named (byte command 1) r).disk → v ≡ true
      → (x : List ℕ) → Stores (format_here command r t b x) r t b (accepted silent (regs_changed (Start (byte command 1) (IntoTrack (shape_of command))) r)) t b
  unfolding regs_of regs_all regs_responded
  format-phase v e q x =
      subst (λ (y : Result Effect Refusal). Stores y r t b (accepted silent (regs_changed (Start (byte command 1) (IntoTrack (shape_of command))) r)) t b)
      (format-by true (sym q ∙ e) x) (refl, (refl, refl))

  pub format-whole : (v : Bool) → v ≡ has_phase (setting_of r.setting).machine (byte command 3) (drive_named (byte command 1) r).disk → v ≡ false
      → (a : Answered Report) (t' b' x : List ℕ) → Stores (at_once_here command r t b x) r t b a t' b' → Stores (format_here command r t b x) r t b a t' b'
  format-whole v e q a t' b' x h = subst (λ (y : Result Effect Refusal). Stores y r t b a t' b') (format-by false (sym q ∙ e) x) h

-- the end of an execution phase
module _ (r : Regs) (z : Shape) (t b ids : List ℕ) (d : Drive) (e : d ≡ drive_named r.write.c1 r) (x : List ℕ) where
  abbrev TrackAs : Named → Result Effect Refusal
  TrackAs = written_into (IntoTrack z) (rooms_of b x) r.write.c1 ids

  pub track-none : d.disk ≡ false
      → Stores (into_here (IntoTrack z) ids r t b x) r t b (laid_regs r (Finish ∷ []) r.write.c1 z t b (Ok tt)) t b
  unfolding written_into written_track regs_of regs_responded
  track-none q =
      subst (λ (y : Result Effect Refusal). Stores y r t b (laid_regs r (Finish ∷ []) r.write.c1 z t b (Ok tt)) t b)
      (with_none r r.write.c1 t b d e TrackAs q) (refl, (refl, refl))

  pub track-ran : (a a' : Result (Unit {0}) Refusal) (t' b' : List ℕ) → d.disk ≡ true → a ≡ a'
      → looks.outcome a t' b' ≡ calls.set_of (head_of r.write.c1) d.cylinder (track_as r.write.c1 d.cylinder z (ids_at ids 0 z.sectors)) t b
      → Stores (into_here (IntoTrack z) ids r t b x) r t b (laid_regs r (Finish ∷ []) r.write.c1 z t b a') t' b'
  unfolding written_into written_track
  track-ran a a' t' b' q f w =
      subst (λ (y : Result Effect Refusal). Stores y r t b (laid_regs r (Finish ∷ []) r.write.c1 z t b a') t' b') (with-disk r r.write.c1 t b d e TrackAs q)
      (laid-ran r (Finish ∷ []) r.write.c1 z t b d.cylinder (ids_at ids 0 z.sectors) a a' t' b' f w x)

-- ---- The end of a write

module _ (r : Regs) (id : SectorId) (t b held : List ℕ) (few : length held ≤ most_held) (d : Drive) (e : d ≡ drive_named r.write.c1 r) where
  abbrev pub Told : Report → Answered Report
  Told x = accepted x (replied (write_reply r.write.c1 id) (regs_changed Finish r))

  -- by what `save` answers
  abbrev pub save_regs : Result (Option Match) Refusal → Answered Report
  save_regs (Err why) = declined why r
  save_regs (Ok None) = Told silent
  save_regs (Ok (Some m)) = Told (serves m)

  abbrev Saving : Result Effect Refusal → looks.Outcome (Result (Option Match) Refusal) → Type 0
  Saving y (looks.outcome a t' b') = Stores y r t b (save_regs a) t' b'

  put-saved : (v : Bool) (m : Match) (y : Disk)
      → Saving (need v NoRoom (puts (serves m) (Finish ∷ []) y (write_reply r.write.c1 id)))
      (looks.laid_as Err (Ok (Some m)) t b (need true NoRoom (need v NoRoom (Ok y))))
  unfolding regs_of regs_all regs_responded
  put-saved true m y = (refl, (refl, refl))
  put-saved false m y = (refl, (refl, refl))

  module _ (x : List ℕ) where
    abbrev WrittenAs : Named → Result Effect Refusal
    WrittenAs = written_into (IntoSector id) (rooms_of b x) r.write.c1 held

    at-saved : (m : Match) (y : Disk) (s : Found Sector)
        → Saving (save_at (rooms_of b x) r.write.c1 id m y s) (calls.save_found t b (length held) m y s)
    unfolding save_at
    at-saved m y nothing = unfold regs_of regs_all regs_responded in (refl, (refl, refl))
    at-saved m y (found k s) =
        let z : leb (length held) 65535 ≡ true = le-leb (length held) 65535 (omega (arith, few)) in
        rw z (put-saved (leb (byte_count y) (room_of b)) m y)

    disk-saved : (f : Bool) (disk : Result Disk Refusal)
        → Saving (WrittenAs (named_as f d (Holds disk))) (calls.save_in t b (head_of r.write.c1) d.cylinder id held disk)
    unfolding written_into written_sector
    disk-saved f (Err why) = unfold regs_of in (refl, (refl, refl))
    disk-saved f (Ok y) =
        at-saved (match_at y (head_of r.write.c1) d.cylinder id)
        (saved (head_of r.write.c1) d.cylinder id held y) (sector_at y (head_of r.write.c1) d.cylinder id)

    pub finish-none : d.disk ≡ false → Stores (into_here (IntoSector id) held r t b x) r t b (Told silent) t b
    unfolding written_into written_sector regs_of regs_all regs_responded
    finish-none q = subst (λ (y : Result Effect Refusal). Stores y r t b (Told silent) t b) (with_none r r.write.c1 t b d e WrittenAs q) (refl, (refl, refl))

    pub finish-ran : (h : ℕ) → h ≡ head_of r.write.c1 → (a a' : Result (Option Match) Refusal) (t' b' : List ℕ) → d.disk ≡ true → a ≡ a'
        → looks.outcome a t' b' ≡ calls.save_of t b h d.cylinder id held
        → Stores (into_here (IntoSector id) held r t b x) r t b (save_regs a') t' b'
    unfolding calls.save_of
    finish-ran h p a a' t' b' q f w =
        let z : looks.outcome a' t' b' ≡ calls.save_in t b (head_of r.write.c1) d.cylinder id held (disk_of t b) =
        ap (λ (y : Result (Option Match) Refusal). looks.outcome y t' b') (sym f) ∙ w ∙ ap (λ (y : ℕ). calls.save_in t b y d.cylinder id held (disk_of t b)) p in
        subst (λ (y : Result Effect Refusal). Stores y r t b (save_regs a') t' b') (with-disk r r.write.c1 t b d e WrittenAs q)
        (subst (Saving (WrittenAs (named_as (fitted r.write.c1) d (Holds (disk_of t b))))) (sym z) (disk-saved (fitted r.write.c1) (disk_of t b)))
