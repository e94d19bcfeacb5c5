-- What is true of the effect of every command and of every write that ends: its changes and its response keep possible numbers possible, what it
-- lays fits the rooms that are lent, and where it refuses, it is not refusal 1, and refusal 2 only where the store breaks the layout.
use mathlib.Core.Path.{◌≡◌, refl, sym, ap, subst, ◌∙◌}
use Prim.Native.Nat.{ℕ, ◌*◌, ◌≤◌, ◌<◌, min}
use native.Mathlib.Omega.{arith}
use mathlib.Core.Bool.{Bool, true, false}
use mathlib.Core.List.{List, [], ◌∷◌}
use mathlib.Core.Option.{Option, none, some}
use lib.ListN.{length}
use lib.Dec.{eqb, leb}
use borrow.Author.Tests.{leb-true, eqb-false, not-true}
use Rattle.buffer.specs.Over.{over}
use Rattle.buffer.proofs.Overs.{over-length}
use Rattle.fields.specs.Capacities.{most_tracks, most_sectors, most_data, most_transfer}
use Rattle.fields.specs.Refusals.{need, after}
use Rattle.fields.specs.Model.{Sector, Disk, sector_count, byte_count}
use Rattle.fields.specs.declared.id.SectorId.{SectorId}
use Rattle.fields.specs.declared.refusal.Refusal.{Refusal}
use Rattle.fields.specs.declared.refusal.Refusal.TheVariants.{BadController, BadStore, ShortImage, NotAnImage, NotATrack}
use Rattle.fields.specs.declared.refusal.Refusal.TheVariants.{TooManyTracks, TooManySectors, NoRoom, NoTransferRoom, LongInput, BadSheet, NoImage, ShortBuffer}
use Rattle.fields.proofs.Sizes.{size-pos}
use Rattle.fields.proofs.Tests.{never}
use Rattle.store.specs.Find.{Found, nothing, found}
use Rattle.store.specs.Search.{sector_at, match_at, sector_by_index, read_at}
use Rattle.store.specs.declared.answer.Match.{Match}
use Rattle.store.specs.Store.{room_of, transfer_room, contents, data_of, disk_of}
use Rattle.store.specs.Calls.{within, fitting}
use Rattle.store.proofs.Checks.{room_in, transfer-in, disk-bad, disk-good}
use Rattle.store.specs.Store as store
use Rattle.store.proofs.Rounds.{data-length}
use Rattle.disk.specs.Change.{set_track}
use Rattle.codes.specs.declared.command.Command.{Command}
use Rattle.codes.specs.declared.command.Command.TheVariants.{Specify, SenseDrive, Recalibrate, SenseInterrupt, SeekTo, Version, ReadData, ReadDeleted, WriteData, ReadId, FormatTrack, Unserved, Invalid}
use Rattle.registers.specs.Boxes.{Machine, Rust, DataSheet, Setting, Rooms, Slot, Empty, Holds, Drives, Writing, Named, fitted, named_if, named, seven, silent, serves}
use Rattle.registers.specs.Boxes.{Change, Finish, Response, Stay, Reply, ReplyIfNone, Seeking, Interrupt, Serve, Effect}
use Rattle.registers.specs.declared.regs.Goal.{Goal}
use Rattle.registers.specs.declared.regs.Goal.TheVariants.{IntoSector, IntoTrack}
use Rattle.registers.specs.declared.regs.Shape.{Shape}
use Rattle.registers.specs.View.{rooms_of, slot_if, is_rust, wrong_work}
use Rattle.registers.proofs.Numbers.{work-rest}
use Rattle.codes.specs.Second.{head_of}
use Rattle.commands.specs.Commands.{byte, id_of, when_ready, tells, does, puts, missing, sense_if, ready, seek_if, no_seek, invalid, read_reply, served_as, read_data, start_at, write_data, write_reply, save_at, written_sector, id_given, read_id, shape_of, track_as, format_reply, lays_track, format_at_once, has_phase, format_if, format_track, written_track, written_into, written, obeyed}
use Rattle.commands.specs.Lent.{data_with, transfer_with}
use Rattle.registers.specs.Possible.{AllFair, Short}
use Rattle.saves.specs.Stages.{Unbroken}
use Rattle.std.specs.Prelude.{Result, Ok, Err}

-- ---- refusals

-- what a byte may be refused with: 6, 7, 8 and 9, and 2 where the store breaks the layout
abbrev pub MayRefuse : Type 0 → Refusal → Type 0
MayRefuse Bad BadController = ⊥
MayRefuse Bad BadStore = Bad
MayRefuse Bad ShortImage = ⊥
MayRefuse Bad NotAnImage = ⊥
MayRefuse Bad NotATrack = ⊥
MayRefuse Bad TooManyTracks = Unit {0}
MayRefuse Bad TooManySectors = Unit {0}
MayRefuse Bad NoRoom = Unit {0}
MayRefuse Bad NoTransferRoom = Unit {0}
MayRefuse Bad LongInput = ⊥
MayRefuse Bad BadSheet = ⊥
MayRefuse Bad NoImage = ⊥
MayRefuse Bad ShortBuffer = ⊥

-- what is in a drive: a store that is refused is refused for itself
abbrev pub Clean : Type 0 → Slot → Type 0
Clean Bad Empty = Unit {0}
Clean Bad (Holds (Err why)) = MayRefuse Bad why
Clean Bad (Holds (Ok d)) = Unit {0}

-- what is in the drive is a store that breaks the layout
abbrev pub Breaks : Slot → Type 0
Breaks slot = Unbroken slot → ⊥

pub store-clean : (f : Bool) (t b : List ℕ) → let slot : Slot = slot_if f (disk_of t b) in Clean (Breaks slot) slot
store-clean false t b = tt
store-clean true t b = go (store.well_laid t (room_of b)) refl
  where
    Fine : Result Disk Refusal → Type 0
    Fine y = Clean (Breaks (Holds y)) (Holds y)

    go : (v : Bool) → store.well_laid t (room_of b) ≡ v → Fine (disk_of t b)
    go true e = subst Fine (sym (disk-good t b e)) tt
    go false e = subst Fine (sym (disk-bad t b e)) (λ h. h)

-- ---- effects

-- a disk that is put fits the room
abbrev pub Fits : Rooms → Option Disk → Type 0
Fits s none = Unit {0}
Fits s (some y) = byte_count y ≤ s.room

-- a drive in which there is a disk is fitted
ready-fitted : (c1 : ℕ) (d : Drives) → ready (named c1 d).slot ≡ true → fitted c1 ≡ true
unfolding named
ready-fitted c1 d e = go (fitted c1) e
  where
    go : (v : Bool) → ready (named_if v d.first).slot ≡ true → v ≡ true
    go true q = refl
    go false q = never (cc)

-- a Format has an execution phase in the data-sheet machine, where the drive is ready, and with sectors
phase-is : (m : Machine) (n : ℕ) (f : Bool) → has_phase m n f ≡ true → (is_rust m ≡ false) × ((f ≡ true) × (n ≡ 0 → ⊥))
phase-is Rust n f e = never (cc)
phase-is DataSheet n true e = (refl, (refl, eqb-false n 0 (not-true (eqb n 0) e)))
phase-is DataSheet n false e = never (cc)

-- what it names is as clean as what is in the first drive
named-clean : (Bad : Type 0) (c1 : ℕ) (d : Drives) → Clean Bad d.first.slot → Clean Bad (named c1 d).slot
unfolding named
named-clean Bad c1 d c = go (fitted c1)
  where
    go : (v : Bool) → Clean Bad (named_if v d.first).slot
    go true = c
    go false = tt

-- a track that is laid, whatever is changed inside
module _ (Bad : Type 0) (s : Rooms) (P : Result Effect Refusal → Type 0) (xs : List Change) where
  laid_as : (c1 c : ℕ) (z : Shape) (ids : List SectorId) (y : Disk) → ((why : Refusal) → MayRefuse Bad why → P (Err why))
      → ((new : Disk) → byte_count new ≤ s.room → P (puts silent xs new (format_reply c1 z.size))) → P (lays_track s xs c1 c z ids y)
  unfolding lays_track within
  laid_as c1 c z ids y denies lays = fits (set_track (head_of c1) c (track_as c1 c z ids) y)
    where
      all : (p q v : Bool) (new : Disk) → leb (byte_count new) s.room ≡ v
          → P (after (need p TooManyTracks (need q TooManySectors (need v NoRoom (Ok new)))) (λ n. puts silent xs n (format_reply c1 z.size)))
      all false q v new e = denies TooManyTracks tt
      all true false v new e = denies TooManySectors tt
      all true true false new e = denies NoRoom tt
      all true true true new e = lays new (leb-true (byte_count new) s.room e)

      fits : (new : Disk) → P (after (fitting s.room new) (λ n. puts silent xs n (format_reply c1 z.size)))
      fits new = all (leb (length new) most_tracks) (leb (sector_count new) most_sectors) (leb (byte_count new) s.room) new refl

module _ (σ : Setting) (Bad : Type 0) (s : Rooms) where
  abbrev pub Proper : Result Effect Refusal → Type 0
  Proper (Err why) = MayRefuse Bad why
  Proper (Ok e) = AllFair σ e.changes × (Short s.transfer e.response × Fits s e.put)

  -- a command that looks at a drive finds none, a store that is refused for itself, or a disk
  looks : (slot : Slot) (e : Result Effect Refusal) (f : Disk → Result Effect Refusal) → Clean Bad slot → Proper e → ((y : Disk) → slot ≡ Holds (Ok y) → Proper (f y)) → Proper (when_ready slot e f)
  looks Empty e f c p q = p
  looks (Holds (Err why)) e f c p q = c
  looks (Holds (Ok y)) e f c p q = q y refl

  seven-short : (a b c : ℕ) (id : SectorId) → length (seven a b c id) ≤ 7
  seven-short a b c id = omega arith

  seek-proper : (f : Bool) (c : ℕ) → Proper (seek_if f c)
  unfolding seek_if
  seek-proper true c = ((tt, tt), (tt, tt))
  seek-proper false c = (tt, (tt, tt))

  sense-short : (c1 c : ℕ) (f : Bool) → length (sense_if c1 c f) ≤ 7
  unfolding sense_if
  sense-short c1 c true = omega arith
  sense-short c1 c false = omega arith

  read-proper : (deleted : Bool) (l : List ℕ) (d : Named) → Clean Bad d.slot → Proper (read_data s deleted l d)
  unfolding read_data served_as
  read-proper deleted l d c =
      looks d.slot _ _ c (tt, (omega arith, tt)) (λ y q. served (match_at y (head_of (byte l 1)) d.cylinder (id_of l)) (read_at y (head_of (byte l 1)) d.cylinder (id_of l) (byte l 6)))
    where
      fits : (v : Bool) (m : Match) (bytes reply : List ℕ) → leb (length bytes) s.transfer ≡ v → length reply ≤ 7 → Proper (need v NoTransferRoom (tells (serves m) [] (Serve bytes reply)))
      fits true m bytes reply e g = (tt, ((leb-true (length bytes) s.transfer e, g), tt))
      fits false m bytes reply e g = tt

      served : (m : Match) (ss : List Sector) → Proper (served_as s deleted l m ss)
      served m [] = (tt, (unfold missing in omega arith, tt))
      served m (z ∷ ss) = fits (leb (length (contents (z ∷ ss))) s.transfer) m (contents (z ∷ ss)) _ refl (unfold read_reply in omega arith)

  write-proper : (c1 : ℕ) (id : SectorId) (d : Drives) → Clean Bad d.first.slot → Proper (write_data c1 id (named c1 d))
  unfolding write_data start_at
  write-proper c1 id d c =
      looks (named c1 d).slot _ _ (named-clean Bad c1 d c) (tt, (omega arith, tt))
      (λ y q. by (ready-fitted c1 d (ap ready q)) (match_at y (head_of c1) (named c1 d).cylinder id) (sector_at y (head_of c1) (named c1 d).cylinder id))
    where
      by : fitted c1 ≡ true → (m : Match) (z : Found Sector) → Proper (start_at c1 id m z)
      by f m nothing = (tt, (unfold missing in omega arith, tt))
      by f m (found k z) = ((work-rest σ c1 (IntoSector id) 0 (size-pos id.n) f, tt), (tt, tt))

  read-id-proper : (c1 index : ℕ) (d : Named) → Clean Bad d.slot → Proper (read_id c1 index d)
  unfolding read_id id_given
  read-id-proper c1 index d c = looks d.slot _ _ c (tt, (omega arith, tt)) (λ y q. by (sector_by_index y (head_of c1) d.cylinder index))
    where
      by : (z : Found Sector) → Proper (id_given c1 z)
      by nothing = ((tt, tt), (unfold missing in omega arith, tt))
      by (found k z) = ((tt, tt), (omega arith, tt))

  format-proper : (l : List ℕ) (d : Drives) → Clean Bad d.first.slot → Proper (format_track σ s l (named (byte l 1) d))
  unfolding format_track format_at_once
  format-proper l d c = go (has_phase σ.machine (byte l 3) (ready (named (byte l 1) d).slot)) refl
    where
      starts : has_phase σ.machine (byte l 3) (ready (named (byte l 1) d).slot) ≡ true → wrong_work σ (byte l 1) (IntoTrack (shape_of l)) 0 ≡ false
      starts e =
          let p = phase-is σ.machine (byte l 3) (ready (named (byte l 1) d).slot) e in
          let more : 0 < 4 * min (byte l 3) 255 = omega (arith, p.1.1) in
          work-rest σ (byte l 1) (IntoTrack (shape_of l)) 0 more (ready-fitted (byte l 1) d p.1.0) ∙ p.0

      go : (v : Bool) → has_phase σ.machine (byte l 3) (ready (named (byte l 1) d).slot) ≡ v → Proper (format_if v s l (named (byte l 1) d))
      go true e = ((starts e, tt), (tt, tt))
      go false e =
          looks (named (byte l 1) d).slot _ _ (named-clean Bad (byte l 1) d c) (tt, (omega arith, tt))
          (λ y q. laid_as Bad s Proper [] (byte l 1) _ (shape_of l) _ y (λ why m. m) (λ new h. (tt, (omega arith, h))))

  -- what is told of no seek, and of an invalid byte
  no-seek-short : (m : Machine) (c : ℕ) → length (no_seek m c) ≤ 7
  no-seek-short Rust c = omega arith
  no-seek-short DataSheet c = omega arith

  invalid-short : (m : Machine) → Short s.transfer (invalid m)
  invalid-short Rust = tt
  invalid-short DataSheet = omega arith

  pub obeyed-proper : (k : Command) (l : List ℕ) (d : Drives) (index : ℕ) → Clean Bad d.first.slot → Proper (obeyed σ s k l d index)
  unfolding obeyed
  obeyed-proper Specify l d i c = (tt, (tt, tt))
  obeyed-proper SenseDrive l d i c = (tt, (sense-short (byte l 1) (named (byte l 1) d).cylinder (ready (named (byte l 1) d).slot), tt))
  obeyed-proper Recalibrate l d i c = seek-proper (named (byte l 1) d).fitted 0
  obeyed-proper SenseInterrupt l d i c = (tt, (no-seek-short σ.machine d.first.cylinder, tt))
  obeyed-proper SeekTo l d i c = seek-proper (named (byte l 1) d).fitted (byte l 2)
  obeyed-proper Version l d i c = (tt, (omega arith, tt))
  obeyed-proper ReadData l d i c = read-proper false l (named (byte l 1) d) (named-clean Bad (byte l 1) d c)
  obeyed-proper ReadDeleted l d i c = read-proper true l (named (byte l 1) d) (named-clean Bad (byte l 1) d c)
  obeyed-proper WriteData l d i c = write-proper (byte l 1) (id_of l) d c
  obeyed-proper ReadId l d i c = read-id-proper (byte l 1) i (named (byte l 1) d) (named-clean Bad (byte l 1) d c)
  obeyed-proper FormatTrack l d i c = format-proper l d c
  obeyed-proper Unserved l d i c = (tt, (tt, tt))
  obeyed-proper Invalid l d i c = (tt, (invalid-short σ.machine, tt))

module _ (Bad : Type 0) (s : Rooms) where
  -- a write that ends is done with, and does no more inside
  abbrev pub Ends : Result Effect Refusal → Type 0
  Ends (Err why) = MayRefuse Bad why
  Ends (Ok e) = (e.changes ≡ Finish ∷ []) × (Short s.transfer e.response × Fits s e.put)

  -- one that looks at its drive
  ends_at : (slot : Slot) (reply : List ℕ) (f : Disk → Result Effect Refusal) → Clean Bad slot → length reply ≤ 7 → ((y : Disk) → Ends (f y))
      → Ends (when_ready slot (does (Finish ∷ []) (Reply reply)) f)
  ends_at Empty reply f c h q = (refl, (h, tt))
  ends_at (Holds (Err why)) reply f c h q = c
  ends_at (Holds (Ok y)) reply f c h q = q y

  sector-ends : (c1 : ℕ) (id : SectorId) (held : List ℕ) (d : Named) → Clean Bad d.slot → Ends (written_sector s c1 id held d)
  unfolding written_sector save_at write_reply
  sector-ends c1 id held d c = ends_at d.slot _ _ c (omega arith) (λ y. by _ _ (sector_at y (head_of c1) d.cylinder id))
    where
      fits : (v : Bool) (m : Match) (new : Disk) → leb (byte_count new) s.room ≡ v → Ends (need v NoRoom (puts (serves m) (Finish ∷ []) new (write_reply c1 id)))
      fits true m new e = (refl, (omega arith, leb-true (byte_count new) s.room e))
      fits false m new e = tt

      by : (m : Match) (new : Disk) (z : Found Sector) → Ends (save_at s c1 id m new z)
      by m new nothing = (refl, (omega arith, tt))
      by m new (found k z) = fits (leb (byte_count new) s.room) m new refl

  track-ends : (c1 : ℕ) (x : Shape) (held : List ℕ) (d : Named) → Clean Bad d.slot → Ends (written_track s c1 x held d)
  unfolding written_track
  track-ends c1 x held d c =
      ends_at d.slot _ _ c (omega arith)
      (λ y. laid_as Bad s Ends (Finish ∷ []) c1 d.cylinder x _ y (λ why m. m) (λ new h. (refl, (omega arith, h))))

  pub written-ends : (w : Writing) (d : Drives) → Clean Bad d.first.slot → Ends (written s w (named w.c1 d))
  unfolding written_into
  written-ends w d c = go w.goal
    where
      go : (g : Goal) → Ends (written_into g s w.c1 w.held (named w.c1 d))
      go (IntoSector id) = sector-ends w.c1 id w.held (named w.c1 d) (named-clean Bad w.c1 d c)
      go (IntoTrack x) = track-ends w.c1 x w.held (named w.c1 d) (named-clean Bad w.c1 d c)

-- ---- the lent buffers keep their rooms

served-kept : (x bytes : List ℕ) → length bytes ≤ transfer_room x → transfer_room (over x 0 bytes) ≡ transfer_room x
unfolding transfer_room
served-kept x bytes h = ap (λ (n : ℕ). min n most_transfer) (over-length x 0 bytes (omega (arith, transfer-in x, h)))

pub transfer-kept : (x : List ℕ) (y : Response) → Short (transfer_room x) y → transfer_room (transfer_with y x) ≡ transfer_room x
transfer-kept x Stay q = refl
transfer-kept x (Reply z) q = refl
transfer-kept x (ReplyIfNone z) q = refl
transfer-kept x Seeking q = refl
transfer-kept x (Interrupt c y) q = refl
transfer-kept x (Serve bytes z) q = served-kept x bytes q.0

pub laid_kept : (d : List ℕ) (z : Disk) → byte_count z ≤ room_of d → room_of (over d 0 (data_of z)) ≡ room_of d
unfolding room_of
laid_kept d z h = ap (λ (n : ℕ). min n most_data) (over-length d 0 (data_of z) (omega (arith, room_in d, h, data-length z)))

pub room-kept : (d x : List ℕ) (y : Option Disk) → Fits (rooms_of d x) y → room_of (data_with y d) ≡ room_of d
room-kept d x none q = refl
room-kept d x (some z) q = laid_kept d z q
