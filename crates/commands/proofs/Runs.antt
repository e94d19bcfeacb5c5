-- What an effect leaves alone, and what a whole command leaves.
use mathlib.Core.Path.{◌≡◌, refl}
use Prim.Native.Nat.{ℕ}
use mathlib.Core.Bool.{Bool, true, false}
use mathlib.Core.List.{List, [], ◌∷◌}
use mathlib.Core.Option.{none}
use lib.ListN.{length}
use lib.Dec.{leb}
use Rattle.fields.specs.Refusals.{need, after}
use Rattle.fields.specs.Model.{Sector, Disk, byte_count}
use Rattle.fields.specs.declared.id.SectorId.{SectorId}
use Rattle.fields.specs.declared.refusal.Refusal.{Refusal}
use Rattle.store.specs.Find.{Found, nothing, found}
use Rattle.store.specs.Search.{sector_at, match_at, sector_by_index, read_at}
use Rattle.store.specs.declared.answer.Match.{Match}
use Rattle.store.specs.Store.{contents}
use Rattle.store.specs.Calls.{fitting}
use Rattle.disk.specs.Change.{set_track}
use Rattle.registers.specs.declared.regs.Regs.{Regs}
use Rattle.registers.specs.declared.regs.Goal.{Goal}
use Rattle.registers.specs.declared.regs.Goal.TheVariants.{IntoSector, IntoTrack}
use Rattle.registers.specs.declared.regs.Shape.{Shape}
use Rattle.registers.specs.Boxes.{Machine, Rust, DataSheet, Setting, Rooms, Slot, Empty, Holds, Named, silent, Change, Effect}
use Rattle.registers.specs.Boxes.{Response, Stay, Reply, ReplyIfNone, Seeking, Interrupt, Serve}
use Rattle.codes.specs.Second.{head_of}
use Rattle.commands.specs.Commands.{byte, ready, when_ready, does, puts, seek_if, invalid, served_as, read_data, start_at, write_data, save_at, written_sector, id_given, read_id}
use Rattle.commands.specs.Commands.{track_as, format_reply, lays_track, format_at_once, has_phase, format_if, format_track, written_track, written_into}
use Rattle.registers.specs.Settle.{regs_of}
use Rattle.commands.specs.Lent.{transfer_with, table_after, data_after, transfer_after, Fills, Stores, ran, ran_of}
use Rattle.std.specs.Prelude.{Result, Ok, Err}
use Rattle.registers.specs.declared.regs.Answered.{Answered}
use Rattle.registers.specs.declared.regs.Report.{Report}

-- ---- what an effect leaves alone

-- no disk is put
abbrev pub Unput : Result Effect Refusal → Type 0
Unput (Err why) = Unit {0}
Unput (Ok e) = e.put ≡ none

-- no data are served
abbrev pub StillS : Response → Type 0
StillS Stay = Unit {0}
StillS (Reply x) = Unit {0}
StillS (ReplyIfNone x) = Unit {0}
StillS Seeking = Unit {0}
StillS (Interrupt c y) = Unit {0}
StillS (Serve y x) = ⊥

abbrev pub Still : Result Effect Refusal → Type 0
Still (Err why) = Unit {0}
Still (Ok e) = StillS e.response

pub unput-stays : (e : Result Effect Refusal) (t b : List ℕ) → Unput e → (t ≡ table_after e t) × (b ≡ data_after e b)
unput-stays (Err why) t b q = (refl, refl)
unput-stays (Ok e) t b q = rw q (refl, refl)

pub still-response : (s : Response) (x : List ℕ) → StillS s → x ≡ transfer_with s x
still-response Stay x q = refl
still-response (Reply y) x q = refl
still-response (ReplyIfNone y) x q = refl
still-response Seeking x q = refl
still-response (Interrupt c y) x q = refl
still-response (Serve y z) x q = absurd q

pub still-stays : (e : Result Effect Refusal) (x : List ℕ) → Still e → x ≡ transfer_after e x
still-stays (Err why) x q = refl
still-stays (Ok e) x q = still-response e.response x q

-- what holds of a refusal, of a drive without a disk and of every disk holds of a command that looks at the drive that it names
pub when-ready : (P : Result Effect Refusal → Type 0) → ((why : Refusal) → P (Err why)) → (s : Slot) (e : Result Effect Refusal) (f : Disk → Result Effect Refusal)
    → P e → ((d : Disk) → P (f d)) → P (when_ready s e f)
when-ready P r Empty e f p q = p
when-ready P r (Holds (Err why)) e f p q = r why
when-ready P r (Holds (Ok d)) e f p q = q d

-- Seek, an invalid byte, Read ID and the start of a write leave both alone, Read Data the store, Format and the end of a write the transfer buffer
abbrev pub Quiet : Result Effect Refusal → Type 0
Quiet e = Unput e × Still e

pub quiet-seek : (f : Bool) (c : ℕ) → Quiet (seek_if f c)
unfolding seek_if
quiet-seek true c = (refl, tt)
quiet-seek false c = (refl, tt)

pub quiet-invalid : (m : Machine) → Quiet (does [] (invalid m))
quiet-invalid Rust = (refl, tt)
quiet-invalid DataSheet = (refl, tt)

pub quiet-id : (c1 index : ℕ) (d : Named) → Quiet (read_id c1 index d)
unfolding read_id id_given
quiet-id c1 index d = when-ready Quiet (λ why. (tt, tt)) d.slot _ _ (refl, tt) (λ x. by (sector_by_index x (head_of c1) d.cylinder index))
  where
    by : (s : Found Sector) → Quiet (id_given c1 s)
    by nothing = (refl, tt)
    by (found k s) = (refl, tt)

pub quiet_write : (c1 : ℕ) (n : SectorId) (d : Named) → Quiet (write_data c1 n d)
unfolding write_data start_at
quiet_write c1 n d = when-ready Quiet (λ why. (tt, tt)) d.slot _ _ (refl, tt) (λ x. by (match_at x (head_of c1) d.cylinder n) (sector_at x (head_of c1) d.cylinder n))
  where
    by : (m : Match) (s : Found Sector) → Quiet (start_at c1 n m s)
    by m nothing = (refl, tt)
    by m (found k s) = (refl, tt)

pub unput-read : (s : Rooms) (deleted : Bool) (command : List ℕ) (d : Named) → Unput (read_data s deleted command d)
unfolding read_data served_as
unput-read s deleted command d = when-ready Unput (λ why. tt) d.slot _ _ refl (λ x. served (match_at x _ d.cylinder _) (read_at x _ d.cylinder _ _))
  where
    needed : (v : Bool) (why : Refusal) (e : Result Effect Refusal) → Unput e → Unput (need v why e)
    needed true why e q = q
    needed false why e q = tt

    served : (m : Match) (ss : List Sector) → Unput (served_as s deleted command m ss)
    served m [] = refl
    served m (x ∷ xs) = needed (leb (length (contents (x ∷ xs))) s.transfer) _ _ refl

-- a track that is laid
still-lays : (s : Rooms) (xs : List Change) (c1 cylinder : ℕ) (x : Shape) (ids : List SectorId) (d : Disk) → Still (lays_track s xs c1 cylinder x ids d)
unfolding lays_track
still-lays s xs c1 cylinder x ids d = put (fitting s.room (set_track (head_of c1) cylinder (track_as c1 cylinder x ids) d))
  where
    put : (new : Result Disk Refusal) → Still (after new (λ y. puts silent xs y (format_reply c1 x.size)))
    put (Err why) = tt
    put (Ok y) = tt

pub still-format : (m : Setting) (s : Rooms) (command : List ℕ) (d : Named) → Still (format_track m s command d)
unfolding format_track format_at_once
still-format m s command d = go (has_phase m.machine (byte command 3) (ready d.slot))
  where
    go : (v : Bool) → Still (format_if v s command d)
    go true = tt
    go false = when-ready Still (λ why. tt) d.slot _ _ tt (λ x. still-lays s [] _ d.cylinder _ _ x)

pub still-written : (g : Goal) (s : Rooms) (c1 : ℕ) (held : List ℕ) (d : Named) → Still (written_into g s c1 held d)
unfolding written_into written_sector written_track save_at
still-written (IntoTrack x) s c1 held d = when-ready Still (λ why. tt) d.slot _ _ tt (λ y. still-lays s _ c1 d.cylinder x _ y)
still-written (IntoSector id) s c1 held d = when-ready Still (λ why. tt) d.slot _ _ tt (λ x. by _ _ (sector_at x (head_of c1) d.cylinder id))
  where
    needed : (v : Bool) (why : Refusal) (e : Result Effect Refusal) → Still e → Still (need v why e)
    needed true why e q = q
    needed false why e q = tt

    by : (m : Match) (new : Disk) (x : Found Sector) → Still (save_at s c1 id m new x)
    by m new nothing = tt
    by m new (found k x) = needed (leb (byte_count new) s.room) _ _ tt

-- ---- a whole command

module _ (r : Regs) (t b x : List ℕ) where
  -- an effect with its answer, of which it is known what it leaves alone
  pub ran-quiet : (e : Result Effect Refusal) (a : Answered Report) → Quiet e → a ≡ regs_of e r → ran a t b x ≡ ran_of e r t b x
  ran-quiet e a q h i = ran (h i) ((unput-stays e t b q.0).0 i) ((unput-stays e t b q.0).1 i) (still-stays e x q.1 i)

  pub ran-read : (e : Result Effect Refusal) (a : Answered Report) (x' : List ℕ) → Unput e → Fills e r x a x' → ran a t b x' ≡ ran_of e r t b x
  ran-read e a x' q h i = ran (h.0 i) ((unput-stays e t b q).0 i) ((unput-stays e t b q).1 i) (h.1 i)

  pub ran-stored : (e : Result Effect Refusal) (a : Answered Report) (t' b' : List ℕ) → Still e → Stores e r t b a t' b' → ran a t' b' x ≡ ran_of e r t b x
  ran-stored e a t' b' q h i = ran (h.0 i) (h.1.0 i) (h.1.1 i) (still-stays e x q i)
