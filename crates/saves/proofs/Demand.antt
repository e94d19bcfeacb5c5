-- Demand 3, on the machine: what saves leave on the disk.
use mathlib.Core.Path.{◌≡◌, refl, sym, ap, ◌∙◌}
use Prim.Native.Nat.{ℕ}
use native.Mathlib.Omega.{arith}
use mathlib.Core.Bool.{Bool, true, false}
use mathlib.Core.List.{List, [], ◌∷◌}
use lib.ListN.{length}
use lib.Dec.{leb}
use borrow.Author.Tests.{eq-eqb}
use Rattle.fields.specs.Refusals.{need, after}
use Rattle.fields.specs.Model.{size_of, Sector, Disk, byte_count}
use Rattle.fields.specs.declared.id.SectorId.{SectorId}
use Rattle.fields.specs.declared.refusal.Refusal.TheVariants.{NoRoom}
use Rattle.fields.proofs.Sizes.{size-pos}
use Rattle.fields.proofs.Tests.{need-good}
use Rattle.store.specs.Find.{found}
use Rattle.store.specs.Search.{sector_at, match_at}
use Rattle.disk.specs.Change.{with_content, saved}
use Rattle.codes.specs.declared.command.Command.TheVariants.{SeekTo, WriteData}
use Rattle.registers.specs.Boxes.{Setting}
use Rattle.registers.specs.Boxes.{Rooms, Holds, Inside, World, named, serves, Finish, changed, all_changed, put_in}
use Rattle.codes.specs.Table.{command_of, command_by, rows}
use Rattle.codes.specs.Second.{drive_of, head_of}
use Rattle.commands.specs.Commands.{puts, seek_if, start_at, write_data, write_reply, save_at, written_sector, written_into, obeyed}
use Rattle.saves.specs.Events.{Event, run}
use Rattle.saves.specs.Stages.{Stage, acted}
use Rattle.saves.specs.Words.{in_drive, Ready, Address, Save, bytes_of, address_of, IsSave, saved_at, saved_by, Sends, Only}
use Rattle.saves.proofs.Finds.{map_found}
use Rattle.saves.proofs.Places.{at, save-twice, save-found, save-other, save-comm, save-only}
use Rattle.saves.proofs.Feeding.{effected, fed, run-fed, drive_over, partly, writing, Written, command-fed, data-fed}
use Rattle.std.specs.Prelude.{Result, Ok}
use Rattle.fields.specs.declared.refusal.Refusal.{Refusal}

-- ---- the three parts of a save

pub drive-0 : (c1 c : ℕ) (d : Disk) → drive_of c1 ≡ 0 → named c1 (drive_over c d) ≡ record { fitted = true; cylinder = c; slot = Holds (Ok d) }
unfolding named
drive-0 c1 c d e = rw (eq-eqb (drive_of c1) 0 e)

module _ (s : Rooms) (σ : Setting) (m : Bool) (x : ℕ) (d : Disk) where
  seek-fed : (c c1 cylinder : ℕ) (bs : List ℕ) → drive_of c1 ≡ 0 → fed s (0x0F ∷ c1 ∷ cylinder ∷ bs) (partly σ m c x d []) ≡ fed s bs (partly σ m cylinder x d [])
  unfolding obeyed seek_if command_of command_by rows changed all_changed put_in
  seek-fed c c1 cylinder bs e =
      command-fed s σ m c x d 0x0F SeekTo refl c1 (cylinder ∷ []) bs refl ∙ rw (drive-0 c1 c d e)

  write-fed : (c code c1 : ℕ) (id : SectorId) (eot gap dtl : ℕ) (bs : List ℕ) (k : ℕ) (z : Sector) → command_of code ≡ WriteData → drive_of c1 ≡ 0
      → sector_at d (head_of c1) c id ≡ found k z
      → fed s (code ∷ c1 ∷ id.c ∷ id.h ∷ id.r ∷ id.n ∷ eot ∷ gap ∷ dtl ∷ bs) (partly σ m c x d []) ≡ fed s bs (writing σ m c x d c1 id [])
  unfolding obeyed write_data start_at changed all_changed put_in
  write-fed c code c1 id eot gap dtl bs k z e f g =
      command-fed s σ m c x d code WriteData e c1 (id.c ∷ id.h ∷ id.r ∷ id.n ∷ eot ∷ gap ∷ dtl ∷ []) bs refl
      ∙ rw (drive-0 c1 c d f, g)

  -- the disk then, or 8
  abbrev After : ℕ → Disk → Result Inside Refusal
  After c new = need (leb (byte_count new) s.room) NoRoom (Ok (partly σ m c x new []))

  written_is : (c c1 : ℕ) (id : SectorId) (bytes : List ℕ) (k : ℕ) (z : Sector) → drive_of c1 ≡ 0 → sector_at d (head_of c1) c id ≡ found k z
      → after (Written s σ m c x d c1 id bytes) (λ e. Ok (effected e (writing σ m c x d c1 id bytes))) ≡ After c (saved (head_of c1) c id bytes d)
  unfolding written_into written_sector save_at changed all_changed put_in
  written_is c c1 id bytes k z f g = rw (drive-0 c1 c d f, g) (go (leb (byte_count (saved (head_of c1) c id bytes d)) s.room))
    where
      go : (v : Bool)
          → after (need v NoRoom (puts (serves (match_at d (head_of c1) c id)) (Finish ∷ []) (saved (head_of c1) c id bytes d) (write_reply c1 id)))
          (λ e. Ok (effected e (writing σ m c x d c1 id bytes)))
          ≡ need v NoRoom (Ok (partly σ m c x (saved (head_of c1) c id bytes d) []))
      go true = refl
      go false = refl

  content-fed : (c c1 : ℕ) (id : SectorId) (bytes : List ℕ) (k : ℕ) (z : Sector) → length bytes ≡ size_of id.n → drive_of c1 ≡ 0 → sector_at d (head_of c1) c id ≡ found k z
      → fed s bytes (writing σ m c x d c1 id []) ≡ After c (saved (head_of c1) c id bytes d)
  content-fed c c1 id [] k z n f g = absurd (omega (arith, size-pos id.n))
  content-fed c c1 id (b ∷ r) k z n f g = data-fed s σ m c x d c1 id [] b r (omega arith) ∙ written_is c c1 id (b ∷ r) k z f g

  save-fed : (c : ℕ) (a : Save) → IsSave a d → fed s (bytes_of a) (partly σ m c x d []) ≡ After a.cylinder (saved_by a d)
  unfolding bytes_of address_of saved_at
  save-fed c a h =
      seek-fed c a.seek_c1 a.cylinder _ h.seeks-drive-0
      ∙ write-fed a.cylinder a.code a.c1 a.id a.eot a.gap a.dtl a.content h.place h.sector h.writes h.writes-drive-0 h.there
      ∙ content-fed a.cylinder a.c1 a.id a.content h.place h.sector h.as_many h.writes-drive-0 h.there

ready-is : (w : World) (d : Disk) → Ready w d → w.inside ≡ partly w.inside.setting w.inside.motor w.inside.drives.first.cylinder w.inside.index d []
ready-is w d h k = record {
  setting = w.inside.setting;
  motor = w.inside.motor;
  index = w.inside.index;
  command = h.nothing-sent k;
  write = h.no_write k;
  drives = record { first = record { cylinder = w.inside.drives.first.cylinder; slot = h.disk-in k } };
}

-- inside, after a save: the head has moved, and the disk is the one that the save leaves; the rooms stay
pub saved-inside : (a : Save) (d : Disk) (g : Stage) (es : List Event) → Ready g.world d → IsSave a d → Sends es (bytes_of a) (run acted es g).answers
    → (run acted es g).end.world.inside ≡ partly g.world.inside.setting g.world.inside.motor a.cylinder g.world.inside.index (saved_by a d) []
saved-inside a d g es ready save made =
    let s : Rooms = g.rooms in
    let w : World = g.world in
    let i : Inside = partly w.inside.setting w.inside.motor w.inside.drives.first.cylinder w.inside.index d [] in
    let e : fed s (bytes_of a) i ≡ Ok (run acted es g).end.world.inside = ap (fed s (bytes_of a)) (sym (ready-is w d ready)) ∙ (run-fed es g (bytes_of a) made.sends made.grants).inside in
    let n = need-good (leb (byte_count (saved_by a d)) s.room) NoRoom (Ok (partly w.inside.setting w.inside.motor a.cylinder w.inside.index (saved_by a d) [])) (run acted es g).end.world.inside
    (sym (save-fed s w.inside.setting w.inside.motor w.inside.index d w.inside.drives.first.cylinder a save) ∙ e) in
    cc n.1

-- and the next one may begin
pub saved-ready : (a : Save) (d : Disk) (g : Stage) (es : List Event) → Ready g.world d → IsSave a d → Sends es (bytes_of a) (run acted es g).answers
    → Ready (run acted es g).end.world (saved_by a d)
saved-ready a d g es ready save made =
    let e = saved-inside a d g es ready save made in
    record { disk-in = ap (λ (i : Inside). i.drives.first.slot) e; nothing-sent = ap (λ (i : Inside). i.command) e; no_write = ap (λ (i : Inside). i.write) e }

-- ---- the demand

-- A save, with any port reads and questions before, between and after its bytes, from any state that is ready, if nothing is refused: the content of
-- the sector that the search finds at its address is the bytes sent, and nothing else on the disk changes.
pub save-touches : (a : Save) (d : Disk) (g : Stage) (es : List Event) → Ready g.world d → (save : IsSave a d) → Sends es (bytes_of a) (run acted es g).answers
    → Ready (run acted es g).end.world (saved_by a d) × Only (address_of a) a.content save.sector d (saved_by a d)
unfolding address_of
save-touches a d g es ready save made =
    (saved-ready a d g es ready save made, save-only (address_of a) a.content save.place save.sector d save.there)

-- a save that is one stays one after a save to the same address, and to another
still-same : (a b : Save) (d : Disk) → address_of a ≡ address_of b → IsSave b d → IsSave b (saved_by a d)
unfolding address_of
still-same a b d e h = record {
  writes = h.writes;
  seeks-drive-0 = h.seeks-drive-0;
  writes-drive-0 = h.writes-drive-0;
  as_many = h.as_many;
  place = h.place;
  sector = with_content a.content h.sector;
  there = ap (λ (y : Address). at (address_of b) (saved_at y a.content d)) e ∙ save-found (address_of b) a.content d ∙ ap (map_found (with_content a.content)) h.there;
}

pub still-other : (a b : Save) (d : Disk) → (address_of a ≡ address_of b → ⊥) → IsSave b d → IsSave b (saved_by a d)
unfolding address_of
still-other a b d e h = record {
  writes = h.writes;
  seeks-drive-0 = h.seeks-drive-0;
  writes-drive-0 = h.writes-drive-0;
  as_many = h.as_many;
  place = h.place;
  sector = h.sector;
  there = save-other (address_of a) (address_of b) e a.content d ∙ h.there;
}

-- Two saves to one address leave the disk that the second alone leaves.
pub second-alone : (a b : Save) (d : Disk) (g : Stage) (es fs gs : List Event)
    → Ready g.world d → IsSave a d → IsSave b d → address_of a ≡ address_of b
    → Sends es (bytes_of a) (run acted es g).answers
    → Sends fs (bytes_of b) (run acted fs (run acted es g).end).answers
    → Sends gs (bytes_of b) (run acted gs g).answers
    → in_drive (run acted fs (run acted es g).end).end.world ≡ in_drive (run acted gs g).end.world
second-alone a b d g es fs gs ready sa sb same ma mb mc =
    (saved-ready b (saved_by a d) (run acted es g).end fs (saved-ready a d g es ready sa ma) (still-same a b d same sb) mb).disk-in
    ∙ ap (λ (y : Disk). Holds (Ok y)) (ap (λ (y : Address). saved_at (address_of b) b.content (saved_at y a.content d)) same ∙ save-twice (address_of b) a.content b.content d)
    ∙ sym (saved-ready b d g gs ready sb mc).disk-in

-- Saves to two addresses leave the same disk in either order, if neither order is refused.
pub either_order : (a b : Save) (d : Disk) (g : Stage) (es fs fs' es' : List Event)
    → Ready g.world d → IsSave a d → IsSave b d → (address_of a ≡ address_of b → ⊥)
    → Sends es (bytes_of a) (run acted es g).answers → Sends fs (bytes_of b) (run acted fs (run acted es g).end).answers
    → Sends fs' (bytes_of b) (run acted fs' g).answers → Sends es' (bytes_of a) (run acted es' (run acted fs' g).end).answers
    → in_drive (run acted fs (run acted es g).end).end.world ≡ in_drive (run acted es' (run acted fs' g).end).end.world
either_order a b d g es fs fs' es' ready sa sb differ ma mb mb' ma' =
    (saved-ready b (saved_by a d) (run acted es g).end fs (saved-ready a d g es ready sa ma) (still-other a b d differ sb) mb).disk-in
    ∙ ap (λ (y : Disk). Holds (Ok y)) (save-comm (address_of a) (address_of b) differ a.content b.content d)
    ∙ sym (saved-ready a (saved_by b d) (run acted fs' g).end es' (saved-ready b d g fs' ready sb mb') (still-other b a d (λ e. differ (sym e)) sa) ma').disk-in
