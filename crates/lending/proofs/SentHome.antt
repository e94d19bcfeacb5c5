-- What goes home is what the session left: after any exported calls, `disk_write_image` of the table and data that are lent then writes the disk that the
-- machine has in its drive.
use mathlib.Core.Path.{◌≡◌, ap, ◌∙◌}
use Prim.Native.Nat.{ℕ, ◌^◌, ◌/◌, ◌≤◌}
use mathlib.Core.Bool.{false}
use mathlib.Core.List.{List}
use lib.ListN.{length, take}
use Rattle.fields.specs.Model.{Disk}
use Rattle.fields.specs.declared.refusal.Refusal.TheVariants.{NoImage}
use Rattle.tracks.specs.declared.track.Kind.TheVariants.{Extended}
use Rattle.image.specs.Dsk.{dsk_of}
use Rattle.home.specs.Home.{image_for, unwritable}
use Rattle.home.specs.Cases.{Twelve}
use Rattle.registers.specs.Boxes.{Holds}
use Rattle.registers.specs.View.{inside_of}
use Rattle.words.specs.Words.{refusal_word}
use Rattle.host.specs.Calls.{answered, write_image_on}
use Rattle.host.proofs.Homeward.{home-read, refused-write}
use Rattle.saves.specs.Events.{Event, run}
use Rattle.saves.specs.Stages.{Stage, acted}
use Rattle.saves.specs.Words.{in_drive, Ready, Save, bytes_of, address_of, IsSave, saved_by, Only}
use Rattle.runs.proofs.Steps.{held-is}
use Rattle.lending.specs.Lendings.{Lending, exported, host_at, stage_in, seen_in, store_in, Formed, Posts}
use Rattle.lending.proofs.Demands.{bytes-end, save-bytes}
use Rattle.std.specs.Prelude.{Ok}

module _ (es : List Event) (l : Lending) (f : Formed l) (d : Disk) (left : in_drive (run acted es (stage_in l)).end.world ≡ Holds (Ok d)) where
  -- Table and data hold the disk that the machine has in its drive.
  pub left_there : store_in (run exported es l).end ≡ Ok d
  unfolding inside_of
  left_there =
      let end : Lending = (run exported es l).end in
      held-is (host_at end).floppy.regs.drive.disk (store_in end) d (ap (λ (g : Stage). in_drive g.world) (bytes-end es l f) ∙ left)

  -- Where it can be written and there is room, as many bytes as the word says are read as that disk.
  pub session-home : unwritable d ≡ false → (s s' : List ℕ) (w : ℕ) → length (image_for d) ≤ length s
      → let end : Lending = (run exported es l).end in
      answered w s' ≡ write_image_on end.table end.bytes s → dsk_of (take (w / 2 ^ 32) s') ≡ Ok (record { kind = Extended; disk = d })
  session-home can s s' w room e =
      let end : Lending = (run exported es l).end in
      home-read end.table end.bytes d left_there can s s' w room e

  -- In the five cases it is refused with 12, and the buffer stays.
  pub session-refused : Twelve d → (s : List ℕ)
      → let end : Lending = (run exported es l).end in
      write_image_on end.table end.bytes s ≡ answered (refusal_word NoImage) s
  session-refused why s = let end : Lending = (run exported es l).end in refused-write end.table end.bytes d left_there why s

-- A save that goes home: what is read is the disk on which it changed the content of the sector at its address, and nothing else.
pub save-home : (a : Save) (d : Disk) (l : Lending) (es : List Event)
    → Formed l → Ready (seen_in l) d → (save : IsSave a d) → Posts es (bytes_of a) (run exported es l).answers
    → unwritable (saved_by a d) ≡ false → (s s' : List ℕ) (w : ℕ) → length (image_for (saved_by a d)) ≤ length s
    → let end : Lending = (run exported es l).end in
    answered w s' ≡ write_image_on end.table end.bytes s
    → (dsk_of (take (w / 2 ^ 32) s') ≡ Ok (record { kind = Extended; disk = saved_by a d })) × Only (address_of a) a.content save.sector d (saved_by a d)
save-home a d l es f ready save p can s s' w room e =
    let q = save-bytes a d l es f ready save p in
    let end : Lending = (run exported es l).end in
    (home-read end.table end.bytes (saved_by a d) q.0 can s s' w room e, q.1)
