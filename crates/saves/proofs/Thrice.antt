-- What the host is told (2026-05), run: a disk that has the same ID three times on its track, a Format that leaves one, and another disk put in within
-- a write.
use mathlib.Core.Path.{◌≡◌, refl}
use Prim.Native.Nat.{ℕ}
use mathlib.Core.List.{List, [], ◌∷◌, ◌++◌}
use lib.ListN.{replicate}
use Rattle.fields.specs.Capacities.{most_data, most_transfer}
use Rattle.fields.specs.Model.{size_of, Track, Disk, total}
use Rattle.fields.specs.declared.id.SectorId.{SectorId}
use Rattle.tracks.specs.Rows.{ids_from}
use Rattle.store.specs.Find.{find_from}
use Rattle.store.specs.Search.{sector_at, match_at, sector_by_index, by_index, run_from, read_at}
use Rattle.store.specs.Store.{contents}
use Rattle.store.specs.Fresh.{blanks, formatted}
use Rattle.store.specs.Calls.{within, has_of}
use Rattle.disk.specs.Change.{change, saved, set_track}
use Rattle.codes.specs.Table.{mask_rows, rows, command_by, command_of}
use Rattle.registers.specs.Boxes.{rust_machine, Holds, Empty, Slot, new_world, named, taken, changed, all_changed, put_in, responded, silent, serves}
use Rattle.registers.specs.Ports.{change_disk}
use Rattle.commands.specs.Commands.{missing, seek_if, served_as, read_data, start_at, write_data, write_reply, save_at, written_sector, written_into, id_given, read_id, lays_track, format_at_once, format_track, obeyed}
use Rattle.sending.specs.Machine.{command_if, command_byte, data_if, data_byte, byte_for, sent, done, write_port, report_of}
use Rattle.saves.specs.Events.{Answer, took, Run, run}
use Rattle.saves.specs.Stages.{Stage, with_world, acted}
use Rattle.saves.proofs.Witness.{send_all}
use Rattle.std.specs.Prelude.{Ok, Some}

-- ---- the disks

-- an ID with a number, of 128 bytes, and a track of cylinder 0 with sectors of such IDs
abbrev number : ℕ → SectorId
number r = record { c = 0; h = 0; r = r; n = 0 }

abbrev track_with : List SectorId → Track
track_with ids = formatted 0 0 0 0x2A 0xE5 ids

-- number 1 three times before number 2; and on another disk twice, behind number 9
abbrev thrice : Disk
thrice = track_with (number 1 ∷ number 1 ∷ number 1 ∷ number 2 ∷ []) ∷ []

abbrev twice : Disk
twice = track_with (number 9 ∷ number 1 ∷ number 1 ∷ []) ∷ []

-- ---- the bytes that are sent

-- a Read Data from a number up to 2, a Write Data of number 1, a Format with one sector, and so many data bytes
abbrev reads : ℕ → List ℕ
reads r = 0x46 ∷ 0 ∷ 0 ∷ 0 ∷ r ∷ 0 ∷ 2 ∷ 0x2A ∷ 0xFF ∷ []

abbrev writes : List ℕ
writes = 0x45 ∷ 0 ∷ 0 ∷ 0 ∷ 1 ∷ 0 ∷ 1 ∷ 0x2A ∷ 0xFF ∷ []

abbrev formats : List ℕ
formats = 0x4D ∷ 0 ∷ 0 ∷ 1 ∷ 0x2A ∷ 0xE5 ∷ []

abbrev filling : ℕ → List ℕ
filling n = replicate n 0xAA

-- ---- what is told

-- a new controller with the Rust machine, and a drive
abbrev with : Slot → Stage
with slot = record { rooms = record { room = most_data; transfer = most_transfer }; world = change_disk slot (new_world rust_machine) }

abbrev sent_all : Stage → List ℕ → Run Answer Stage
sent_all g l = run acted (send_all l) g

-- the stage then, and the same with another disk in the drive
abbrev left_by : Stage → List ℕ → Stage
left_by g l = (sent_all g l).end

abbrev swapped : Slot → Stage → Stage
swapped slot g = with_world (change_disk slot g.world) g

-- so many bytes of which nothing is told, and one by which a sector is: at a place, one of so many
abbrev still : ℕ → List Answer
still n = replicate n (took silent)

abbrev told_last : ℕ → ℕ → List Answer
told_last place count = took (serves (record { place = place; count = count })) ∷ []

pub record Thrice : Type 0 where
  pub read : (sent_all (with (Holds (Ok thrice))) (reads 1)).answers ≡ still 8 ++ told_last 1 3
  pub other : (sent_all (with (Holds (Ok thrice))) (reads 2)).answers ≡ still 8 ++ told_last 4 1
  pub absent : (sent_all (with (Holds (Ok thrice))) (reads 7)).answers ≡ still 9
  pub no-disk : (sent_all (with Empty) (reads 1)).answers ≡ still 9
  pub read-id : (sent_all (with (Holds (Ok thrice))) (0x4A ∷ 0 ∷ [])).answers ≡ still 2
  pub write : (sent_all (with (Holds (Ok thrice))) (writes ++ filling 128)).answers ≡ (still 8 ++ told_last 1 3) ++ (still 127 ++ told_last 1 3)
  pub formatted-one : (sent_all (left_by (with (Holds (Ok thrice))) formats) (reads 1)).answers ≡ still 8 ++ told_last 1 1
  pub other-disk : (sent_all (swapped (Holds (Ok twice)) (left_by (with (Holds (Ok thrice))) (writes ++ filling 100))) (filling 28)).answers ≡ still 27 ++ told_last 2 2
  pub disk-out : (sent_all (swapped Empty (left_by (with (Holds (Ok thrice))) (writes ++ filling 100))) (filling 28)).answers ≡ still 28
  pub has : has_of (Ok thrice) 0 0 (number 1) ≡ Ok (Some (record { place = 1; count = 3 }))

pub thrice-told : Thrice
unfolding run acted send_all change_disk new_world named taken changed all_changed put_in responded mask_rows rows command_by command_of seek_if missing start_at write_data write_reply save_at written_sector written_into id_given read_id lays_track format_at_once format_track obeyed command_if command_byte data_if data_byte byte_for sent done write_port report_of formatted ids_from blanks size_of sector_at match_at sector_by_index by_index find_from change saved set_track total run_from read_at contents served_as read_data within
thrice-told = record {
  read = refl;
  other = refl;
  absent = refl;
  no-disk = refl;
  read-id = refl;
  write = refl;
  formatted-one = refl;
  other-disk = refl;
  disk-out = refl;
  has = refl;
}
