-- The image of an empty disk: one block of 256 bytes, 0 cylinders and 1 side, read back as the empty disk. And one of two sides.
use mathlib.Core.Path.{◌≡◌, refl}
use mathlib.Core.Bool.{false}
use mathlib.Core.List.{[], ◌∷◌}
use lib.ListN.{length}
use Rattle.fields.specs.Bytes.{byte_at}
use Rattle.fields.specs.Model.{Disk}
use Rattle.buffer.specs.Over.{over}
use Rattle.tracks.specs.Rows.{rows_for}
use Rattle.store.specs.Store.{contents}
use Rattle.tracks.specs.declared.track.Kind.TheVariants.{Extended}
use Rattle.image.specs.Dsk.{dsk_of}
use Rattle.home.specs.Home.{units, padded, track_info, block_for, blocks_for, cylinders_of, some_track, sides_of, sizes_over, size_table, disk_info, image_for}
use Rattle.home.specs.Home.{rising_from, rising, side_over_1, entries_over_204, sectors_over_29, track_over_65280, unwritable}
use Rattle.home.proofs.Homes.{home-back}
use Rattle.std.specs.Prelude.{Ok}

-- its length
pub empty-home : length (image_for []) ≡ 256
unfolding image_for padded units disk_info size_table sizes_over cylinders_of sides_of some_track blocks_for
empty-home = refl

-- cylinders and sides
pub empty-counts : (byte_at (image_for []) 0x30 ≡ 0) × (byte_at (image_for []) 0x31 ≡ 1)
unfolding image_for padded units disk_info size_table sizes_over cylinders_of sides_of some_track blocks_for
empty-counts = (refl, refl)

-- the empty disk is not refused
empty-can : unwritable [] ≡ false
unfolding unwritable rising side_over_1 entries_over_204 cylinders_of sides_of sectors_over_29 track_over_65280 some_track
empty-can = refl

-- it is read as the empty disk
pub empty_back : dsk_of (image_for []) ≡ Ok (record { kind = Extended; disk = [] })
empty_back = home-back [] empty-can

-- cylinder 1 alone: side 0 with one sector of one byte, side 1 without sectors
abbrev small : Disk
small =
    record {
      cylinder = 1;
      side = 0;
      size = 2;
      gap = 82;
      filler = 229;
      sectors = record { id = record { c = 1; h = 0; r = 193; n = 2 }; st1 = record { bits = 0 }; st2 = record { bits = 64 }; content = 7 ∷ [] } ∷ [];
    }
    ∷ record { cylinder = 1; side = 1; size = 2; gap = 82; filler = 229; sectors = [] }
    ∷ []

-- its table: no track of cylinder 0, then two units and one
pub small-table : size_table small ≡ 0 ∷ 0 ∷ 2 ∷ 1 ∷ []
unfolding size_table sizes_over over cylinders_of sides_of some_track block_for track_info rows_for contents padded units
small-table = refl

-- it is not refused, so it is read back
small-can : unwritable small ≡ false
unfolding unwritable rising rising_from side_over_1 entries_over_204 cylinders_of sides_of sectors_over_29 track_over_65280 some_track block_for track_info rows_for contents padded units
small-can = refl

pub small-back : dsk_of (image_for small) ≡ Ok (record { kind = Extended; disk = small })
small-back = home-back small small-can
