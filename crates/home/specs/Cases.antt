-- The five cases of refusal 12 (02, request 2026-03), by name.
use Rattle.std.specs.Prelude.{◌≡◌, true, false}
use Rattle.fields.specs.Model.{Disk}
use Rattle.home.specs.Home.{rising, side_over_1, entries_over_204, sectors_over_29, track_over_65280}

-- not-rising: two tracks that follow each other do not rise strictly by cylinder, then side
-- side-over: a track's side exceeds 1
-- entries_over: cylinders times sides exceeds 204
-- sectors-over: a track has over 29 sectors
-- track-over: a padded track exceeds 65,280 bytes
pub data Twelve (d : Disk) : Type 0 where
  not-rising : rising d ≡ false → Twelve d
  side-over : side_over_1 d ≡ true → Twelve d
  entries_over : entries_over_204 d ≡ true → Twelve d
  sectors-over : sectors_over_29 d ≡ true → Twelve d
  track-over : track_over_65280 d ≡ true → Twelve d
