-- How much there can be (01, "Capacities").
use Rattle.std.specs.Prelude.{ℕ}

-- tracks, and sectors of all of them
abbrev pub most_tracks : ℕ
most_tracks = 204

abbrev pub most_sectors : ℕ
most_sectors = 2048

-- bytes of sector data, and bytes of a read
abbrev pub most_data : ℕ
most_data = 1048576

abbrev pub most_transfer : ℕ
most_transfer = 65536

-- bytes of a write that the controller holds
abbrev pub most_held : ℕ
most_held = 1024
