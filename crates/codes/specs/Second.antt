-- What the second byte of a command, c1, names (01, "Commands").
use Rattle.std.specs.Prelude.{ℕ, ◌/◌, ◌%◌}

-- u = c1 & 7
abbrev pub u : ℕ → ℕ
u c1 = c1 % 8

-- the drive, and the head
abbrev pub drive_of : ℕ → ℕ
drive_of c1 = c1 % 4

abbrev pub head_of : ℕ → ℕ
head_of c1 = c1 / 4 % 2
