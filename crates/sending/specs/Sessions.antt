-- The sessions that 01 marks P ("Sessions to check"), as one table. The others are run by the program `ports`.
use Rattle.std.specs.Prelude.{ℕ, ◌-◌, Bool, true, false, List, [], ◌∷◌, ◌++◌, length, replicate, eqb, Result, Ok, Err}
use Rattle.fields.specs.Capacities.{most_data, most_transfer}
use Rattle.fields.specs.Refusals.{number_of}
use Rattle.fields.specs.Model.{size_of}
use Rattle.image.specs.Dsk.{Dsk, dsk_of}
use Rattle.store.specs.Fresh.{fresh}
use Rattle.registers.specs.Boxes.{Setting, Rooms, rust_machine, sheet_machine, Slot, Empty, Holds, World, new_world}
use Rattle.registers.specs.Ports.{status, after_status, port_byte, after_read, change_disk}
use Rattle.sending.specs.Machine.{write_port}
use Rattle.fields.specs.declared.refusal.Refusal.{Refusal}

-- a call: a byte sent, a status read and what it shows, a data-port read and what it gives, the disk taken out
pub data Call : Type 0 where
  enters : ℕ → Call
  shows : ℕ → Call
  gives : ℕ → Call
  goes_out : Call

-- a case: a new controller of a machine, with a drive, and calls; a size by n; an image that is refused with a number, or loaded with so many tracks
pub data Case : Type 0 where
  session : Setting → Slot → List Call → Case
  size : ℕ → ℕ → Case
  refuses : List ℕ → ℕ → Case
  loads : List ℕ → ℕ → Case

-- all the room that there can be
abbrev pub ample : Rooms
ample = record { room = most_data; transfer = most_transfer }

-- whether the calls answer what they are said to, and none is refused
unfoldable pub plays : List Call → World → Bool
plays [] w = true
plays (enters b ∷ cs) w = elim (write_port ample w b) [ Err why ↦ false | Ok v ↦ plays cs v ]
plays (shows b ∷ cs) w = elim (eqb (status w) b) [ true ↦ plays cs (after_status w) | false ↦ false ]
plays (gives b ∷ cs) w = elim (eqb (port_byte w) b) [ true ↦ plays cs (after_read w) | false ↦ false ]
plays (goes_out ∷ cs) w = plays cs (change_disk Empty w)

-- whether an image is refused with a number, or loaded with so many tracks
unfoldable pub is_refused : Result Dsk Refusal → ℕ → Bool
is_refused (Err why) n = eqb (number_of why) n
is_refused (Ok d) n = false

unfoldable pub has_tracks : Result Dsk Refusal → ℕ → Bool
has_tracks (Err why) n = false
has_tracks (Ok d) n = eqb (length d.disk) n

-- whether a case is as it says, and all of them
unfoldable pub holds : Case → Bool
holds (session x slot calls) = plays calls (change_disk slot (new_world x))
holds (size n expected) = eqb (size_of n) expected
holds (refuses image n) = is_refused (dsk_of image) n
holds (loads image n) = has_tracks (dsk_of image) n

unfoldable pub all_hold : List Case → Bool
all_hold [] = true
all_hold (x ∷ xs) = elim (holds x) [ true ↦ all_hold xs | false ↦ false ]

-- bytes entered one after another, and bytes that are given
unfoldable pub enter : List ℕ → List Call
enter [] = []
enter (b ∷ bs) = enters b ∷ enter bs

unfoldable pub give : List ℕ → List Call
give [] = []
give (b ∷ bs) = gives b ∷ give bs

-- the drive with a fresh disk; `MV - CPC` and zeros behind it, so many bytes in all
abbrev pub fresh_in : Slot
fresh_in = Holds (Ok fresh)

unfoldable pub normal : ℕ → List ℕ
normal n = 0x4D ∷ 0x56 ∷ 0x20 ∷ 0x2D ∷ 0x20 ∷ 0x43 ∷ 0x50 ∷ 0x43 ∷ replicate (n - 8) 0

-- rows of the data-sheet machine (2026-06): an invalid byte, Sense Interrupt twice, a Format by its IDs (two sectors, C1 and C2, of which Read ID gives
-- the first) with unread data that polling does not lose, the same with the disk out before the last ID byte, count 0, and not ready
unfoldable pub sheet_sessions : List Case
sheet_sessions =
    session sheet_machine fresh_in (enters 0x00 ∷ shows 0xD0 ∷ gives 0x80 ∷ shows 0x80 ∷ [])
    ∷ session sheet_machine fresh_in (enter (0x0F ∷ 0x00 ∷ 0x05 ∷ 0x08 ∷ []) ++ shows 0xD1 ∷ give (0x20 ∷ 0x05 ∷ [])
    ++ enters 0x08 ∷ gives 0x80 ∷ shows 0x80 ∷ [])
    ∷ session sheet_machine fresh_in (enter (0x4D ∷ 0x00 ∷ 0x01 ∷ 0x02 ∷ 0x2A ∷ 0xAA ∷ []) ++ shows 0xB0 ∷ gives 0x00 ∷ enter (0x07 ∷ 0x01 ∷ 0xC1 ∷ 0x06 ∷ [])
    ++ shows 0xB0 ∷ enter (0x07 ∷ 0x01 ∷ 0xC2 ∷ 0x06 ∷ []) ++ give (0x00 ∷ 0x00 ∷ 0x00 ∷ 0x00 ∷ 0x00 ∷ 0x00 ∷ 0x01 ∷ [])
    ++ enter (0x4A ∷ 0x00 ∷ []) ++ give (0x00 ∷ 0x00 ∷ 0x00 ∷ 0x07 ∷ 0x01 ∷ 0xC1 ∷ 0x06 ∷ []) ++ shows 0x80 ∷ [])
    ∷ session sheet_machine fresh_in (enter (0x4D ∷ 0x00 ∷ 0x01 ∷ 0x01 ∷ 0x2A ∷ 0xAA ∷ 0x07 ∷ 0x01 ∷ 0xC1 ∷ []) ++ goes_out ∷ shows 0xB0 ∷ enters 0x06
    ∷ give (0x00 ∷ 0x00 ∷ 0x00 ∷ 0x00 ∷ 0x00 ∷ 0x00 ∷ 0x01 ∷ []) ++ shows 0x80 ∷ [])
    ∷ session sheet_machine fresh_in (enter (0x4D ∷ 0x00 ∷ 0x01 ∷ 0x00 ∷ 0x2A ∷ 0xAA ∷ []) ++ give (0x00 ∷ 0x00 ∷ 0x00 ∷ 0x00 ∷ 0x00 ∷ 0x00 ∷ 0x01 ∷ [])
    ++ enter (0x4A ∷ 0x00 ∷ []) ++ give (0x40 ∷ 0x01 ∷ 0x00 ∷ 0xFF ∷ 0xFF ∷ 0xFF ∷ 0xFF ∷ []) ++ shows 0x80 ∷ [])
    ∷ session sheet_machine Empty (enter (0x4D ∷ 0x00 ∷ 0x01 ∷ 0x01 ∷ 0x2A ∷ 0xAA ∷ []) ++ give (0xC8 ∷ 0x00 ∷ 0x00 ∷ 0x00 ∷ 0x00 ∷ 0x00 ∷ 0x01 ∷ []) ++ shows 0x80 ∷ [])
    ∷ []

-- the table of 01, in its order, and those rows behind it; each session ends with the status, which shows that nothing of a reply or of data is left
unfoldable pub sessions : List Case
sessions =
    session rust_machine fresh_in (shows 0x80 ∷ gives 0x00 ∷ shows 0x80 ∷ [])
    ∷ session rust_machine fresh_in (enters 0x04 ∷ shows 0x90 ∷ enters 0x00 ∷ gives 0x38 ∷ shows 0x80 ∷ [])
    ∷ session rust_machine fresh_in (enter (0x04 ∷ 0x05 ∷ []) ++ gives 0x81 ∷ shows 0x80 ∷ [])
    ∷ session rust_machine fresh_in (enter (0x0F ∷ 0x00 ∷ 0x05 ∷ []) ++ shows 0x81 ∷ enters 0x08 ∷ shows 0xD1 ∷ give (0x20 ∷ 0x05 ∷ [])
    ++ enters 0x08 ∷ give (0x80 ∷ 0x05 ∷ []) ++ shows 0x80 ∷ [])
    ∷ size 0 128
    ∷ size 3 1024
    ∷ size 4 128
    ∷ size 255 1024
    ∷ session rust_machine fresh_in (enter (0x46 ∷ 0x00 ∷ 0x00 ∷ 0x00 ∷ 0x41 ∷ 0x02 ∷ 0x41 ∷ 0x2A ∷ 0xFF ∷ [])
    ++ give (0x40 ∷ 0x01 ∷ 0x00 ∷ 0xFF ∷ 0xFF ∷ 0xFF ∷ 0xFF ∷ []) ++ shows 0x80 ∷ [])
    ∷ session rust_machine Empty (enter (0x46 ∷ 0x00 ∷ 0x00 ∷ 0x00 ∷ 0x01 ∷ 0x02 ∷ 0x01 ∷ 0x2A ∷ 0xFF ∷ [])
    ++ give (0xC8 ∷ 0x00 ∷ 0x00 ∷ 0x00 ∷ 0x00 ∷ 0x01 ∷ 0x02 ∷ []) ++ shows 0x80 ∷ [])
    ∷ session rust_machine fresh_in (enter (0x4D ∷ 0x00 ∷ 0x01 ∷ 0x03 ∷ 0x2A ∷ 0xAA ∷ []) ++ give (0x00 ∷ 0x00 ∷ 0x00 ∷ 0x00 ∷ 0x00 ∷ 0x00 ∷ 0x01 ∷ []) ++ shows 0x80 ∷ [])
    ∷ refuses (replicate 11 0) 3
    ∷ refuses (replicate 12 0) 4
    ∷ refuses (normal 51) 3
    ∷ loads (normal 52) 0
    ∷ sheet_sessions
