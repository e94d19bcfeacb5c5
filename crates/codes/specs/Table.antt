-- The table of commands, by the first byte (01, "Commands").
use Rattle.std.specs.Prelude.{ℕ, ◌+◌, ◌*◌, ◌/◌, ◌%◌, zero, suc, ◌-◌, Bool, cond, true, ◌&&◌, List, [], ◌∷◌, eqb, leb}
use Rattle.codes.specs.declared.command.Command.{Command}
use Rattle.codes.specs.declared.command.Command.TheVariants.{Specify, SenseDrive, Recalibrate, SenseInterrupt, SeekTo, Version, ReadData}
use Rattle.codes.specs.declared.command.Command.TheVariants.{ReadDeleted, WriteData, ReadId, FormatTrack, Unserved, Invalid}

-- the masks of the table: c, c & 1F, c & 3F, c & BF, c & 9F
abbrev pub and_ff : ℕ → ℕ
and_ff c = c

abbrev pub and_1f : ℕ → ℕ
and_1f c = c % 32

abbrev pub and_3f : ℕ → ℕ
and_3f c = c % 64

abbrev pub and_bf : ℕ → ℕ
and_bf c = c / 128 * 128 + c % 64

abbrev pub and_9f : ℕ → ℕ
and_9f c = c / 128 * 128 + c % 32

-- a row: the first bytes that it takes, and their command
pub record TableRow : Type 0 where
  pub passes : ℕ → Bool
  pub command : Command

abbrev pub row : (ℕ → ℕ) → ℕ → Command → TableRow
row mask value command = record { passes = λ c. eqb (mask c) value; command = command }

-- the rows that go by a mask, and all of them
unfoldable pub mask_rows : List TableRow
mask_rows =
    row and_1f 0x10 Version
    ∷ row and_1f 0x06 ReadData
    ∷ row and_1f 0x0C ReadDeleted
    ∷ row and_3f 0x05 WriteData
    ∷ row and_bf 0x0A ReadId
    ∷ row and_bf 0x0D FormatTrack
    ∷ row and_3f 0x09 Unserved
    ∷ row and_9f 0x02 Unserved
    ∷ row and_1f 0x11 Unserved
    ∷ row and_1f 0x19 Unserved
    ∷ row and_1f 0x1D Unserved
    ∷ []

unfoldable pub rows : List TableRow
rows =
    row and_ff 0x03 Specify
    ∷ row and_ff 0x04 SenseDrive
    ∷ row and_ff 0x07 Recalibrate
    ∷ row and_ff 0x0F SeekTo
    ∷ row and_ff 0x08 SenseInterrupt
    ∷ mask_rows

-- the command of the first row that takes a byte, "other" where none does
unfoldable pub command_by : List TableRow → ℕ → Command
command_by [] c = Invalid
command_by (x ∷ xs) c = cond (x.passes c) x.command (command_by xs c)

unfoldable pub command_of : ℕ → Command
command_of c = command_by rows c

-- how many bytes a command has
abbrev pub bytes_for : Command → ℕ
bytes_for Specify = 3
bytes_for SenseDrive = 2
bytes_for Recalibrate = 2
bytes_for SeekTo = 3
bytes_for SenseInterrupt = 1
bytes_for Version = 1
bytes_for ReadData = 9
bytes_for ReadDeleted = 9
bytes_for WriteData = 9
bytes_for ReadId = 2
bytes_for FormatTrack = 6
bytes_for Unserved = 9
bytes_for Invalid = 1

-- ---- What the table takes

-- how many rows take a byte
unfoldable pub passing : List TableRow → ℕ → ℕ
passing [] c = 0
passing (x ∷ xs) c = cond (x.passes c) 1 0 + passing xs c

-- whether at most one row takes each byte below n
unfoldable pub one_each : ℕ → Bool
one_each zero = true
one_each (suc n) = leb (passing rows n) 1 && one_each n

-- how many bytes below n no row takes
unfoldable pub others : ℕ → ℕ
others zero = 0
others (suc n) = (1 - passing rows n) + others n
