-- The byte that ends a read which finds a sector: the only one that touches data which were read before.
use Rattle.std.specs.Prelude.{◌≡◌, ℕ, List, [], ◌∷◌, ◌++◌, ◌⊎◌, length, Ok}
use Rattle.std.proofs.Math.Option.{none}
use Rattle.buffer.specs.Over.{over}
use Rattle.fields.specs.Model.{Sector, Disk}
use Rattle.store.specs.Search.{read_at}
use Rattle.store.specs.Store.{contents}
use Rattle.codes.specs.declared.command.Command.TheVariants.{ReadData, ReadDeleted}
use Rattle.codes.specs.Second.{head_of}
use Rattle.codes.specs.Table.{command_of, bytes_for}
use Rattle.registers.specs.Boxes.{Holds, Inside, named}
use Rattle.commands.specs.Commands.{byte, id_of}

-- The byte b makes a Read Data or Read Deleted whole, no write is in progress, the drive that it names holds a disk on which the search finds
-- sectors, and `bytes` are their contents.
pub record EndsRead (i : Inside) (b : ℕ) (bytes : List ℕ) : Type 0 where
  -- the command with this byte
  pub command : List ℕ
  pub is-command : command ≡ i.command ++ (b ∷ [])
  pub no_write : i.write ≡ none
  pub reads : (command_of (byte command 0) ≡ ReadData) ⊎ (command_of (byte command 0) ≡ ReadDeleted)
  pub whole : length command ≡ bytes_for (command_of (byte command 0))
  -- the disk in the drive that it names, and the sectors that are found on it
  pub disk : Disk
  pub in-drive : (named (byte command 1) i.drives).slot ≡ Holds (Ok disk)
  pub first : Sector
  pub rest : List Sector
  pub found : read_at disk (head_of (byte command 1)) (named (byte command 1) i.drives).cylinder (id_of command) (byte command 6) ≡ first ∷ rest
  pub theirs : bytes ≡ contents (first ∷ rest)

-- the transfer buffer is the one that came, with the contents of what a read finds laid over it
pub record Refilled (i : Inside) (b : ℕ) (x x' : List ℕ) : Type 0 where
  pub bytes : List ℕ
  pub ends : EndsRead i b bytes
  pub laid : x' ≡ over x 0 bytes
