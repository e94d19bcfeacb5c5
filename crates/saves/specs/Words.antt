-- Saves, in the words of demand 3.
use Rattle.std.specs.Prelude.{◌≡◌, ℕ, suc, ◌+◌, ◌≤◌, true, List, [], ◌∷◌, ◌++◌, length}
use Rattle.std.proofs.Math.Option.{Option, none, some}
use Rattle.fields.specs.Bytes.{with_bit}
use Rattle.fields.specs.Model.{size_of, Sector, Track, Disk}
use Rattle.fields.specs.declared.id.SectorId.{SectorId}
use Rattle.store.specs.Find.{nothing, found, find}
use Rattle.store.specs.Search.{is_track, is_sector, sector_at}
use Rattle.disk.specs.Change.{with_content, saved}
use Rattle.codes.specs.declared.command.Command.TheVariants.{ReadData, WriteData}
use Rattle.registers.specs.Boxes.{Slot, Holds, World}
use Rattle.codes.specs.Table.{command_of}
use Rattle.registers.specs.Ports.{after_status, after_read}
use Rattle.codes.specs.Second.{u, drive_of, head_of}
use Rattle.saves.specs.Events.{Event, poll, read, send, ask, switch, swap, widen, Answer, showed, gave, took, said, stood, denied, granted}
use Rattle.std.specs.Prelude.{Ok}

-- what is in drive 0
abbrev pub in_drive : World → Slot
in_drive w = w.inside.drives.first.slot

-- a disk is in drive 0, nothing is half sent, no write is in progress
pub record Ready (w : World) (d : Disk) : Type 0 where
  pub disk-in : in_drive w ≡ Holds (Ok d)
  pub nothing-sent : w.inside.command ≡ []
  pub no_write : w.inside.write ≡ none

-- an address: cylinder, head, four ID bytes
pub record Address : Type 0 where
  pub cylinder : ℕ
  pub side : ℕ
  pub id : SectorId

-- a save: a Seek, a Write Data and its data
pub record Save : Type 0 where
  pub seek_c1 : ℕ
  pub cylinder : ℕ
  pub code : ℕ
  pub c1 : ℕ
  pub id : SectorId
  pub eot : ℕ
  pub gap : ℕ
  pub dtl : ℕ
  pub content : List ℕ

-- the bytes that are sent
unfoldable pub bytes_of : Save → List ℕ
bytes_of a =
    0x0F ∷ a.seek_c1 ∷ a.cylinder
    ∷ a.code ∷ a.c1 ∷ a.id.c ∷ a.id.h ∷ a.id.r ∷ a.id.n ∷ a.eot ∷ a.gap ∷ a.dtl
    ∷ a.content

-- where it goes
unfoldable pub address_of : Save → Address
address_of a = record { cylinder = a.cylinder; side = head_of a.c1; id = a.id }

-- every command names drive 0, the Write Data a sector that is there, and the data are as many bytes as its n calls for
pub record IsSave (a : Save) (d : Disk) : Type 0 where
  pub writes : command_of a.code ≡ WriteData
  pub seeks-drive-0 : drive_of a.seek_c1 ≡ 0
  pub writes-drive-0 : drive_of a.c1 ≡ 0
  pub as_many : length a.content ≡ size_of a.id.n
  pub place : ℕ
  pub sector : Sector
  pub there : sector_at d (head_of a.c1) a.cylinder a.id ≡ found place sector

-- a track with other sectors
abbrev pub with_sectors : List Sector → Track → Track
with_sectors ss t = record { cylinder = t.cylinder; side = t.side; size = t.size; gap = t.gap; filler = t.filler; sectors = ss }

-- the disk on which the sector at an address has other bytes
unfoldable pub saved_at : Address → List ℕ → Disk → Disk
saved_at x new d = saved x.side x.cylinder x.id new d

-- the disk that a save leaves
abbrev pub saved_by : Save → Disk → Disk
saved_by a d = saved_at (address_of a) a.content d

-- ---- A save that is made

-- one byte before others
abbrev pub first_of : ℕ → Option (List ℕ) → Option (List ℕ)
first_of b none = none
first_of b (some l) = some (b ∷ l)

-- the bytes that are sent in a sequence, whatever port reads and questions fall before, between and after them; nothing else may
unfoldable pub sent_in : List Event → Option (List ℕ)
sent_in [] = some []
sent_in (poll ∷ es) = sent_in es
sent_in (read ∷ es) = sent_in es
sent_in (send b ∷ es) = first_of b (sent_in es)
sent_in (ask q ∷ es) = sent_in es
sent_in (switch on ∷ es) = none
sent_in (swap present t b ∷ es) = none
sent_in (widen y ∷ es) = none

-- a sequence in which these bytes are sent, and its answers, of which none is a refusal
pub record Sends (es : List Event) (bytes : List ℕ) (answers : List Answer) : Type 0 where
  pub sends : sent_in es ≡ some bytes
  pub grants : granted answers ≡ true

-- ---- What it changes

-- one track of the disk, the first one at the address, is another: the bytes of one of its sectors, the first one with the ID, are others; every
-- other track and sector stands as it stood, in its place
pub record Only (a : Address) (x : List ℕ) (s : Sector) (d d' : Disk) : Type 0 where
  pub before : List Track
  pub behind : List Track
  pub track : Track
  pub front : List Sector
  pub back : List Sector
  pub was : d ≡ before ++ (track ∷ behind)
  pub is : d' ≡ before ++ (with_sectors (front ++ (with_content x s ∷ back)) track ∷ behind)
  pub sectors-were : track.sectors ≡ front ++ (s ∷ back)
  pub at-cylinder : track.cylinder ≡ a.cylinder
  pub at_side : track.side ≡ a.side
  pub first-track : find (is_track a.side a.cylinder) before ≡ nothing
  pub first-sector : find (is_sector a.id) front ≡ nothing
  pub named-so : s.id ≡ a.id

-- ---- Reading it back

-- a Read Data of the save's sector alone: drive 0, the same head and ID, eot at most r
pub record ReadsBack (a : Save) (code c1 eot : ℕ) : Type 0 where
  pub reads : command_of code ≡ ReadData
  pub drive-0 : drive_of c1 ≡ 0
  pub same_head : head_of c1 ≡ head_of a.c1
  pub alone : eot ≤ a.id.r

-- its bytes but the last, dtl
unfoldable pub read_bytes : Save → ℕ → ℕ → ℕ → ℕ → List ℕ
read_bytes a code c1 eot gap = code ∷ c1 ∷ a.id.c ∷ a.id.h ∷ a.id.r ∷ a.id.n ∷ eot ∷ gap ∷ []

-- the reply: EN, since the bytes are as many as n calls for, beside the sector's own status bits
unfoldable pub reply_to : Save → ℕ → ℕ → Sector → List ℕ
reply_to a c1 eot z = (u c1 + 0x40) ∷ with_bit 0x80 z.st1.bits ∷ z.st2.bits ∷ a.id.c ∷ a.id.h ∷ eot ∷ a.id.n ∷ []

-- port reads and questions alone, of which no status read loses a byte
unfoldable pub LosesNone : List Event → World → Type 0
LosesNone [] w = Unit {0}
LosesNone (poll ∷ es) w = ((after_status w).front.unread ≡ w.front.unread) × LosesNone es (after_status w)
LosesNone (read ∷ es) w = LosesNone es (after_read w)
LosesNone (ask q ∷ es) w = LosesNone es w
LosesNone (send b ∷ es) w = ⊥
LosesNone (switch on ∷ es) w = ⊥
LosesNone (swap present t b ∷ es) w = ⊥
LosesNone (widen y ∷ es) w = ⊥

-- how many of them read the data port, and what it gave
unfoldable pub data_reads : List Event → ℕ
data_reads [] = 0
data_reads (poll ∷ es) = data_reads es
data_reads (read ∷ es) = suc (data_reads es)
data_reads (send b ∷ es) = data_reads es
data_reads (ask q ∷ es) = data_reads es
data_reads (switch on ∷ es) = data_reads es
data_reads (swap present t b ∷ es) = data_reads es
data_reads (widen y ∷ es) = data_reads es

unfoldable pub given_in : List Answer → List ℕ
given_in [] = []
given_in (showed n ∷ l) = given_in l
given_in (gave n ∷ l) = n ∷ given_in l
given_in (took x ∷ l) = given_in l
given_in (said f ∷ l) = given_in l
given_in (stood c ∷ l) = given_in l
given_in (denied why ∷ l) = given_in l
