-- What a host has after it has read a sheet (02, request 2026-01).
use Rattle.std.specs.Prelude.{ℕ, List}
use Rattle.buffer.specs.Over.{over}
use Rattle.registers.specs.Boxes.{World}
use Rattle.sheet.specs.Calls.{regs_for, held_for}
use Rattle.saves.specs.Events.{swap}
use Rattle.runs.specs.Hosts.{Host, called}
use Rattle.lending.specs.Lendings.{Lending, exported, host_at, lending_of}

-- the controller of these boxes, as `sheet_read` says, with a store lent and its unread data at the start of the transfer buffer
abbrev pub host_from : World → List ℕ → List ℕ → List ℕ → Host
host_from w t b x = record {
  floppy = record { regs = regs_for w; held = held_for w.inside.write };
  table = t;
  bytes = b;
  transfer = over x 0 w.front.unread;
}

-- the same with the disk put in again that was in the drive of another host, or none
abbrev pub disk_back : Host → Host → Host
disk_back k j = (called (swap k.floppy.regs.drive.disk k.table k.bytes) j).then

-- both on lent bytes
abbrev pub lending_from : World → List ℕ → List ℕ → List ℕ → Lending
lending_from w t b x = lending_of (host_from w t b x)

abbrev pub disk_back_in : Lending → Lending → Lending
disk_back_in l m = (exported (swap (host_at l).floppy.regs.drive.disk l.table l.bytes) m).then
