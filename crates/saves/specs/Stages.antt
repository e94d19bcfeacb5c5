-- Sequences of calls on the machine.
use Rattle.std.specs.Prelude.{ℕ, ◌+◌, min, List, length}
use Rattle.fields.specs.Capacities.{most_transfer}
use Rattle.store.specs.Store.{room_of, disk_of}
use Rattle.registers.specs.Boxes.{Setting}
use Rattle.registers.specs.Boxes.{Rooms, Slot, Empty, Holds, World, new_world, silent}
use Rattle.registers.specs.declared.regs.Report.{Report}
use Rattle.registers.specs.Ports.{status, after_status, port_byte, after_read, set_motor, change_disk}
use Rattle.registers.specs.View.{slot_if}
use Rattle.commands.specs.Commands.{ready}
use Rattle.sending.specs.Machine.{write_port, report_of}
use Rattle.saves.specs.Events.{Question, motor_on?, which_track?, disk_in?, Event, poll, read, send, ask, switch, swap, widen}
use Rattle.saves.specs.Events.{Answer, showed, gave, took, said, stood, denied, Next}
use Rattle.std.specs.Prelude.{Result, Ok, Err}
use Rattle.fields.specs.declared.refusal.Refusal.{Refusal}

-- the rooms that are lent, and the boxes
pub record Stage : Type 0 where
  pub rooms : Rooms
  pub world : World

-- a new controller
abbrev pub new_stage : Setting → Rooms → Stage
new_stage x s = record { rooms = s; world = new_world x }

-- the stage with other boxes
abbrev pub with_world : World → Stage → Stage
with_world w g = record { rooms = g.rooms; world = w }

-- a byte sent was taken, and something is told, or refused, which leaves all as it was
abbrev pub sent_on : Stage → Report → Result World Refusal → Next Answer Stage
sent_on g told (Err why) = record { answer = denied why; then = g }
sent_on g told (Ok w) = record { answer = took told; then = with_world w g }

-- what the boxes tell
unfoldable pub answer_to : Question → World → Answer
answer_to motor_on? w = said w.inside.motor
answer_to which_track? w = stood w.inside.drives.first.cylinder
answer_to disk_in? w = said (ready w.inside.drives.first.slot)

-- the rooms with those of another data buffer, and of a longer transfer buffer
abbrev pub roomed : List ℕ → Rooms → Rooms
roomed b s = record { room = room_of b; transfer = s.transfer }

abbrev pub widened : List ℕ → Rooms → Rooms
widened y s = record { room = s.room; transfer = min (s.transfer + length y) most_transfer }

-- one call, on the machine
unfoldable pub acted : Event → Stage → Next Answer Stage
acted poll g = record { answer = showed (status g.world); then = with_world (after_status g.world) g }
acted read g = record { answer = gave (port_byte g.world); then = with_world (after_read g.world) g }
acted (send b) g = sent_on g (report_of g.rooms g.world b) (write_port g.rooms g.world b)
acted (ask q) g = record { answer = answer_to q g.world; then = g }
acted (switch on) g = record { answer = took silent; then = with_world (set_motor on g.world) g }
acted (swap present t b) g =
    record { answer = took silent; then = record { rooms = roomed b g.rooms; world = change_disk (slot_if present (disk_of t b)) g.world } }
acted (widen y) g = record { answer = took silent; then = record { rooms = widened y g.rooms; world = g.world } }

-- no store that breaks the layout is in the drive
abbrev pub Unbroken : Slot → Type 0
Unbroken Empty = Unit {0}
Unbroken (Holds (Err why)) = ⊥
Unbroken (Holds (Ok d)) = Unit {0}

-- a disk change puts in none, or one that its store holds; no other call puts one in
unfoldable pub PutsUnbroken : Event → Type 0
PutsUnbroken poll = Unit {0}
PutsUnbroken read = Unit {0}
PutsUnbroken (send b) = Unit {0}
PutsUnbroken (ask q) = Unit {0}
PutsUnbroken (switch on) = Unit {0}
PutsUnbroken (swap present t b) = Unbroken (slot_if present (disk_of t b))
PutsUnbroken (widen y) = Unit {0}
