-- No store that breaks the layout comes into the drive by calls, if no disk change puts one in.
use mathlib.Core.Path.{◌≡◌, refl, sym, subst, ◌∙◌}
use mathlib.Core.List.{List, [], ◌∷◌}
use mathlib.Core.Option.{Option, none, some}
use Rattle.fields.specs.Model.{Disk, Each}
use Rattle.registers.specs.Boxes.{Slot, Inside, Taking, Add, Hold, Change, Clear, MoveTo, Turn, Start, Finish, Sent, taken, changed, all_changed, put_in}
use Rattle.registers.specs.Ports.{after_status, after_read, set_motor, change_disk}
use Rattle.sending.specs.Machine.{sent, done, write_port, report_of}
use Rattle.saves.specs.Events.{Event, poll, read, send, ask, switch, swap, widen, run}
use Rattle.saves.specs.Stages.{Stage, acted, Unbroken, PutsUnbroken}
use Rattle.saves.proofs.Feeding.{byte_on}
use Rattle.saves.specs.Words.{in_drive}
use Rattle.std.specs.Prelude.{Result, Ok, Err}
use Rattle.fields.specs.declared.refusal.Refusal.{Refusal}

abbrev slot_in : Inside → Slot
slot_in i = i.drives.first.slot

-- ---- a byte sent

taken-slot : (x : Taking) (i : Inside) → slot_in (taken x i) ≡ slot_in i
unfolding taken
taken-slot (Add b) i = refl
taken-slot (Hold b) i = refl

changed-slot : (x : Change) (i : Inside) → slot_in (changed x i) ≡ slot_in i
unfolding changed
changed-slot Clear i = refl
changed-slot (MoveTo c) i = refl
changed-slot Turn i = refl
changed-slot (Start c1 g) i = refl
changed-slot Finish i = refl

all-slot : (xs : List Change) (i : Inside) → slot_in (all_changed xs i) ≡ slot_in i
unfolding all_changed
all-slot [] i = refl
all-slot (x ∷ xs) i = all-slot xs (changed x i) ∙ changed-slot x i

-- what it puts in is a disk
put-unbroken : (p : Option Disk) (i : Inside) → Unbroken (slot_in i) → Unbroken (slot_in (put_in p i))
unfolding put_in
put-unbroken none i h = h
put-unbroken (some d) i h = tt

sent-unbroken : (g : Stage) (y : Result Sent Refusal) → Unbroken (in_drive g.world) → Unbroken (in_drive (byte_on g y).then.world)
unfolding done
sent-unbroken g (Err why) h = h
sent-unbroken g (Ok y) h =
    let i : Inside = taken y.taking g.world.inside in
    put-unbroken y.effect.put (all_changed y.effect.changes i)
    (subst Unbroken (sym (all-slot y.effect.changes i ∙ taken-slot y.taking g.world.inside)) h)

-- ---- any calls

pub acted-unbroken : (e : Event) (g : Stage) → PutsUnbroken e → Unbroken (in_drive g.world) → Unbroken (in_drive (acted e g).then.world)
unfolding acted PutsUnbroken after_status after_read set_motor change_disk write_port report_of
acted-unbroken poll g q h = h
acted-unbroken read g q h = h
acted-unbroken (send b) g q h = sent-unbroken g (sent g.rooms g.world.inside b) h
acted-unbroken (ask z) g q h = h
acted-unbroken (switch on) g q h = h
acted-unbroken (swap present t b) g q h = q
acted-unbroken (widen y) g q h = h

-- They leave none in the drive.
pub run-unbroken : (es : List Event) (g : Stage) → Each PutsUnbroken es → Unbroken (in_drive g.world) → Unbroken (in_drive (run acted es g).end.world)
unfolding run Each
run-unbroken [] g q h = h
run-unbroken (e ∷ es) g q h = run-unbroken es (acted e g).then q.1 (acted-unbroken e g q.0 h)
