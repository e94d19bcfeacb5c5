-- What a sent byte does to the bytes that are lent: the held bytes, the table, the data and the transfer buffer. A refusal leaves them as they came.
use Rattle.std.specs.Prelude.{◌≡◌, ℕ, Bool, List, Result, Ok, Err}
use Rattle.std.proofs.Math.Option.{Option, none, some}
use Rattle.buffer.specs.Over.{over}
use Rattle.fields.specs.Model.{Disk}
use Rattle.store.specs.Store.{table_of, data_of}
use Rattle.codes.specs.declared.command.Command.{Command}
use Rattle.registers.specs.declared.regs.Goal.{Goal}
use Rattle.registers.specs.declared.regs.Regs.{Regs}
use Rattle.registers.specs.declared.regs.Report.{Report}
use Rattle.registers.specs.Boxes.{setting_of, Response, Stay, Reply, ReplyIfNone, Seeking, Interrupt, Serve, Effect, Sent, World}
use Rattle.registers.specs.View.{rooms_of, writing_of, drives_of, named_in, world_of}
use Rattle.registers.specs.Settle.{declined, regs_taken, held_taken, regs_of}
use Rattle.commands.specs.Commands.{byte, read_data, format_at_once, format_track, written_into, written, obeyed}
use Rattle.fields.specs.declared.refusal.Refusal.{Refusal}
use Rattle.registers.specs.declared.regs.Answered.{Answered}

-- a disk that is put is laid over what was there
abbrev pub table_with : Option Disk → List ℕ → List ℕ
table_with none t = t
table_with (some d) t = over t 0 (table_of d)

abbrev pub data_with : Option Disk → List ℕ → List ℕ
data_with none b = b
data_with (some d) b = over b 0 (data_of d)

-- data that are served are laid from the start, bytes past their total stay
abbrev pub transfer_with : Response → List ℕ → List ℕ
transfer_with Stay x = x
transfer_with (Reply reply) x = x
transfer_with (ReplyIfNone reply) x = x
transfer_with Seeking x = x
transfer_with (Interrupt c y) x = x
transfer_with (Serve bytes reply) x = over x 0 bytes

abbrev pub table_after : Result Effect Refusal → List ℕ → List ℕ
table_after (Err why) t = t
table_after (Ok e) t = table_with e.put t

abbrev pub data_after : Result Effect Refusal → List ℕ → List ℕ
data_after (Err why) b = b
data_after (Ok e) b = data_with e.put b

abbrev pub transfer_after : Result Effect Refusal → List ℕ → List ℕ
transfer_after (Err why) x = x
transfer_after (Ok e) x = transfer_with e.response x

-- an answer and a transfer buffer, and an answer and a store, that are an effect's
abbrev pub Fills : Result Effect Refusal → Regs → List ℕ → Answered Report → List ℕ → Type 0
Fills e r x a x' = (a ≡ regs_of e r) × (x' ≡ transfer_after e x)

abbrev pub Stores : Result Effect Refusal → Regs → List ℕ → List ℕ → Answered Report → List ℕ → List ℕ → Type 0
Stores e r t b a t' b' = (a ≡ regs_of e r) × ((t' ≡ table_after e t) × (b' ≡ data_after e b))

-- what a command, or the end of a write, leaves
pub data Ran : Type 0 where
  ran : Answered Report → List ℕ → List ℕ → List ℕ → Ran

abbrev pub ran_of : Result Effect Refusal → Regs → List ℕ → List ℕ → List ℕ → Ran
ran_of e r t b x = ran (regs_of e r) (table_after e t) (data_after e b) (transfer_after e x)

-- ---- The same of the commands, by the drives that are seen

abbrev pub read_here : Bool → List ℕ → Regs → List ℕ → List ℕ → List ℕ → Result Effect Refusal
read_here deleted command r t b x = read_data (rooms_of b x) deleted command (named_in (byte command 1) r t b)

abbrev pub at_once_here : List ℕ → Regs → List ℕ → List ℕ → List ℕ → Result Effect Refusal
at_once_here command r t b x = format_at_once (rooms_of b x) command (named_in (byte command 1) r t b)

abbrev pub format_here : List ℕ → Regs → List ℕ → List ℕ → List ℕ → Result Effect Refusal
format_here command r t b x = format_track (setting_of r.setting) (rooms_of b x) command (named_in (byte command 1) r t b)

abbrev pub into_here : Goal → List ℕ → Regs → List ℕ → List ℕ → List ℕ → Result Effect Refusal
into_here g held r t b x = written_into g (rooms_of b x) r.write.c1 held (named_in r.write.c1 r t b)

abbrev pub written_here : List ℕ → Regs → List ℕ → List ℕ → List ℕ → Result Effect Refusal
written_here held r t b x = written (rooms_of b x) (writing_of r.write held) (named_in r.write.c1 r t b)

abbrev pub ran_here : Command → List ℕ → Regs → List ℕ → List ℕ → List ℕ → Ran
ran_here which command r t b x = ran_of (obeyed (setting_of r.setting) (rooms_of b x) which command (drives_of r t b) r.index) r t b x

-- ---- What a byte leaves: the same, and the held bytes

pub data Left : Type 0 where
  left : Answered Report → List ℕ → List ℕ → List ℕ → List ℕ → Left

unfoldable pub left_of : Result Sent Refusal → Regs → List ℕ → List ℕ → List ℕ → List ℕ → Left
left_of (Err why) r h t b x = left (declined why r) h t b x
left_of (Ok s) r h t b x =
    left (regs_of (Ok s.effect) (regs_taken s.taking r)) (held_taken s.taking r h)
    (table_with s.effect.put t) (data_with s.effect.put b) (transfer_with s.effect.response x)

-- what a byte leaves, seen: a refusal, with every byte as it came; or that it was taken, what is told, and the boxes then
abbrev pub Sees : Regs → List ℕ → List ℕ → List ℕ → List ℕ → Left → Report → Result World Refusal → Type 0
Sees r h t b x y told (Err why) = y ≡ left (record { answer = Err why; regs = r }) h t b x
Sees r h t b x (left a h' t' b' x') told (Ok w) = (a.answer ≡ Ok told) × (world_of a.regs h' t' b' x' ≡ w)
