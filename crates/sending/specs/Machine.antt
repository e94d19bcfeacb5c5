-- What a byte sent to the data port does: a refusal, or the next state (01, "Commands").
use Rattle.std.specs.Prelude.{ℕ, Bool, true, false, List, [], ◌∷◌, ◌++◌, length, eqb, Result, Ok, Err}
use Rattle.std.proofs.Math.Option.{Option, none, some}
use Rattle.fields.specs.Refusals.{after}
use Rattle.registers.specs.Boxes.{Setting, Rooms, Drives, whole_of, Writing, Inside, World, named, holding, taken, all_changed, put_in, responded}
use Rattle.registers.specs.Boxes.{Taking, Add, Hold, Clear, Stay, Effect, Sent, silent}
use Rattle.registers.specs.declared.regs.Report.{Report}
use Rattle.codes.specs.declared.command.Command.{Command}
use Rattle.codes.specs.Table.{command_of, bytes_for}
use Rattle.commands.specs.Commands.{byte, does, obeyed, written}
use Rattle.fields.specs.declared.refusal.Refusal.{Refusal}

-- ---- A byte sent: a refusal, or all that it does

abbrev pub sends : Taking → Result Effect Refusal → Result Sent Refusal
sends x (Err why) = Err why
sends x (Ok e) = Ok record { taking = x; effect = e }

-- before what a command does, its bytes are done with
abbrev pub clearing : Result Effect Refusal → Result Effect Refusal
clearing (Err why) = Err why
clearing (Ok e) = Ok record { changes = Clear ∷ e.changes; response = e.response; put = e.put; report = e.report }

-- a command whose last byte has come is obeyed
unfoldable pub command_if : Bool → Setting → Rooms → Command → List ℕ → Drives → ℕ → Result Effect Refusal
command_if true x s which command d index = clearing (obeyed x s which command d index)
command_if false x s which command d index = does [] Stay

unfoldable pub command_byte : Setting → Rooms → ℕ → List ℕ → Drives → ℕ → Result Sent Refusal
command_byte x s b command d index =
    let which : Command = command_of (byte command 0) in
    sends (Add b) (command_if (eqb (length command) (bytes_for which)) x s which command d index)

-- a write of which the last byte has come is done
unfoldable pub data_if : Bool → Rooms → Writing → Drives → Result Effect Refusal
data_if true s w d = written s w (named w.c1 d)
data_if false s w d = does [] Stay

unfoldable pub data_byte : Rooms → ℕ → Writing → Drives → Result Sent Refusal
data_byte s b w d = sends (Hold b) (data_if (eqb (length w.held) (whole_of w.goal)) s w d)

-- a byte is one of a write in progress, or else of a command
unfoldable pub byte_for : Rooms → Inside → ℕ → Option Writing → Result Sent Refusal
byte_for s i b none = command_byte i.setting s b (i.command ++ (b ∷ [])) i.drives i.index
byte_for s i b (some w) = data_byte s b (holding b w) i.drives

unfoldable pub sent : Rooms → Inside → ℕ → Result Sent Refusal
sent s i b = byte_for s i b i.write

-- first it is taken, then what it completes is done
unfoldable pub done : World → Sent → World
done w x = record {
  inside = put_in x.effect.put (all_changed x.effect.changes (taken x.taking w.inside));
  front = responded x.effect.response w.front;
}

-- the next state
unfoldable pub write_port : Rooms → World → ℕ → Result World Refusal
write_port s w b = after (sent s w.inside b) (λ x. Ok (done w x))

-- and what the host is told of it, nothing where it is refused (2026-05)
abbrev pub reported : Result Sent Refusal → Report
reported (Err why) = silent
reported (Ok x) = x.effect.report

unfoldable pub report_of : Rooms → World → ℕ → Report
report_of s w b = reported (sent s w.inside b)
