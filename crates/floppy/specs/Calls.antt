-- What the calls on a whole controller, its registers and the held bytes, answer and leave: those of the registers (`crates/registers`)
-- and of a byte sent (`crates/sending`), with the held bytes beside them.
use Rattle.std.specs.Prelude.{ℕ, ◌%◌, false, List, replicate, Result}
use Rattle.fields.specs.Capacities.{most_held}
use Rattle.floppy.specs.declared.Floppy.{Floppy}
use Rattle.registers.specs.declared.regs.Seek.TheVariants.{Idle}
use Rattle.registers.specs.Settle.{no_pending}
use Rattle.registers.specs.Calls.{status_read, data_read}
use Rattle.commands.specs.Lent.{Left, left}
use Rattle.sending.specs.Calls.{data_write}
use Rattle.fields.specs.declared.refusal.Refusal.{Refusal}
use Rattle.registers.specs.declared.regs.Report.{Report}
use Rattle.registers.specs.declared.regs.Answered.{Answered}
use Rattle.floppy.specs.declared.Shown.{Shown}

-- `Floppy::new_with`: no number but 0, no flag but off, and bit 0 of the setting; `Floppy::new` is setting 0, the Rust machine
unfoldable pub new_floppy : ℕ → Floppy
new_floppy n = record {
  regs = record {
    command = replicate 9 0;
    count = 0;
    reply = replicate 7 0;
    place = 0;
    fill = 0;
    from = 0;
    until = 0;
    lost = 0;
    motor = false;
    index = 0;
    write = no_pending;
    drive = record { cylinder = 0; seek = Idle; disk = false };
    setting = n % 2;
  };
  held = replicate most_held 0;
}

-- an answer and the controller then
abbrev pub shown : {A : Type 0} → Result A Refusal → Floppy → Shown A
shown b f = record { answer = b; floppy = f }

-- what the registers answer, with the held bytes as they are
abbrev pub shown_as : {A : Type 0} → Answered A → List ℕ → Shown A
shown_as a h = shown a.answer (record { regs = a.regs; held = h })

abbrev pub changed_as : Answered (Unit {0}) → List ℕ → Shown (Unit {0})
changed_as a h = shown_as a h

-- what a byte sent leaves: the answer with the controller, the table, the data and the transfer buffer
pub data Wrote : Type 0 where
  wrote : Shown Report → List ℕ → List ℕ → List ℕ → Wrote

abbrev pub wrote_as : Left → Wrote
wrote_as (left a h t b x) = wrote (shown_as a h) t b x

-- ---- The three calls at the ports: `read_status`, `read_cmd`, `write_cmd`

abbrev pub status_call : Floppy → Shown ℕ
status_call f = shown_as (status_read f.regs) f.held

abbrev pub read_call : Floppy → List ℕ → Shown ℕ
read_call f x = shown_as (data_read f.regs x) f.held

abbrev pub write_call : Floppy → ℕ → List ℕ → List ℕ → List ℕ → Wrote
write_call f b t d x = wrote_as (data_write f.regs b f.held t d x)
