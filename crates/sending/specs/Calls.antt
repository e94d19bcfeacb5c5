-- What a byte sent answers and leaves. `proofs/Seen.antt` proves that this, seen as boxes, is the machine.
use Rattle.std.specs.Prelude.{ℕ, Bool, not, ◌||◌, List, [], ◌∷◌, ◌++◌, length, take, eqb, Result}
use Rattle.fields.specs.Capacities.{most_held}
use Rattle.fields.specs.Refusals.{need}
use Rattle.fields.specs.declared.refusal.Refusal.TheVariants.{BadController}
use Rattle.registers.specs.declared.regs.Regs.{Regs}
use Rattle.registers.specs.Boxes.{setting_of, Sent}
use Rattle.registers.specs.View.{rooms_of, writing_of, slot_of, drives_of, inside_of, impossible_in}
use Rattle.sending.specs.Machine.{command_byte, data_byte, sent}
use Rattle.commands.specs.Lent.{Left, left_of}
use Rattle.fields.specs.declared.refusal.Refusal.{Refusal}

-- what the machine says of a byte of a command, and of a byte of a write, by the boxes that are seen
abbrev pub command_here : Regs → ℕ → List ℕ → List ℕ → List ℕ → Result Sent Refusal
command_here r b t d x = command_byte (setting_of r.setting) (rooms_of d x) b (take r.count r.command ++ (b ∷ [])) (drives_of r t d) r.index

abbrev pub data_here : Regs → ℕ → List ℕ → List ℕ → List ℕ → List ℕ → Result Sent Refusal
data_here r b h t d x = data_byte (rooms_of d x) b (writing_of r.write (take r.write.taken h ++ (b ∷ []))) (drives_of r t d)

-- in a call that is lent the held bytes too: these are not 1,024, or the numbers are impossible
unfoldable pub impossible_with : List ℕ → List ℕ → Regs → Bool
impossible_with h x r = not (eqb (length h) most_held) || impossible_in x r

-- 1, or what the machine says of the boxes that are seen
unfoldable pub sent_to : Regs → ℕ → List ℕ → List ℕ → List ℕ → List ℕ → Result Sent Refusal
sent_to r b h t d x = need (not (impossible_with h x r)) BadController (sent (rooms_of d x) (inside_of r h (slot_of r t d)) b)

unfoldable pub data_write : Regs → ℕ → List ℕ → List ℕ → List ℕ → List ℕ → Left
data_write r b h t d x = left_of (sent_to r b h t d x) r h t d x
