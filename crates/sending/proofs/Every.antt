-- What holds of the effect of every command and of every finished write holds of the effect of a byte sent.
use mathlib.Core.Path.{◌≡◌, refl}
use Prim.Native.Nat.{ℕ}
use mathlib.Core.Bool.{Bool, true, false}
use mathlib.Core.List.{List, [], ◌∷◌, ◌++◌}
use mathlib.Core.Option.{Option, none, some}
use lib.ListN.{length}
use lib.Dec.{eqb}
use borrow.Author.Tests.{eqb-true}
use Rattle.fields.specs.Model.{Disk}
use Rattle.codes.specs.declared.command.Command.{Command}
use Rattle.codes.specs.Table.{command_of, bytes_for}
use Rattle.registers.specs.Boxes.{Rooms, Inside, whole_of, Writing, named, holding, Taking, Add, Hold, Response, Stay, Effect, Sent}
use Rattle.commands.specs.Commands.{byte, obeyed, written}
use Rattle.sending.specs.Machine.{sends, clearing, command_if, command_byte, data_if, data_byte, byte_for, sent}
use Rattle.std.specs.Prelude.{Result, Ok, Err}
use Rattle.fields.specs.declared.refusal.Refusal.{Refusal}

-- a property of what an effect shows and puts
module _ (P : Response → Option Disk → Type 0) where
  abbrev pub OfEffect : Result Effect Refusal → Type 0
  OfEffect (Err why) = Unit {0}
  OfEffect (Ok e) = P e.response e.put

  abbrev pub OfSent : Result Sent Refusal → Type 0
  OfSent (Err why) = Unit {0}
  OfSent (Ok x) = P x.effect.response x.effect.put

  of-clearing : (e : Result Effect Refusal) → OfEffect e → OfEffect (clearing e)
  of-clearing (Err why) q = tt
  of-clearing (Ok e) q = q

  of-sends : (x : Taking) (e : Result Effect Refusal) → OfEffect e → OfSent (sends x e)
  of-sends x (Err why) q = tt
  of-sends x (Ok e) q = q

  -- of the command that this byte makes whole, while no write is in progress, and of every write
  module _ (s : Rooms) (i : Inside) (b : ℕ) (still : P Stay none) where
    abbrev Line : List ℕ
    Line = i.command ++ (b ∷ [])

    abbrev Which : Command
    Which = command_of (byte Line 0)

    module _ (obeys : i.write ≡ none → length Line ≡ bytes_for Which → OfEffect (obeyed i.setting s Which Line i.drives i.index))
        (writes : (w : Writing) → OfEffect (written s w (named w.c1 i.drives))) where
      of-command : (v : Bool) → i.write ≡ none → eqb (length Line) (bytes_for Which) ≡ v → OfEffect (command_if v i.setting s Which Line i.drives i.index)
      unfolding command_if
      of-command true n e = of-clearing (obeyed i.setting s Which Line i.drives i.index) (obeys n (eqb-true _ _ e))
      of-command false n e = still

      of-data : (v : Bool) (w : Writing) → OfEffect (data_if v s w i.drives)
      unfolding data_if
      of-data true w = writes w
      of-data false w = still

      of-byte : (w : Option Writing) → i.write ≡ w → OfSent (byte_for s i b w)
      unfolding byte_for command_byte data_byte
      of-byte none n =
          let v : Bool = eqb (length Line) (bytes_for Which) in
          of-sends (Add b) (command_if v i.setting s Which Line i.drives i.index) (of-command v n refl)
      of-byte (some w) n =
          let v : Bool = eqb (length (holding b w).held) (whole_of w.goal) in
          of-sends (Hold b) (data_if v s (holding b w) i.drives) (of-data v (holding b w))

      pub of-this : OfSent (sent s i b)
      unfolding sent
      of-this = of-byte i.write refl

  -- of every command and every write
  pub of-sent : (s : Rooms) (i : Inside) → P Stay none → ((k : Command) (l : List ℕ) → OfEffect (obeyed i.setting s k l i.drives i.index))
      → ((w : Writing) → OfEffect (written s w (named w.c1 i.drives))) → (b : ℕ) → OfSent (sent s i b)
  of-sent s i still obeys writes b = of-this s i b still (λ n e. obeys _ _) writes
