-- What holds over any calls: on a controller that is one, and so from a new controller on.
use mathlib.Core.Path.{◌≡◌, refl, sym, ap, subst, ◌∙◌}
use mathlib.Core.Logic.{◌↔◌}
use Prim.Native.Nat.{ℕ, zero, suc, ◌*◌, ◌-◌, ◌≤◌}
use native.Mathlib.Omega.{arith}
use mathlib.Core.List.{List, [], ◌∷◌, map-id}
use mathlib.Core.Option.{none}
use lib.ListN.{length, replicate, length-replicate}
use borrow.Author.Tests.{le-ltb}
use Rattle.fields.specs.Capacities.{most_held}
use Rattle.fields.specs.Model.{Each}
use Rattle.fields.specs.declared.refusal.Refusal.TheVariants.{BadController, BadStore}
use Rattle.store.specs.Store.{transfer_room}
use Rattle.codes.specs.Table.{mask_rows, rows, command_by, command_of}
use Rattle.registers.specs.Boxes.{setting_of, World}
use Rattle.registers.specs.Ports.{polls}
use Rattle.registers.specs.View.{rooms_of, inside_of, front_of, impossible, impossible_in}
use Rattle.registers.proofs.Numbers.{possible, possible-in}
use Rattle.registers.proofs.Polls.{polls-empty}
use Rattle.floppy.specs.Calls.{new_floppy}
use Rattle.floppy.proofs.Seen.{new-seen, setting-few}
use Rattle.saves.specs.Events.{Event, poll, Answer, denied, Run, run}
use Rattle.saves.specs.Stages.{Stage, new_stage, acted, Unbroken, PutsUnbroken}
use Rattle.saves.specs.Words.{in_drive}
use Rattle.saves.proofs.Unbrokens.{run-unbroken}
use Rattle.runs.specs.Hosts.{Host, called, seen, stage_of, new_host, Sound}
use Rattle.runs.proofs.Follows.{follows}
use Rattle.runs.proofs.Steps.{agrees, tame, never-2, call-unbroken}

-- ---- from a controller that is one

module _ (es : List Event) (k : Host) (s : Sound k) where
  -- Calls answer what the machine's run answers, refusals included, and leave what it leaves, seen.
  pub calls-run : run acted es (stage_of k) ≡ record { answers = (run called es k).answers; end = stage_of (run called es k).end }
  calls-run =
      (follows called acted (λ a. a) stage_of Sound (λ e j h. agrees j h e) es k s).0
      ∙ ap (λ (l : List Answer). record { answers = l; end = stage_of (run called es k).end }) (map-id (run called es k).answers)

  -- They leave a controller that is one: possible stays possible.
  pub calls-sound : Sound (run called es k).end
  calls-sound = (follows called acted (λ a. a) stage_of Sound (λ e j h. agrees j h e) es k s).1

-- None of them is refused with 1.
pub calls-tame : (es : List Event) (k : Host) → Sound k → Each (λ (a : Answer). a ≡ denied BadController → ⊥) (run called es k).answers
unfolding run Each
calls-tame [] k s = tt
calls-tame (e ∷ es) k s = (tame k s e, calls-tame es (called e k).then (agrees k s e).1)

-- If no store that breaks the layout is in the drive, and no disk change puts one in, none is there after any calls.
pub calls-unbroken : (es : List Event) (k : Host) → Sound k → Each PutsUnbroken es → Unbroken (in_drive (seen k)) → Unbroken (in_drive (seen (run called es k).end))
calls-unbroken es k s q h = subst (λ (r : Run Answer Stage). Unbroken (in_drive r.end.world)) (calls-run es k s) (run-unbroken es (stage_of k) q h)

-- And none of them is refused with 2.
pub calls-never-2 : (es : List Event) (k : Host) → Sound k → Each PutsUnbroken es → Unbroken (in_drive (seen k))
    → Each (λ (a : Answer). a ≡ denied BadStore → ⊥) (run called es k).answers
unfolding run Each
calls-never-2 [] k s q h = tt
calls-never-2 (e ∷ es) k s q h = (never-2 k s h e, calls-never-2 es (called e k).then (agrees k s e).1 q.1 (call-unbroken k s e q.0 h))

-- ---- from a new controller

module _ (n : ℕ) (t b x : List ℕ) where
  -- A new controller is one.
  pub new-sound : Sound (new_host n t b x)
  unfolding new_floppy impossible impossible_in command_of command_by rows mask_rows
  new-sound = record { nine = refl; seven = refl; held = length-replicate {A = ℕ} most_held 0; index-fits = omega arith; taken-fits = omega arith; setting-fits = setting-few n; possible = le-ltb (transfer_room x) 0 (omega arith) }

  new-stage : new_stage (setting_of n) (rooms_of b x) ≡ stage_of (new_host n t b x)
  new-stage i = record { rooms = rooms_of b x; world = sym (new-seen n t b x) i }

  module _ (es : List Event) where
    -- Over any calls from a new controller, what they answer and leave is what the machine answers and leaves from a new world.
    pub new-run : run acted es (new_stage (setting_of n) (rooms_of b x)) ≡ record { answers = (run called es (new_host n t b x)).answers; end = stage_of (run called es (new_host n t b x)).end }
    new-run = ap (run acted es) new-stage ∙ calls-run es (new_host n t b x) new-sound

    -- Refusal 1 never comes.
    pub new-tame : Each (λ (a : Answer). a ≡ denied BadController → ⊥) (run called es (new_host n t b x)).answers
    new-tame = calls-tame es (new_host n t b x) new-sound

    -- Nor does refusal 2, if every disk that is put in is one that its store holds.
    pub new-never-2 : Each PutsUnbroken es → Each (λ (a : Answer). a ≡ denied BadStore → ⊥) (run called es (new_host n t b x)).answers
    unfolding new_floppy inside_of
    new-never-2 q = calls-never-2 es (new_host n t b x) new-sound q tt

-- ---- lost bytes

polls-run : (n : ℕ) (g : Stage) → (run acted (replicate n poll) g).end.world ≡ polls n g.world
unfolding run acted polls
polls-run zero g = refl
polls-run (suc n) g = polls-run n (acted poll g).then

-- With unread data, no write in progress and lost count L, n status reads leave no data exactly where 3k - L is at most n.
pub polls-calls : (n : ℕ) (k : Host) → Sound k → (seen k).inside.write ≡ none → 1 ≤ length (seen k).front.unread
    → (length (seen (run called (replicate n poll) k).end).front.unread ≡ 0) ↔ (3 * length (seen k).front.unread - (seen k).front.lost ≤ n)
polls-calls n k s idle some =
    let e : polls n (seen k) ≡ seen (run called (replicate n poll) k).end = sym (polls-run n (stage_of k)) ∙ ap (λ (r : Run Answer Stage). r.end.world) (calls-run (replicate n poll) k s) in
    let q : (seen k).front.lost ≤ 2 = unfold front_of in (possible k.floppy.regs (possible-in k.transfer k.floppy.regs s.possible)).lost-in in
    let both = polls-empty n (seen k) idle q some in
    (λ z. both.0 (ap (λ (w : World). length w.front.unread) e ∙ z), λ z. sym (ap (λ (w : World). length w.front.unread) e) ∙ both.1 z)
