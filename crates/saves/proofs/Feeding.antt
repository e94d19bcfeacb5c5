-- What the bytes sent in a run do inside: a command is obeyed once it is whole, a write is done once its sector is full, and port reads change nothing there.
use mathlib.Core.Path.{◌≡◌, refl, sym, ap, ◌∙◌}
use Prim.Native.Nat.{ℕ, suc, ◌+◌, ◌<◌}
use native.Mathlib.Omega.{arith}
use mathlib.Core.Bool.{Bool, true}
use mathlib.Core.List.{List, [], ◌∷◌, ◌++◌, append-nil}
use mathlib.Core.Option.{Option, none, some}
use lib.ListN.{length, length-append}
use lib.Seq.{append_snoc}
use borrow.Author.Tests.{eq-eqb, ne_eqb}
use Rattle.fields.specs.Refusals.{after}
use Rattle.fields.specs.Model.{size_of, Disk}
use Rattle.fields.specs.declared.id.SectorId.{SectorId}
use Rattle.codes.specs.declared.command.Command.{Command}
use Rattle.registers.specs.declared.regs.Goal.TheVariants.{IntoSector}
use Rattle.registers.specs.Boxes.{Setting}
use Rattle.registers.specs.Boxes.{Rooms, Holds, Drives, Inside, World, Add, Hold, Effect, Sent, named, taken, changed, all_changed, put_in}
use Rattle.codes.specs.Table.{command_of, bytes_for}
use Rattle.registers.specs.Ports.{after_status, after_read}
use Rattle.commands.specs.Commands.{byte, obeyed, written}
use Rattle.sending.specs.Machine.{sends, clearing, command_if, command_byte, data_if, data_byte, byte_for, sent, done, write_port, reported, report_of}
use Rattle.fields.proofs.Tests.{never}
use Rattle.saves.specs.Events.{Question, motor_on?, which_track?, disk_in?, Event, poll, read, send, ask, switch, swap, widen, Answer, took, Next, run, granted}
use Rattle.saves.specs.Stages.{Stage, with_world, sent_on, answer_to, acted}
use Rattle.saves.specs.Words.{first_of, sent_in}
use Rattle.std.specs.Prelude.{Result, Ok, Err}
use Rattle.fields.specs.declared.refusal.Refusal.{Refusal}

-- ---- a byte, inside

-- what a whole effect does inside
abbrev pub effected : Effect → Inside → Inside
effected e i = put_in e.put (all_changed e.changes i)

unfoldable pub stepped : Rooms → Inside → ℕ → Result Inside Refusal
stepped s i b = after (sent s i b) (λ x. Ok (effected x.effect (taken x.taking i)))

-- the bytes, one after another
unfoldable pub fed : Rooms → List ℕ → Inside → Result Inside Refusal
fed s [] i = Ok i
fed s (b ∷ bs) i = after (stepped s i b) (λ j. fed s bs j)

-- one byte that is sent, before others
first-is : (b : ℕ) (o : Option (List ℕ)) (l : List ℕ) → first_of b o ≡ some l → (m : List ℕ) → o ≡ some m → l ≡ b ∷ m
first-is b none l e m q = never (cc)
first-is b (some n) l e m q = let z : b ∷ n ≡ l = cc in let y : n ≡ m = cc in sym z ∙ ap (λ (v : List ℕ). b ∷ v) y

-- what a sequence of port reads, questions and sent bytes does: its bytes do it inside, and the rooms stay
pub record Fed (es : List Event) (g : Stage) (l : List ℕ) : Type 0 where
  pub inside : fed g.rooms l g.world.inside ≡ Ok (run acted es g).end.world.inside
  pub rooms : (run acted es g).end.rooms ≡ g.rooms

-- a byte sent, by all that it does
abbrev pub byte_on : Stage → Result Sent Refusal → Next Answer Stage
byte_on g x = sent_on g (reported x) (after x (λ v. Ok (done g.world v)))

-- a byte sent that is taken, on the machine and inside
module _ (b : ℕ) (g : Stage) (y : Sent) (q : sent g.rooms g.world.inside b ≡ Ok y) where
  taken_is : acted (send b) g ≡ record { answer = took y.effect.report; then = with_world (done g.world y) g }
  unfolding acted write_port report_of
  taken_is = ap (byte_on g) q

  end_is : (es : List Event) → (run acted (send b ∷ es) g).end ≡ (run acted es (with_world (done g.world y) g)).end
  unfolding run
  end_is es = ap (λ (z : Next Answer Stage). (run acted es z.then).end) taken_is

  step_is : (m : List ℕ) → fed g.rooms (b ∷ m) g.world.inside ≡ fed g.rooms m (done g.world y).inside
  unfolding fed stepped done
  step_is m = ap (λ (z : Result Sent Refusal). after (after z (λ v. Ok (effected v.effect (taken v.taking g.world.inside)))) (λ j. fed g.rooms m j)) q

-- the answer to a byte, and what follows
abbrev AfterByte : List Event → Stage → Result Sent Refusal → List Answer
AfterByte es g x = let y : Next Answer Stage = byte_on g x in y.answer ∷ (run acted es y.then).answers

sent-go : (b : ℕ) (es : List Event) (g : Stage) (l : List ℕ) → first_of b (sent_in es) ≡ some l
    → ((h : Stage) (m : List ℕ) → sent_in es ≡ some m → granted (run acted es h).answers ≡ true → Fed es h m)
    → (o : Option (List ℕ)) → sent_in es ≡ o → (x : Result Sent Refusal) → sent g.rooms g.world.inside b ≡ x → granted (AfterByte es g x) ≡ true → Fed (send b ∷ es) g l
unfolding granted
sent-go b es g l e ih none n x q ok = let z : first_of b none ≡ some l = ap (first_of b) (sym n) ∙ e in never (cc)
sent-go b es g l e ih (some m) n (Err why) q ok = never (cc)
sent-go b es g l e ih (some m) n (Ok y) q ok =
    let r = ih (with_world (done g.world y) g) m n ok in
    record {
      inside = ap (λ (v : List ℕ). fed g.rooms v g.world.inside) (first-is b (sent_in es) l e m n) ∙ step_is b g y q m ∙ r.inside
          ∙ ap (λ (z : Stage). Ok z.world.inside) (sym (end_is b g y q es));
      rooms = ap (λ (z : Stage). z.rooms) (end_is b g y q es) ∙ r.rooms;
    }

-- an answer to a question is no refusal
asked-grants : (q : Question) (w : World) (l : List Answer) → granted (answer_to q w ∷ l) ≡ granted l
unfolding answer_to granted
asked-grants motor_on? w l = refl
asked-grants which_track? w l = refl
asked-grants disk_in? w l = refl

-- port reads and questions change nothing inside: what a sequence does there, its sent bytes do
pub run-fed : (es : List Event) (g : Stage) (l : List ℕ) → sent_in es ≡ some l → granted (run acted es g).answers ≡ true → Fed es g l
unfolding run sent_in fed acted write_port report_of after_status after_read granted
run-fed [] g l e ok = let z : [] ≡ l = cc in record { inside = ap (λ (v : List ℕ). fed g.rooms v g.world.inside) (sym z); rooms = refl }
run-fed (poll ∷ es) g l e ok = let r = run-fed es (acted poll g).then l e ok in record { inside = r.inside; rooms = r.rooms }
run-fed (read ∷ es) g l e ok = let r = run-fed es (acted read g).then l e ok in record { inside = r.inside; rooms = r.rooms }
run-fed (send b ∷ es) g l e ok =
    sent-go b es g l e (run-fed es) (sent_in es) refl (sent g.rooms g.world.inside b) refl ok
run-fed (ask q ∷ es) g l e ok = let r = run-fed es g l e (sym (asked-grants q g.world (run acted es g).answers) ∙ ok) in record { inside = r.inside; rooms = r.rooms }
run-fed (switch on ∷ es) g l e ok = never (cc)
run-fed (swap present t b ∷ es) g l e ok = never (cc)
run-fed (widen y ∷ es) g l e ok = never (cc)

-- ---- a byte of a command

-- drive 0 over a cylinder, with a disk in
abbrev pub drive_over : ℕ → Disk → Drives
drive_over c d = record { first = record { cylinder = c; slot = Holds (Ok d) } }

-- no write in progress, a disk in, and so much of a command sent
abbrev pub partly : Setting → Bool → ℕ → ℕ → Disk → List ℕ → Inside
partly σ m c x d command = record { setting = σ; motor = m; index = x; command = command; write = none; drives = drive_over c d }

-- a write in progress
abbrev pub writing : Setting → Bool → ℕ → ℕ → Disk → ℕ → SectorId → List ℕ → Inside
writing σ m c x d c1 id held =
    record { setting = σ; motor = m; index = x; command = []; write = some (record { c1 = c1; goal = IntoSector id; held = held }); drives = drive_over c d }

module _ (s : Rooms) (σ : Setting) (m : Bool) (c x : ℕ) (d : Disk) where
  module _ (p : List ℕ) (b : ℕ) (k : Command) (first : command_of (byte (p ++ (b ∷ [])) 0) ≡ k) where
    -- a command that is not yet whole waits
    step_part : (length (p ++ (b ∷ [])) ≡ bytes_for k → ⊥) → stepped s (partly σ m c x d p) b ≡ Ok (partly σ m c x d (p ++ (b ∷ [])))
    unfolding stepped sent byte_for command_byte command_if taken all_changed put_in
    step_part n = rw (first, ne_eqb (length (p ++ (b ∷ []))) (bytes_for k) n)

    -- and one that is whole is obeyed
    step-whole : length (p ++ (b ∷ [])) ≡ bytes_for k
        → stepped s (partly σ m c x d p) b ≡ after (obeyed σ s k (p ++ (b ∷ [])) (drive_over c d) x) (λ e. Ok (effected e (partly σ m c x d [])))
    unfolding stepped sent byte_for command_byte command_if
    step-whole n = rw (first, eq-eqb (length (p ++ (b ∷ []))) (bytes_for k) n) (cleared (obeyed σ s k (p ++ (b ∷ [])) (drive_over c d) x))
      where
        cleared : (e : Result Effect Refusal) → after (sends (Add b) (clearing e)) (λ y. Ok (effected y.effect (taken y.taking (partly σ m c x d p)))) ≡ after e (λ y. Ok (effected y (partly σ m c x d [])))
        cleared (Err why) = refl
        cleared (Ok e) = unfold taken all_changed changed in refl

  rest-fed : (f : ℕ) (k : Command) → command_of f ≡ k → (p : List ℕ) (b : ℕ) (r bs : List ℕ) → suc (length p) + suc (length r) ≡ bytes_for k
      → fed s (b ∷ (r ++ bs)) (partly σ m c x d (f ∷ p)) ≡ after (after (obeyed σ s k (f ∷ (p ++ (b ∷ r))) (drive_over c d) x) (λ e. Ok (effected e (partly σ m c x d [])))) (λ j. fed s bs j)
  unfolding fed
  rest-fed f k e p b [] bs n = ap (λ (y : Result Inside Refusal). after y (λ j. fed s bs j)) (step-whole (f ∷ p) b k e (simp length-append (omega arith)))
  rest-fed f k e p b (b' ∷ r) bs n =
      let z : (p ++ (b ∷ [])) ++ (b' ∷ r) ≡ p ++ (b ∷ (b' ∷ r)) = append_snoc p b (b' ∷ r) in
      ap (λ (y : Result Inside Refusal). after y (λ j. fed s (b' ∷ (r ++ bs)) j)) (step_part (f ∷ p) b k e (simp length-append (omega arith)))
      ∙ rest-fed f k e (p ++ (b ∷ [])) b' r bs (simp length-append (omega arith))
      ∙ ap (λ (l : List ℕ). after (after (obeyed σ s k (f ∷ l) (drive_over c d) x) (λ e. Ok (effected e (partly σ m c x d [])))) (λ j. fed s bs j)) z

  -- a command of two bytes or more
  pub command-fed : (f : ℕ) (k : Command) → command_of f ≡ k → (b : ℕ) (r bs : List ℕ) → suc (suc (length r)) ≡ bytes_for k
      → fed s (f ∷ (b ∷ (r ++ bs))) (partly σ m c x d []) ≡ after (after (obeyed σ s k (f ∷ (b ∷ r)) (drive_over c d) x) (λ e. Ok (effected e (partly σ m c x d [])))) (λ j. fed s bs j)
  unfolding fed
  command-fed f k e b r bs n =
      ap (λ (y : Result Inside Refusal). after y (λ j. fed s (b ∷ (r ++ bs)) j)) (step_part [] f k e (omega arith))
      ∙ rest-fed f k e [] b r bs (omega arith)

  more-fed : (f : ℕ) (k : Command) → command_of f ≡ k → (p r : List ℕ) → suc (length p) + length r < bytes_for k
      → fed s r (partly σ m c x d (f ∷ p)) ≡ Ok (partly σ m c x d (f ∷ (p ++ r)))
  unfolding fed
  more-fed f k e p [] n = ap (λ (l : List ℕ). Ok (partly σ m c x d (f ∷ l))) (sym (append-nil p))
  more-fed f k e p (b ∷ r) n =
      ap (λ (y : Result Inside Refusal). after y (λ j. fed s r j)) (step_part (f ∷ p) b k e (simp length-append (omega arith)))
      ∙ more-fed f k e (p ++ (b ∷ [])) r (simp length-append (omega arith))
      ∙ ap (λ (l : List ℕ). Ok (partly σ m c x d (f ∷ l))) (append_snoc p b r)

  -- a command of which bytes are still to come
  pub part-fed : (f : ℕ) (k : Command) → command_of f ≡ k → (r : List ℕ) → suc (length r) < bytes_for k → fed s (f ∷ r) (partly σ m c x d []) ≡ Ok (partly σ m c x d (f ∷ r))
  unfolding fed
  part-fed f k e r n = ap (λ (y : Result Inside Refusal). after y (λ j. fed s r j)) (step_part [] f k e (omega arith)) ∙ more-fed f k e [] r (omega arith)

  -- ---- a byte of a write

  module _ (c1 : ℕ) (id : SectorId) where
    abbrev pub Written : List ℕ → Result Effect Refusal
    Written held = written s (record { c1 = c1; goal = IntoSector id; held = held }) (named c1 (drive_over c d))

    data-part : (held : List ℕ) (b : ℕ) → (length (held ++ (b ∷ [])) ≡ size_of id.n → ⊥) → stepped s (writing σ m c x d c1 id held) b ≡ Ok (writing σ m c x d c1 id (held ++ (b ∷ [])))
    unfolding stepped sent byte_for data_byte data_if taken all_changed put_in
    data-part held b n = rw (ne_eqb (length (held ++ (b ∷ []))) (size_of id.n) n)

    data-whole : (held : List ℕ) (b : ℕ) → length (held ++ (b ∷ [])) ≡ size_of id.n
        → stepped s (writing σ m c x d c1 id held) b
        ≡ after (Written (held ++ (b ∷ []))) (λ e. Ok (effected e (writing σ m c x d c1 id (held ++ (b ∷ [])))))
    unfolding stepped sent byte_for data_byte data_if
    data-whole held b n = rw (eq-eqb (length (held ++ (b ∷ []))) (size_of id.n) n) (held_all (Written (held ++ (b ∷ []))))
      where
        held_all : (e : Result Effect Refusal) → after (sends (Hold b) e) (λ y. Ok (effected y.effect (taken y.taking (writing σ m c x d c1 id held)))) ≡ after e (λ y. Ok (effected y (writing σ m c x d c1 id (held ++ (b ∷ [])))))
        held_all (Err why) = refl
        held_all (Ok e) = unfold taken in refl

    after-good : (y : Result Inside Refusal) → after y (λ j. fed s [] j) ≡ y
    unfolding fed
    after-good (Err why) = refl
    after-good (Ok j) = refl

    -- the bytes of a write: with the last one it is done
    pub data-fed : (held : List ℕ) (b : ℕ) (r : List ℕ) → length held + suc (length r) ≡ size_of id.n
        → fed s (b ∷ r) (writing σ m c x d c1 id held)
        ≡ after (Written (held ++ (b ∷ r))) (λ e. Ok (effected e (writing σ m c x d c1 id (held ++ (b ∷ r)))))
    unfolding fed
    data-fed held b [] n = after-good (stepped s (writing σ m c x d c1 id held) b) ∙ data-whole held b (simp length-append (omega arith))
    data-fed held b (b' ∷ r) n =
        ap (λ (y : Result Inside Refusal). after y (λ j. fed s (b' ∷ r) j)) (data-part held b (simp length-append (omega arith)))
        ∙ data-fed (held ++ (b ∷ [])) b' r (simp length-append (omega arith))
        ∙ ap (λ (l : List ℕ). after (Written l) (λ e. Ok (effected e (writing σ m c x d c1 id l)))) (append_snoc held b (b' ∷ r))
