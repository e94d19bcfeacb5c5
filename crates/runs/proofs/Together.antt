-- Hosts that are alike stay alike: every call answers the same on both, refusals included, and leaves the same store.
use mathlib.Core.Path.{◌≡◌, refl, sym, ap, ap₂, subst, ◌∙◌}
use Prim.Native.Nat.{ℕ}
use mathlib.Core.Bool.{Bool}
use mathlib.Core.List.{List, [], ◌∷◌}
use mathlib.Core.Option.{Option, none}
use Rattle.fields.specs.Model.{Disk}
use Rattle.store.specs.Store.{room_of}
use Rattle.registers.specs.Boxes.{Sent}
use Rattle.registers.specs.Calls.{disk_set}
use Rattle.registers.proofs.Seen.{disk-seen}
use Rattle.commands.specs.Lent.{table_with, data_with, Left, left_of}
use Rattle.sending.specs.Machine.{sent}
use Rattle.floppy.specs.Calls.{wrote_as}
use Rattle.saves.specs.Events.{Event, poll, read, send, ask, switch, swap, widen, Answer, Next, run}
use Rattle.saves.specs.Stages.{Stage, acted}
use Rattle.runs.specs.Hosts.{Host, with_floppy, if_swapped, after_wrote, called, lent, stage_of, Sound}
use Rattle.runs.specs.Alike.{Both, Alike}
use Rattle.runs.proofs.Steps.{write_as, agrees}
use Rattle.std.specs.Prelude.{Result, Ok, Err}
use Rattle.fields.specs.declared.refusal.Refusal.{Refusal}

-- ---- two runs beside each other

module _ {A B S T : Type 0} (step : Event → S → Next A S) (other : Event → T → Next B T) (R : S → T → Type 0) (Q : A → B → Type 0)
    (Paired : S → T → Event → Event → Type 0)
    (one : (s : S) (t : T) (e f : Event) → R s t → Paired s t e f → Q (step e s).answer (other f t).answer × R (step e s).then (other f t).then) where
  -- calls that are paired, each pair where the ones before it lead
  pub Along : List Event → List Event → S → T → Type 0
  Along [] [] s t = Unit {0}
  Along [] (f ∷ fs) s t = ⊥
  Along (e ∷ es) [] s t = ⊥
  Along (e ∷ es) (f ∷ fs) s t = Paired s t e f × Along es fs (step e s).then (other f t).then

  -- What every pair of calls keeps is kept by all of them, and their answers go together.
  pub together : (es fs : List Event) (s : S) (t : T) → R s t → Along es fs s t
      → Both Q (run step es s).answers (run other fs t).answers × R (run step es s).end (run other fs t).end
  unfolding run Both Along
  together [] [] s t r p = (tt, r)
  together [] (f ∷ fs) s t r p = absurd p
  together (e ∷ es) [] s t r p = absurd p
  together (e ∷ es) (f ∷ fs) s t r p =
      let x = one s t e f r p.0 in
      let rest = together es fs (step e s).then (other f t).then x.1 p.1 in
      ((x.0, rest.0), rest.1)

-- lists whose elements are equal one by one are equal
both_equal : {A : Type 0} (xs ys : List A) → Both ◌≡◌ xs ys → xs ≡ ys
unfolding Both
both_equal [] [] p = refl
both_equal [] (y ∷ ys) p = absurd p
both_equal (x ∷ xs) [] p = absurd p
both_equal (x ∷ xs) (y ∷ ys) p = λ i. p.0 i ∷ both_equal xs ys p.1 i

-- ---- the store after a call, by what is seen before it

abbrev pub put_by : Result Sent Refusal → Option Disk
put_by (Err why) = none
put_by (Ok y) = y.effect.put

abbrev pub table_then : Event → Stage → List ℕ → List ℕ
table_then poll g t = t
table_then read g t = t
table_then (send b) g t = table_with (put_by (sent g.rooms g.world.inside b)) t
table_then (ask q) g t = t
table_then (switch on) g t = t
table_then (swap present u v) g t = u
table_then (widen y) g t = t

abbrev pub data_then : Event → Stage → List ℕ → List ℕ
data_then poll g b = b
data_then read g b = b
data_then (send x) g b = data_with (put_by (sent g.rooms g.world.inside x)) b
data_then (ask q) g b = b
data_then (switch on) g b = b
data_then (swap present u v) g b = v
data_then (widen y) g b = b

module _ (k : Host) (s : Sound k) where
  abbrev pub Store : Event → Type 0
  Store e = ((called e k).then.table ≡ table_then e (stage_of k) k.table) × ((called e k).then.bytes ≡ data_then e (stage_of k) k.bytes)

  sent-store : (b : ℕ) → Store (send b)
  unfolding called
  sent-store b = go (sent (lent k) (stage_of k).world.inside b) refl
    where
      left-table : (y : Result Sent Refusal) → (after_wrote (wrote_as (left_of y k.floppy.regs k.floppy.held k.table k.bytes k.transfer))).then.table ≡ table_with (put_by y) k.table
      left-table (Err why) = unfold left_of in refl
      left-table (Ok y) = unfold left_of in refl

      left-data : (y : Result Sent Refusal) → (after_wrote (wrote_as (left_of y k.floppy.regs k.floppy.held k.table k.bytes k.transfer))).then.bytes ≡ data_with (put_by y) k.bytes
      left-data (Err why) = unfold left_of in refl
      left-data (Ok y) = unfold left_of in refl

      go : (y : Result Sent Refusal) → sent (lent k) (stage_of k).world.inside b ≡ y → Store (send b)
      go y e = (
        ap (λ (l : Left). (after_wrote (wrote_as l)).then.table) (write_as k s b y e) ∙ left-table y ∙ ap (λ (z : Result Sent Refusal). table_with (put_by z) k.table) (sym e),
        ap (λ (l : Left). (after_wrote (wrote_as l)).then.bytes) (write_as k s b y e) ∙ left-data y ∙ ap (λ (z : Result Sent Refusal). data_with (put_by z) k.bytes) (sym e),
      )

  -- a disk change lends the other store from then on
  pub swapped-store : (present : Bool) (t b : List ℕ) → Store (swap present t b)
  unfolding called
  swapped-store present t b =
      let r = k.floppy.regs in
      let d = (disk-seen r k.floppy.held k.table k.bytes k.transfer s.possible s.nine s.seven present t b).0 in
      let j : Host = with_floppy (record { regs = (disk_set present r).regs; held = k.floppy.held }) k in
      (ap (λ (a : Result (Unit {0}) Refusal). (if_swapped a t b j).table) d, ap (λ (a : Result (Unit {0}) Refusal). (if_swapped a t b j).bytes) d)

  store_then : (e : Event) → Store e
  unfolding called
  store_then poll = (refl, refl)
  store_then read = (refl, refl)
  store_then (send b) = sent-store b
  store_then (ask q) = (refl, refl)
  store_then (switch on) = (refl, refl)
  store_then (swap present t b) = swapped-store present t b
  store_then (widen y) = (refl, refl)

-- ---- hosts that are alike

-- they stand at one stage
pub alike-stage : (k j : Host) → Alike k j → stage_of k ≡ stage_of j
alike-stage k j a = λ i. record { rooms = record { room = room_of (a.bytes i); transfer = a.room i }; world = a.boxes i }

-- One call answers the same on both, and leaves them alike.
pub alike-call : (k j : Host) (e : Event) → Alike k j → ((called e k).answer ≡ (called e j).answer) × Alike (called e k).then (called e j).then
alike-call k j e a =
    let x = agrees k a.one e in
    let y = agrees j a.other e in
    let g = alike-stage k j a in
    let n : ◌≡◌ {A = Next Answer Stage} (record { answer = (called e k).answer; then = stage_of (called e k).then }) (record { answer = (called e j).answer; then = stage_of (called e j).then })
    = sym x.0 ∙ ap (acted e) g ∙ y.0 in
    let u = store_then k a.one e in
    let v = store_then j a.other e in (
      ap (λ (z : Next Answer Stage). z.answer) n,
      record {
        one = x.1;
        other = y.1;
        boxes = ap (λ (z : Next Answer Stage). z.then.world) n;
        table = u.0 ∙ ap₂ (table_then e) g a.table ∙ sym v.0;
        bytes = u.1 ∙ ap₂ (data_then e) g a.bytes ∙ sym v.1;
        room = ap (λ (z : Next Answer Stage). z.then.rooms.transfer) n;
      },
    )

-- the same call is made on both
abbrev SameCall : Host → Host → Event → Event → Type 0
SameCall k j e f = e ≡ f

same-call : (k j : Host) (e f : Event) → Alike k j → SameCall k j e f → ((called e k).answer ≡ (called f j).answer) × Alike (called e k).then (called f j).then
same-call k j e f a p = subst (λ (g : Event). ((called e k).answer ≡ (called g j).answer) × Alike (called e k).then (called g j).then) p (alike-call k j e a)

same-calls : (es : List Event) (k j : Host) → Along called called Alike ◌≡◌ SameCall same-call es es k j
unfolding Along
same-calls [] k j = tt
same-calls (e ∷ es) k j = (refl, same-calls es (called e k).then (called e j).then)

-- Two controllers that show equal boxes, with the same store and as much transfer room lent, answer alike to every sequence of calls, refusals
-- included, and stay alike, so that they leave the same store.
pub alike-calls : (es : List Event) (k j : Host) → Alike k j
    → ((run called es k).answers ≡ (run called es j).answers) × Alike (run called es k).end (run called es j).end
alike-calls es k j a =
    let r = together called called Alike ◌≡◌ SameCall same-call es es k j a (same-calls es k j) in
    (both_equal (run called es k).answers (run called es j).answers r.0, r.1)
