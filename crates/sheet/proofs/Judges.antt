-- What the proofs of the reader cite: the tests that it makes, and where they lead.
use mathlib.Core.Path.{◌≡◌, refl, sym, ap, ap₂, ◌∙◌, subst}
use Prim.Native.Nat.{ℕ, zero, suc, ◌+◌, ◌*◌, ◌-◌, ◌%◌, ◌^◌, ◌≤◌, ◌<◌}
use native.Mathlib.Nat.{add-zero}
use native.Mathlib.Omega.{arith}
use mathlib.Core.Bool.{Bool, true, false, not, ◌&&◌, ◌||◌}
use mathlib.Core.List.{List, []}
use lib.ListN.{length, take, drop, replicate, length-drop, drop_of_length-le}
use lib.Seq.{get_or-drop, drop-drop}
use lib.Dec.{eqb, leb, ltb}
use borrow.Author.Tests.{eq-eqb, ne_eqb, le-leb, lt-leb, leb-true, eqb-true, not-true, not-false}
use Rattle.buffer.specs.Over.{over}
use Rattle.buffer.proofs.Overs.{over-nil}
use Rattle.fields.specs.Bytes.{byte_at}
use Rattle.fields.specs.Capacities.{most_transfer, most_held}
use Rattle.fields.specs.Refusals.{need, after}
use Rattle.fields.specs.declared.refusal.Refusal.{Refusal}
use Rattle.fields.specs.declared.refusal.Refusal.TheVariants.{BadSheet, NoTransferRoom}
use Rattle.store.specs.Store.{transfer_room}
use Rattle.store.proofs.Checks.{transfer-in}
use Rattle.fields.proofs.Tests.{and-fst, and-snd, never}
use Rattle.codes.specs.declared.command.Command.{Command}
use Rattle.codes.specs.Table.{command_of, bytes_for}
use Rattle.codes.proofs.Rows.{bytes-range}
use Rattle.registers.specs.declared.regs.Drive.{Drive}
use Rattle.registers.specs.declared.regs.Pending.{Pending}
use Rattle.registers.specs.declared.regs.Regs.{Regs}
use Rattle.registers.specs.declared.regs.Seek.{Seek}
use Rattle.registers.specs.declared.regs.Goal.{Goal}
use Rattle.registers.specs.declared.regs.Target.{Target}
use Rattle.registers.specs.Boxes.{Setting, setting_of, Writing, World}
use Rattle.registers.specs.View.{goal_if, wrong_work}
use Rattle.registers.specs.declared.regs.Answered.{Answered}
use Rattle.registers.specs.Settle.{accepted, declined, no_pending, track_in, target_in}
use Rattle.layout.specs.Layout.{flag_at, seek_at}
use Rattle.sheet.specs.declared.reading.Places.{Places}
use Rattle.sheet.specs.Sheets.{high_at, box_at, behind, behind_new, is_old, places_of, boxes_at, framed, Sheet, one_to, is_work, in_range, target_at, work_if, in_box}
use Rattle.sheet.specs.Sheets.{either_box, no_write, world_from, wrong_writing, wrong_boxes, sheet_at, world_in}
use Rattle.sheet.specs.Calls.{on_zeros, pending_for, held_for, regs_for, taken_from, whether_taken, resuming, resumed_as, sheet_read}
use Rattle.sheet.proofs.Gives.{machine-number, held-few, command-few, reply-few, write-fits}
use Rattle.std.specs.Prelude.{Result, Ok, Err}

-- ---- the form

-- a number among the bytes from a place on
high-rest : (width : ℕ) (s : List ℕ) (at k : ℕ) → high_at width (drop at s) k ≡ high_at width s (at + k)
unfolding high_at
high-rest zero s at k = refl
high-rest (suc width) s at k =
    let e : at + (k + 1) ≡ at + k + 1 = omega arith in
    let z : high_at width (drop at s) (k + 1) ≡ high_at width s (at + k + 1) = high-rest width s at (k + 1) ∙ ap (high_at width s) e in
    λ i. 256 ^ width * get_or-drop at s k 0 i + z i

-- the part of the bytes that a box is
pub box-part : (width : ℕ) (s rest r : List ℕ) (at n : ℕ) → rest ≡ drop at s → n ≡ high_at width rest 0 → r ≡ take n (drop width rest) → r ≡ box_at width s at
unfolding box_at
box-part width s rest r at n e f q =
    let z : n ≡ high_at width s at = f ∙ ap (λ (y : List ℕ). high_at width y 0) e ∙ high-rest width s at 0 ∙ ap (high_at width s) (add-zero at) in
    q ∙ (λ i. take (z i) (drop width (e i))) ∙ ap (take (high_at width s at)) (drop-drop width at s)

-- the tests of the form
pub framed_is : (s : List ℕ) (p : Places) (v n : ℕ) (x : List ℕ) (m : Bool) → p ≡ places_of s → v ≡ byte_at s 0 → n ≡ high_at 4 s 1
    → x ≡ box_at 2 s p.machine → m ≡ one_to 1 x → ((eqb v 1 || (eqb v 2 && m)) && (eqb (5 + n) (length s) && eqb p.end (length s))) ≡ framed s
unfolding framed sheet_at
framed_is s p v n x m q e f g h =
    let m' : m ≡ one_to 1 (box_at 2 s (places_of s).machine) = h ∙ ap (one_to 1) (g ∙ ap (λ (y : Places). box_at 2 s y.machine) q) in
    λ i. (eqb (e i) 1 || (eqb (e i) 2 && m' i)) && (eqb (5 + f i) (length s) && eqb (q i).end (length s))

-- the places, one behind another
pub places-are : (s : List ℕ) (old : Bool) (cylinder seek index command reply unread lost write machine format end : ℕ)
    → cylinder ≡ behind 2 s 5 → seek ≡ behind 2 s cylinder → index ≡ behind 2 s seek → command ≡ behind 2 s index → reply ≡ behind 2 s command
    → unread ≡ behind 2 s reply → lost ≡ behind 4 s unread → write ≡ behind 2 s lost → machine ≡ behind 2 s write → old ≡ is_old s
    → format ≡ behind_new old s machine → end ≡ behind_new old s format
    → record {
      motor = 5;
      cylinder = cylinder;
      seek = seek;
      index = index;
      command = command;
      reply = reply;
      unread = unread;
      lost = lost;
      write = write;
      machine = machine;
      format = format;
      end = end;
    } ≡ places_of s
unfolding places_of
places-are s old cylinder seek index command reply unread lost write machine format end a b c d e f g h k o l m =
    let b' = b ∙ ap (behind 2 s) a in
    let c' = c ∙ ap (behind 2 s) b' in
    let d' = d ∙ ap (behind 2 s) c' in
    let e' = e ∙ ap (behind 2 s) d' in
    let f' = f ∙ ap (behind 2 s) e' in
    let g' = g ∙ ap (behind 4 s) f' in
    let h' = h ∙ ap (behind 2 s) g' in
    let k' = k ∙ ap (behind 2 s) h' in
    let l' = l ∙ ap₂ (λ (v : Bool) (n : ℕ). behind_new v s n) o k' in
    let m' = m ∙ ap₂ (λ (v : Bool) (n : ℕ). behind_new v s n) o l' in
    λ i. record {
      motor = 5;
      cylinder = a i;
      seek = b' i;
      index = c' i;
      command = d' i;
      reply = e' i;
      unread = f' i;
      lost = g' i;
      write = h' i;
      machine = k' i;
      format = l' i;
      end = m' i;
    }

-- ---- the box of a write

pub five-there : (x : List ℕ) → is_work x ≡ true → (length x ≡ 0 → ⊥) → 5 ≤ length x
five-there x e q =
    let z : leb 5 (length x) ≡ true = subst (λ (v : Bool). (v || leb 5 (length x)) ≡ true) (ne_eqb (length x) 0 q) e in
    leb-true 5 (length x) z

pub wrong-none : (y : Setting) (t : Bool) (x : List ℕ) → length x ≡ 0 → false ≡ wrong_writing y (in_box t x)
wrong-none y t x e = rw (eq-eqb (length x) 0 e) refl

-- the test of a write that is there
pub wrong-some : (y : Setting) (t : Bool) (x : List ℕ) (z : Target) (g : Goal) (v : Bool) → (length x ≡ 0 → ⊥) → z ≡ target_at x → g ≡ goal_if t z
    → v ≡ wrong_work y (byte_at x 0) g (length x - 5) → v ≡ wrong_writing y (in_box t x)
wrong-some y t x z g v q e f h =
    let g' : g ≡ goal_if t (target_at x) = f ∙ ap (goal_if t) e in
    rw (ne_eqb (length x) 0 q) (h ∙ (λ i. wrong_work y (byte_at x 0) (g' i) (sym (length-drop 5 x) i)))

pub pending-none : (t : Bool) (x : List ℕ) (p : Pending) → length x ≡ 0 → p ≡ no_pending → p ≡ pending_for (in_box t x)
pending-none t x p e f = rw (eq-eqb (length x) 0 e) f

-- what is written has the numbers that it was made from
track-same : (t : Bool) (z : Target) → t ≡ track_in (goal_if t z)
track-same true z = refl
track-same false z = refl

target-same : (t : Bool) (z : Target) → z ≡ target_in (goal_if t z)
target-same true z = refl
target-same false z = refl

pub pending-some : (t : Bool) (x : List ℕ) (z : Target) → (length x ≡ 0 → ⊥) → z ≡ target_at x
    → record { on = true; c1 = byte_at x 0; track = t; target = z; taken = length x - 5 } ≡ pending_for (in_box t x)
pending-some t x z q e = rw (ne_eqb (length x) 0 q) (λ i. record {
  on = true;
  c1 = byte_at x 0;
  track = track-same t (target_at x) i;
  target = (e ∙ target-same t (target_at x)) i;
  taken = sym (length-drop 5 x) i;
})

-- the held bytes: zeros, and over them what stands behind c1 and ID
pub held-laid : (x y h f b : List ℕ) → length h ≡ most_held → f ≡ replicate (length h) 0 → y ≡ drop 5 x → b ≡ over f 0 y
    → (t : Bool) → b ≡ held_for (in_box t x)
held-laid x y h f b l e g q tr =
    let z : b ≡ over (replicate most_held 0) 0 (drop 5 x) = q ∙ (λ i. over ((e ∙ ap (λ (n : ℕ). replicate n 0) l) i) 0 (g i)) in
    z ∙ go (eqb (length x) 0) refl
  where
    go : (v : Bool) → eqb (length x) 0 ≡ v → over (replicate most_held 0) 0 (drop 5 x) ≡ held_for (work_if tr v x)
    go true t =
        let n : drop 5 x ≡ [] = drop_of_length-le x {i = 5} (omega (arith, eqb-true (length x) 0 t)) in
        ap (over (replicate most_held 0) 0) n ∙ over-nil (replicate most_held 0) 0
    go false t = refl

-- ---- boxes that are right

-- the box of a write that is one is no longer than its five numbers and what can be held
work-few : (y : Setting) (tr : Bool) (x : List ℕ) → wrong_writing y (in_box tr x) ≡ false → length x ≤ 5 + most_held
work-few y tr x e = go (eqb (length x) 0) refl
  where
    go : (v : Bool) → eqb (length x) 0 ≡ v → length x ≤ 5 + most_held
    go true t = omega (arith, eqb-true (length x) 0 t)
    go false t =
        let w : Writing = record { c1 = byte_at x 0; goal = goal_if tr (target_at x); held = drop 5 x } in
        omega (arith, held-few y w (subst (λ (v : Bool). wrong_writing y (work_if tr v x) ≡ false) t e), length-drop 5 x)

-- the box that counts, of a write or of a Format, has its form
range-work : (p : Sheet) → in_range p ≡ true → is_work (either_box (no_write p) p.write p.format) ≡ true
unfolding in_range
range-work p e =
    let e1 = and-snd (one_to 1 p.motor) _ e in
    let e2 = and-snd (eqb (length p.cylinder) 1) _ e1 in
    let e3 = and-snd (one_to 2 p.seek) _ e2 in
    let e4 = and-snd (eqb (length p.index) 2) _ e3 in
    let e5 = and-snd (eqb (length p.lost) 1) _ e4 in
    let e6 = and-snd (is_work p.write) _ e5 in
    go (no_write p) (and-fst (is_work p.write) _ e5) (and-fst (is_work p.format) _ e6)
  where
    go : (v : Bool) → is_work p.write ≡ true → is_work p.format ≡ true → is_work (either_box v p.write p.format) ≡ true
    go true a b = b
    go false a b = a

-- ---- the command

pub command-none : (x : List ℕ) → length x ≡ 0 → false ≡ leb (bytes_for (command_of (byte_at x 0))) (length x)
command-none x e = sym (lt-leb (bytes_for (command_of (byte_at x 0))) (length x) (omega (arith, e, (bytes-range (command_of (byte_at x 0))).0)))

pub command-some : (x : List ℕ) (k : Command) (n : ℕ) → k ≡ command_of (byte_at x 0) → n ≡ bytes_for k
    → leb n (length x) ≡ leb (bytes_for (command_of (byte_at x 0))) (length x)
command-some x k n e f = ap (λ (m : ℕ). leb m (length x)) (f ∙ ap bytes_for e)

-- ---- the boxes where they stand

-- numbers in a box
pub number_is : (s : List ℕ) (at n : ℕ) (x : List ℕ) → x ≡ box_at 2 s at → n ≡ byte_at x 0 → n ≡ byte_at (box_at 2 s at) 0
number_is s at n x e f = f ∙ ap (λ (y : List ℕ). byte_at y 0) e

pub index_is : (s : List ℕ) (at n : ℕ) (x : List ℕ) → x ≡ box_at 2 s at → n ≡ high_at 2 x 0 → n ≡ high_at 2 (box_at 2 s at) 0
index_is s at n x e f = f ∙ ap (λ (y : List ℕ). high_at 2 y 0) e

module _ (s : List ℕ) (p : Places) where
  pub range-is : (a b c d e f g : List ℕ) (u v w y : Bool)
      → a ≡ box_at 2 s p.motor → b ≡ box_at 2 s p.cylinder → c ≡ box_at 2 s p.seek → d ≡ box_at 2 s p.index → e ≡ box_at 2 s p.lost
      → f ≡ box_at 2 s p.write → g ≡ box_at 2 s p.format → u ≡ one_to 1 a → v ≡ one_to 2 c → w ≡ is_work f → y ≡ is_work g
      → (u && (eqb (length b) 1 && (v && (eqb (length d) 2 && (eqb (length e) 1 && (w && (y && (eqb (length f) 0 || eqb (length g) 0))))))))
      ≡ in_range (boxes_at s p)
  unfolding in_range
  range-is a b c d e f g u v w y ea eb ec ed ee ef eg eu ev ew ey =
      let u' = eu ∙ ap (one_to 1) ea in
      let v' = ev ∙ ap (one_to 2) ec in
      let w' = ew ∙ ap is_work ef in
      let y' = ey ∙ ap is_work eg in
      λ i. u' i && (eqb (length (eb i)) 1 && (v' i && (eqb (length (ed i)) 2 && (eqb (length (ee i)) 1 && (w' i && (y' i && (eqb (length (ef i)) 0 || eqb (length (eg i)) 0)))))))

  abbrev pub WorkBox : List ℕ
  WorkBox = either_box (no_write (boxes_at s p)) (box_at 2 s p.write) (box_at 2 s p.format)

  pub right-work : (x : List ℕ) → x ≡ WorkBox → in_range (boxes_at s p) ≡ true → is_work x ≡ true
  right-work x e q = subst (λ (y : List ℕ). is_work y ≡ true) (sym e) (range-work (boxes_at s p) q)

  -- which of the two counts
  pub none_written : (x : List ℕ) → x ≡ box_at 2 s p.write → eqb (length x) 0 ≡ no_write (boxes_at s p)
  none_written x e = ap (λ (y : List ℕ). eqb (length y) 0) e

  pub format-box : (v : Bool) (x : List ℕ) → v ≡ no_write (boxes_at s p) → v ≡ true → x ≡ box_at 2 s p.format → x ≡ WorkBox
  format-box v x e t q = q ∙ sym (ap (λ (f : Bool). either_box f (box_at 2 s p.write) (box_at 2 s p.format)) (sym e ∙ t))

  pub write-box : (v : Bool) (x : List ℕ) → v ≡ no_write (boxes_at s p) → v ≡ false → x ≡ box_at 2 s p.write → x ≡ WorkBox
  write-box v x e t q = q ∙ sym (ap (λ (f : Bool). either_box f (box_at 2 s p.write) (box_at 2 s p.format)) (sym e ∙ t))

  pub wrong-tests : (a b c d k : List ℕ) (n m : ℕ) (u v t : Bool)
      → a ≡ box_at 2 s p.reply → b ≡ box_at 2 s p.command → c ≡ box_at 2 s p.lost → d ≡ WorkBox → k ≡ box_at 2 s p.machine
      → u ≡ leb (bytes_for (command_of (byte_at b 0))) (length b) → n ≡ byte_at c 0 → m ≡ byte_at k 0 → t ≡ no_write (boxes_at s p)
      → v ≡ wrong_writing (setting_of m) (in_box t d) → (ltb 7 (length a) || (u || (ltb 2 n || v))) ≡ wrong_boxes (world_from (boxes_at s p))
  unfolding wrong_boxes world_from
  wrong-tests a b c d k n m u v t ea eb ec ed ek eu en em et ev =
      let u' = eu ∙ ap (λ (x : List ℕ). leb (bytes_for (command_of (byte_at x 0))) (length x)) eb in
      let n' = en ∙ ap (λ (x : List ℕ). byte_at x 0) ec in
      let m' = em ∙ ap (λ (x : List ℕ). byte_at x 0) ek in
      let v' : v ≡ wrong_writing (setting_of (byte_at (box_at 2 s p.machine) 0)) (in_box (no_write (boxes_at s p)) WorkBox)
      = ev ∙ (λ i. wrong_writing (setting_of (m' i)) (in_box (et i) (ed i))) in
      λ i. ltb 7 (length (ea i)) || (u' i || (ltb 2 (n' i) || v' i))

  -- what the registers are made of, where the boxes are right
  module _ (w : wrong_boxes (world_from (boxes_at s p)) ≡ false) where
    pub command-fits : (x : List ℕ) → x ≡ box_at 2 s p.command → length x ≤ 9
    unfolding world_from
    command-fits x e = omega (arith, command-few (world_from (boxes_at s p)) w, ap length e)

    pub reply-fits : (x : List ℕ) → x ≡ box_at 2 s p.reply → length x ≤ 7
    unfolding world_from
    reply-fits x e = omega (arith, reply-few (world_from (boxes_at s p)) w, ap length e)

    pub work-long : (x : List ℕ) → x ≡ WorkBox → length x ≤ 5 + most_held
    unfolding world_from
    work-long x e =
        omega (arith, work-few (setting_of (byte_at (box_at 2 s p.machine) 0)) (no_write (boxes_at s p)) WorkBox (write-fits (world_from (boxes_at s p)) w), ap length e)

    -- and that their lengths fit the numbers
    pub command-small : (x : List ℕ) → x ≡ box_at 2 s p.command → length x < 256
    command-small x e = omega (arith, command-fits x e)

    pub reply-small : (x : List ℕ) → x ≡ box_at 2 s p.reply → length x < 256
    reply-small x e = omega (arith, reply-fits x e)

    pub work-small : (x : List ℕ) → x ≡ WorkBox → length x < 65536
    work-small x e = omega (arith, work-long x e)

  pub unread-small : (x : List ℕ) → x ≡ box_at 4 s p.unread → length (box_at 4 s p.unread) ≤ most_transfer → length x < 4294967296
  unread-small x e h = omega (arith, h, ap length e)

  -- the drive, and the registers
  pub drive-is : (c k : ℕ) (seek : Seek) → c ≡ byte_at (box_at 2 s p.cylinder) 0 → k ≡ byte_at (box_at 2 s p.seek) 0 → seek ≡ seek_at k
      → ◌≡◌ {A = Drive} (record { cylinder = c; seek = seek; disk = false })
      (record { cylinder = byte_at (box_at 2 s p.cylinder) 0; seek = seek_at (byte_at (box_at 2 s p.seek) 0); disk = false })
  drive-is c k seek e f g = λ i. record { cylinder = e i; seek = (g ∙ ap seek_at f) i; disk = false }

  pub regs_are : (command reply unread write lc lr : List ℕ) (n m k y : ℕ) (f t : Bool) (pending : Pending) (drive : Drive)
      → command ≡ box_at 2 s p.command → reply ≡ box_at 2 s p.reply → unread ≡ box_at 4 s p.unread → lc ≡ on_zeros 9 command → lr ≡ on_zeros 7 reply
      → n ≡ byte_at (box_at 2 s p.lost) 0 → m ≡ byte_at (box_at 2 s p.motor) 0 → f ≡ flag_at m → k ≡ high_at 2 (box_at 2 s p.index) 0
      → write ≡ WorkBox → t ≡ no_write (boxes_at s p) → pending ≡ pending_for (in_box t write) → y ≡ byte_at (box_at 2 s p.machine) 0
      → drive ≡ record { cylinder = byte_at (box_at 2 s p.cylinder) 0; seek = seek_at (byte_at (box_at 2 s p.seek) 0); disk = false }
      → record {
        command = lc;
        count = length command;
        reply = lr;
        place = 0;
        fill = length reply;
        from = 0;
        until = length unread;
        lost = n;
        motor = f;
        index = k;
        write = pending;
        drive = drive;
        setting = y % 2;
      } ≡ regs_for (world_from (boxes_at s p))
  unfolding regs_for world_from
  regs_are command reply unread write lc lr n m k y f t pending drive ec er eu zc zr zn zm zf zk ew et zp zy zd =
      λ i. record {
        command = (zc ∙ ap (on_zeros 9) ec) i;
        count = length (ec i);
        reply = (zr ∙ ap (on_zeros 7) er) i;
        place = 0;
        fill = length (er i);
        from = 0;
        until = length (eu i);
        lost = zn i;
        motor = (zf ∙ ap flag_at zm) i;
        index = zk i;
        write = (zp ∙ ap₂ (λ (v : Bool) (x : List ℕ). pending_for (in_box v x)) et ew) i;
        drive = zd i;
        setting = (ap (λ (v : ℕ). v % 2) zy ∙ machine-number (byte_at (box_at 2 s p.machine) 0)) i;
      }

-- ---- the judgement

pub range-true : (s : List ℕ) (p : Places) (v : Bool) → v ≡ in_range (boxes_at s p) → not v ≡ false → in_range (boxes_at s p) ≡ true
range-true s p v e f = sym e ∙ not-false v f

module _ (s x : List ℕ) (p : Places) (e : p ≡ places_of s) where
  -- what is taken from the sheet, by the four tests
  taken-by : taken_from s x ≡ after (need (framed s) BadSheet (need (in_range (boxes_at s p)) BadSheet (need (not (wrong_boxes (world_from (boxes_at s p)))) BadSheet (Ok (world_from (boxes_at s p))))))
      (λ w. need (leb (length w.front.unread) (transfer_room x)) NoTransferRoom (Ok w))
  unfolding taken_from world_in sheet_at
  taken-by = ap (λ (q : Places). after (need (framed s) BadSheet (need (in_range (boxes_at s q)) BadSheet (need (not (wrong_boxes (world_from (boxes_at s q)))) BadSheet (Ok (world_from (boxes_at s q))))))
      (λ w. need (leb (length w.front.unread) (transfer_room x)) NoTransferRoom (Ok w))) (sym e)

  pub judge-form : (u : Bool) → u ≡ framed s → not u ≡ true → Err BadSheet ≡ whether_taken (taken_from s x)
  judge-form u eu nu = let a : framed s ≡ false = sym eu ∙ not-true u nu in rw (taken-by, a) refl

  module _ (u : Bool) (eu : u ≡ framed s) (nu : not u ≡ false) where
    a : framed s ≡ true
    a = sym eu ∙ not-false u nu

    pub judge-range : (v : Bool) → v ≡ in_range (boxes_at s p) → not v ≡ true → Err BadSheet ≡ whether_taken (taken_from s x)
    judge-range v ev nv = let b : in_range (boxes_at s p) ≡ false = sym ev ∙ not-true v nv in rw (taken-by, a, b) refl

    module _ (v : Bool) (ev : v ≡ in_range (boxes_at s p)) (nv : not v ≡ false) where
      b : in_range (boxes_at s p) ≡ true
      b = sym ev ∙ not-false v nv

      pub judge-boxes : (w : Bool) → w ≡ wrong_boxes (world_from (boxes_at s p)) → w ≡ true → Err BadSheet ≡ whether_taken (taken_from s x)
      judge-boxes w ew nw = let c : wrong_boxes (world_from (boxes_at s p)) ≡ true = sym ew ∙ nw in rw (taken-by, a, b, c) refl

      module _ (w : Bool) (ew : w ≡ wrong_boxes (world_from (boxes_at s p))) (nw : w ≡ false) (y : List ℕ) (n : ℕ) (ey : y ≡ box_at 4 s p.unread) (en : n ≡ transfer_room x) where
        c : wrong_boxes (world_from (boxes_at s p)) ≡ false
        c = sym ew ∙ nw

        unread-is : length (world_from (boxes_at s p)).front.unread ≡ length y
        unfolding world_from
        unread-is = ap length (sym ey)

        pub judge-room : n < length y → Err NoTransferRoom ≡ whether_taken (taken_from s x)
        judge-room h =
            let d : leb (length (world_from (boxes_at s p)).front.unread) (transfer_room x) ≡ false
            = lt-leb (length (world_from (boxes_at s p)).front.unread) (transfer_room x) (omega (arith, unread-is, en, h)) in
            rw (taken-by, a, b, c, d) refl

        pub judge-good : length y ≤ n → Ok tt ≡ whether_taken (taken_from s x)
        judge-good h =
            let d : leb (length (world_from (boxes_at s p)).front.unread) (transfer_room x) ≡ true
            = le-leb (length (world_from (boxes_at s p)).front.unread) (transfer_room x) (omega (arith, unread-is, en, h)) in
            rw (taken-by, a, b, c, d) refl

-- ---- what is read where the judgement is good

-- the boxes of a sheet that is taken, and that its unread data fit
pub record Taken (s x : List ℕ) (p : Places) : Type 0 where
  pub range : in_range (boxes_at s p) ≡ true
  pub right : wrong_boxes (world_from (boxes_at s p)) ≡ false
  pub room : length (box_at 4 s p.unread) ≤ transfer_room x
  pub is : taken_from s x ≡ Ok (world_from (boxes_at s p))

module _ (s x : List ℕ) (p : Places) (e : p ≡ places_of s) where
  abbrev W : World
  W = world_from (boxes_at s p)

  abbrev Room : World → Bool
  Room w = leb (length w.front.unread) (transfer_room x)

  room-is : Room W ≡ true → length (box_at 4 s p.unread) ≤ transfer_room x
  unfolding world_from
  room-is d = leb-true (length (box_at 4 s p.unread)) (transfer_room x) d

  taken-good : whether_taken (taken_from s x) ≡ Ok tt → Taken s x p
  taken-good j = go (framed s) refl (in_range (boxes_at s p)) refl (wrong_boxes W) refl (Room W) refl
    where
      by : (a b c : Bool) → framed s ≡ a → in_range (boxes_at s p) ≡ b → wrong_boxes W ≡ c
          → taken_from s x ≡ after (need a BadSheet (need b BadSheet (need (not c) BadSheet (Ok W)))) (λ w. need (Room w) NoTransferRoom (Ok w))
      by a b c ea eb ec =
          taken-by s x p e
          ∙ (λ i. after (need (ea i) BadSheet (need (eb i) BadSheet (need (not (ec i)) BadSheet (Ok W)))) (λ w. need (Room w) NoTransferRoom (Ok w)))

      no : (why : Refusal) → taken_from s x ≡ Err why → Taken s x p
      no why y = let z : Err why ≡ Ok tt = sym (ap whether_taken y) ∙ j in never (cc)

      go : (a : Bool) → framed s ≡ a → (b : Bool) → in_range (boxes_at s p) ≡ b → (c : Bool) → wrong_boxes W ≡ c → (d : Bool) → Room W ≡ d → Taken s x p
      go false ea b eb c ec d ed = no BadSheet (by false b c ea eb ec)
      go true ea false eb c ec d ed = no BadSheet (by true false c ea eb ec)
      go true ea true eb true ec d ed = no BadSheet (by true true true ea eb ec)
      go true ea true eb false ec false ed = no NoTransferRoom (by true true false ea eb ec ∙ ap (λ (v : Bool). need v NoTransferRoom (Ok W)) ed)
      go true ea true eb false ec true ed = record {
        range = eb;
        right = ec;
        room = room-is ed;
        is = by true true false ea eb ec ∙ ap (λ (v : Bool). need v NoTransferRoom (Ok W)) ed;
      }

  module _ (d : Result (Unit {0}) Refusal) (ed : d ≡ whether_taken (taken_from s x)) (eg : d ≡ Ok tt) where
    t : Taken s x p
    t = taken-good (sym ed ∙ eg)

    pub taken-work : (y : List ℕ) → y ≡ WorkBox s p → length y ≤ 5 + most_held
    taken-work y q = work-long s p t.right y q

    pub taken-unread : (y : List ℕ) → y ≡ box_at 4 s p.unread → 0 + length y ≤ length x
    taken-unread y q = omega (arith, t.room, ap length q, (transfer-in x).0)

    pub taken-range : in_range (boxes_at s p) ≡ true
    taken-range = t.range

    pub taken-right : wrong_boxes (world_from (boxes_at s p)) ≡ false
    taken-right = t.right

    pub taken-few : length (box_at 4 s p.unread) ≤ most_transfer
    taken-few = omega (arith, t.room, (transfer-in x).1)

    -- all that is left where the sheet is good
    pub read-good : (r b : Regs) (a : Answered (Unit {0})) (h g y z l : List ℕ) → y ≡ WorkBox s p → ((v : Bool) → g ≡ held_for (in_box v y)) → z ≡ box_at 4 s p.unread → l ≡ over x 0 z
        → b ≡ regs_for (world_from (boxes_at s p)) → a ≡ accepted tt b → resuming a g l ≡ sheet_read r h s x
    unfolding sheet_read world_from
    read-good r b a h g y z l ey eg' ez el eb ea =
        (λ i. resuming ((ea ∙ ap (accepted tt) eb) i) ((eg' (no_write (boxes_at s p)) ∙ ap (λ (v : List ℕ). held_for (in_box (no_write (boxes_at s p)) v)) ey) i) ((el ∙ ap (over x 0) ez) i))
        ∙ ap (λ (v : Result World Refusal). resumed_as v r h x) (sym t.is)

-- and where it is refused
pub read-refused : (s x h : List ℕ) (r : Regs) (a : Answered (Unit {0})) (d : Result (Unit {0}) Refusal) (why : Refusal) → d ≡ whether_taken (taken_from s x) → d ≡ Err why
    → a ≡ declined why r → resuming a h x ≡ sheet_read r h s x
unfolding sheet_read
read-refused s x h r a d why e q f = go (taken_from s x) refl
  where
    go : (v : Result World Refusal) → taken_from s x ≡ v → resuming a h x ≡ resumed_as (taken_from s x) r h x
    go (Err z) g =
        let k : why ≡ z = cc (ap whether_taken g) in
        ap (λ (y : Answered (Unit {0})). resuming y h x) f ∙ ap (λ (y : Refusal). resuming (declined y r) h x) k ∙ ap (λ (v : Result World Refusal). resumed_as v r h x) (sym g)
    go (Ok w) g = let k : Ok tt ≡ Err why = sym (ap whether_taken g) ∙ sym e ∙ q in never (cc)
