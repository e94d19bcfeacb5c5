-- What is known of a controller whose numbers are possible.
use Rattle.std.proofs.Common.{◌≡◌, ℕ, ◌*◌, ◌<◌, ◌≤◌, Bool, true, false, not, ◌&&◌, ◌||◌, ltb, leb, List, length, get_or, sym, refl, ap, ◌∙◌, arith, ltb-false, le-leb, leb-false}
use native.Mathlib.Nat.{min-le_right, min-eq_left}
use borrow.Author.Tests.{lt-leb, not-false}
use Rattle.fields.specs.Capacities.{most_held}
use Rattle.fields.specs.Model.{size_of}
use Rattle.fields.specs.declared.id.SectorId.{SectorId}
use Rattle.fields.proofs.Sizes.{size-most}
use Rattle.fields.proofs.Tests.{never}
use Rattle.store.specs.Store.{transfer_room}
use Rattle.registers.specs.declared.regs.Regs.{Regs}
use Rattle.registers.specs.declared.regs.Pending.{Pending}
use Rattle.registers.specs.declared.regs.Goal.{Goal}
use Rattle.registers.specs.declared.regs.Goal.TheVariants.{IntoSector, IntoTrack}
use Rattle.registers.specs.declared.regs.Shape.{Shape}
use Rattle.codes.specs.Table.{command_of, bytes_for}
use Rattle.registers.specs.Boxes.{Setting, machine_if, whole_of, fitted}
use Rattle.registers.specs.View.{goal_if, goal_of, is_rust, unknown_to, impossible, impossible_in, wrong_work, wrong_write}
use Rattle.codes.proofs.Rows.{bytes-range}
use Rattle.store.proofs.Checks.{transfer-in}
use Rattle.registers.specs.Settle.{track_in, target_in}
use Rattle.registers.specs.Possible.{Possible}

pub neither : (a b : Bool) → (a || b) ≡ false → (a ≡ false) × (b ≡ false)
neither true b e = never (cc)
neither false b e = (refl, e)

pub possible : (r : Regs) → impossible r ≡ false → Possible r
unfolding impossible
possible r e =
    let e1 = neither (ltb r.fill r.place) _ e in
    let e2 = neither (ltb r.until r.from) _ e1.1 in
    let e3 = neither (ltb 7 r.fill) _ e2.1 in
    let e4 = neither (leb (bytes_for (command_of (get_or r.command 0 0))) r.count) _ e3.1 in
    let e5 = neither (ltb 2 r.lost) _ e4.1 in
    record {
      place_in = ltb-false r.fill r.place e1.0;
      from_in = ltb-false r.until r.from e2.0;
      fill-in = ltb-false 7 r.fill e3.0;
      count-in = leb-false (bytes_for (command_of (get_or r.command 0 0))) r.count e4.0;
      lost-in = ltb-false 2 r.lost e5.0;
      write-in = e5.1;
    }

pub possible-in : (x : List ℕ) (r : Regs) → impossible_in x r ≡ false → impossible r ≡ false
unfolding impossible_in
possible-in x r e = (neither (impossible r) (ltb (transfer_room x) r.until) e).0

pub until-in : (x : List ℕ) (r : Regs) → impossible_in x r ≡ false → r.until ≤ transfer_room x
unfolding impossible_in
until-in x r e = ltb-false (transfer_room x) r.until (neither (impossible r) (ltb (transfer_room x) r.until) e).1

pub count-few : (r : Regs) → impossible r ≡ false → r.count < 9
count-few r e = omega (arith, (possible r e).count-in, (bytes-range (command_of (get_or r.command 0 0))).1)

-- unread data lie in the transfer buffer
pub until-long : (x : List ℕ) (r : Regs) → impossible_in x r ≡ false → r.until ≤ length x
until-long x r e = omega (arith, until-in x r e, transfer-in x)

-- a machine, by whether it is the Rust's
pub rust-by : (f : Bool) → f ≡ is_rust (machine_if f)
rust-by true = refl
rust-by false = refl

-- how many bytes are written at the most
pub whole-most : (g : Goal) → whole_of g ≤ most_held
whole-most (IntoSector id) = size-most id.n
whole-most (IntoTrack x) = omega (arith, min-le_right x.sectors 255)

-- what starts is what is then written
pub goal-kept : (g : Goal) → goal_if (track_in g) (target_in g) ≡ g
goal-kept (IntoSector id) = refl
goal-kept (IntoTrack x) = refl

-- of one that is known
pub sector-whole : (g : Goal) (id : SectorId) (n : ℕ) → g ≡ IntoSector id → n ≡ size_of id.n → (n ≡ whole_of g) × (n ≤ most_held)
sector-whole g id n e q = (q ∙ sym (ap whole_of e), omega (arith, q, size-most id.n))

pub track-whole : (g : Goal) (x : Shape) → g ≡ IntoTrack x → x.sectors < 256 → (4 * x.sectors ≡ whole_of g) × (4 * x.sectors ≤ most_held)
track-whole g x e h = (ap (λ (n : ℕ). 4 * n) (sym (min-eq_left {n = x.sectors} {m = 255} (omega (arith, h)))) ∙ sym (ap whole_of e), omega (arith, h))

-- a write that refusal 1 does not name: bytes are to come, and its drive is fitted
module _ (s : Setting) (c1 : ℕ) (g : Goal) (n : ℕ) where
  pub work-below : wrong_work s c1 g n ≡ false → n < whole_of g
  unfolding wrong_work
  work-below e = leb-false (whole_of g) n (neither (leb (whole_of g) n) _ e).0

  pub work-fitted : wrong_work s c1 g n ≡ false → fitted c1 ≡ true
  unfolding wrong_work
  work-fitted e = not-false (fitted c1) (neither (not (fitted c1)) _ (neither (leb (whole_of g) n) _ e).1).0

  -- nor does it with more bytes, as long as some are to come
  pub work-more : (m : ℕ) → m < whole_of g → wrong_work s c1 g n ≡ false → wrong_work s c1 g m ≡ false
  unfolding wrong_work
  work-more m h e = rw (lt-leb (whole_of g) m h) (neither (leb (whole_of g) n) _ e).1

  -- what it names, in the order in which it is asked
  pub work-full : whole_of g ≤ n → wrong_work s c1 g n ≡ true
  unfolding wrong_work
  work-full h = rw (le-leb (whole_of g) n h)

  pub work-drive : n < whole_of g → fitted c1 ≡ false → wrong_work s c1 g n ≡ true
  unfolding wrong_work
  work-drive h e = rw (lt-leb (whole_of g) n h, e)

  pub work-rest : n < whole_of g → fitted c1 ≡ true → wrong_work s c1 g n ≡ unknown_to s.machine g
  unfolding wrong_work
  work-rest h e = rw (lt-leb (whole_of g) n h, e)

-- the same of a write in progress, for whoever asks
module _ (s : Setting) (p : Pending) where
  asked_of : (f v : Bool) → f ≡ true → wrong_work s p.c1 (goal_of p) p.taken ≡ v → v ≡ (f && wrong_work s p.c1 (goal_of p) p.taken)
  asked_of true v q e = sym e
  asked_of false v q e = never (cc)

  pub write-off : p.on ≡ false → false ≡ wrong_write s p
  write-off q = go p.on q
    where
      go : (f : Bool) → f ≡ false → false ≡ (f && wrong_work s p.c1 (goal_of p) p.taken)
      go true q = never (cc)
      go false q = refl

  pub write-on : p.on ≡ true → wrong_work s p.c1 (goal_of p) p.taken ≡ wrong_write s p
  write-on q = asked_of p.on (wrong_work s p.c1 (goal_of p) p.taken) q refl

-- a write in progress that refusal 1 does not name
module _ (s : Setting) (p : Pending) (e : wrong_write s p ≡ false) where
  right_of : (f : Bool) → f ≡ true → (f && wrong_work s p.c1 (goal_of p) p.taken) ≡ false → wrong_work s p.c1 (goal_of p) p.taken ≡ false
  right_of true q h = h
  right_of false q h = never (cc)

  pub write-right : p.on ≡ true → wrong_work s p.c1 (goal_of p) p.taken ≡ false
  write-right q = right_of p.on q e

  pub taken-few : p.on ≡ true → p.taken < whole_of (goal_of p)
  taken-few q = work-below s p.c1 (goal_of p) p.taken (write-right q)

  pub fitted-few : p.on ≡ true → fitted p.c1 ≡ true
  fitted-few q = work-fitted s p.c1 (goal_of p) p.taken (write-right q)
