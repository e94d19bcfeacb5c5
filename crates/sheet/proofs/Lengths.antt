-- How long a sheet and its parts are, and the longest one.
use mathlib.Core.Path.{◌≡◌, refl, ap, ◌∙◌}
use Prim.Native.Nat.{ℕ, ◌+◌, ◌-◌, ◌≤◌, ◌<◌}
use native.Mathlib.Omega.{arith}
use mathlib.Core.Bool.{Bool, true, false, not, cond, ◌&&◌}
use mathlib.Core.List.{List, [], ◌∷◌}
use mathlib.Core.Option.{Option, none, some}
use lib.ListN.{length, take, replicate, length-append, length-replicate}
use lib.Seq.{length-take-le, slice, length-slice}
use lib.Dec.{eqb}
use borrow.Author.Tests.{eq-eqb, eqb-true, ne_eqb, lt-leb, not-false}
use Rattle.fields.specs.Capacities.{most_transfer, most_held}
use Rattle.fields.proofs.Sizes.{size-3}
use Rattle.fields.proofs.Tests.{never}
use Rattle.codes.specs.Table.{command_of, command_by, rows, mask_rows}
use Rattle.store.proofs.Checks.{transfer-in}
use Rattle.registers.specs.declared.regs.Regs.{Regs}
use Rattle.registers.specs.declared.regs.Pending.{Pending}
use Rattle.registers.specs.declared.regs.Seek.TheVariants.{Idle}
use Rattle.registers.specs.declared.regs.Goal.{Goal}
use Rattle.registers.specs.declared.regs.Goal.TheVariants.{IntoSector, IntoTrack}
use Rattle.registers.specs.Boxes.{Setting, setting_of, rust_machine, Empty, Writing, World}
use Rattle.registers.specs.View.{goal_of, writing_if, inside_of, front_of, wrong_work, impossible_in}
use Rattle.registers.specs.Possible.{Possible}
use Rattle.registers.proofs.Numbers.{neither, possible, possible-in, until-in, until-long, count-few, whole-most, taken-few}
use Rattle.sending.specs.Calls.{impossible_with}
use Rattle.sheet.specs.Sheets.{box_for, write_as, write_box, format_as, format_box, boxes_of, boxes_for, paper_of, sheet_of, wrong_writing, wrong_boxes}
use Rattle.sheet.specs.Calls.{longest_sheet, Longest, boxes_seen, work_for}
use Rattle.sheet.proofs.Gives.{seen-right, held-few, command-few, reply-few, write-fits}

-- ---- numbers that are possible

module _ (r : Regs) (h x : List ℕ) where
  -- held bytes of another length are not
  pub other-held : (length h ≡ most_held → ⊥) → true ≡ impossible_with h x r
  unfolding impossible_with
  other-held n = rw (ne_eqb _ _ n)

  -- else the numbers tell
  pub all_held : (b : Bool) → length h ≡ most_held → b ≡ impossible_in x r → b ≡ impossible_with h x r
  unfolding impossible_with
  all_held b e q = rw (eq-eqb _ _ e) q

  possible-held : impossible_with h x r ≡ false → length h ≡ most_held
  unfolding impossible_with
  possible-held e = eqb-true _ _ (not-false (eqb (length h) most_held) (neither (not (eqb (length h) most_held)) _ e).0)

  possible-regs : impossible_with h x r ≡ false → impossible_in x r ≡ false
  unfolding impossible_with
  possible-regs e = (neither (not (eqb (length h) most_held)) _ e).1

-- ---- the box of a write

-- how long it is where one is in progress, and at most
pub size-on : (f : Bool) (n : ℕ) → f ≡ true → n ≡ cond f n 0
size-on true n e = refl
size-on false n e = never (cc)

pub size_few : (f : Bool) (n : ℕ) → cond f n 0 ≤ n
size_few true n = omega arith
size_few false n = omega arith

-- the boxes of a write and of a Format, of which one has it at most
abbrev pub works_of : Option Writing → ℕ
works_of o = length (write_box o) + length (format_box o)

work-size : (f t : Bool) (p : Pending) (h : List ℕ) → p.track ≡ t → (f ≡ true → p.taken ≤ length h) → works_of (writing_if f p h) ≡ cond f (5 + p.taken) 0
work-size false t p h g e = refl
work-size true true p h g e = let n : length (take p.taken h) ≡ p.taken = length-take-le p.taken h (e refl) in rw g (omega arith)
work-size true false p h g e = let n : length (take p.taken h) ≡ p.taken = length-take-le p.taken h (e refl) in rw g (omega arith)

-- the room that a box that is to stand somewhere needs
pub work-long : (p : Pending) (h : List ℕ) → p.taken ≤ length h → length (work_for true p h) ≡ 5 + p.taken
work-long p h e = let t : length (take p.taken h) ≡ p.taken = length-take-le p.taken h e in omega arith

-- the two boxes, of which one has it at most
pub works-room : (f t : Bool) (p : Pending) (h : List ℕ) → (f ≡ true → p.taken ≤ length h)
    → length (work_for (f && not t) p h) + length (work_for (f && t) p h) ≡ cond f (5 + p.taken) 0
works-room false t p h e = refl
works-room true true p h e = omega (arith, work-long p h (e refl))
works-room true false p h e = omega (arith, work-long p h (e refl))

pub held-here : (f t : Bool) → (f && t) ≡ true → f ≡ true
held-here true t e = refl
held-here false t e = never (cc)

-- which of the boxes a write in progress has
pub write-here : (f t : Bool) (p : Pending) (h : List ℕ) → p.track ≡ t → write_box (writing_if f p h) ≡ work_for (f && not t) p h
write-here false t p h g = refl
write-here true true p h g = rw g
write-here true false p h g = rw g

pub format-here : (f t : Bool) (p : Pending) (h : List ℕ) → p.track ≡ t → format_box (writing_if f p h) ≡ work_for (f && t) p h
format-here false t p h g = refl
format-here true true p h g = rw g
format-here true false p h g = rw g

-- ---- a whole sheet

-- eleven boxes with their lengths
boxes-length : (a b c d e f g k m n o : List ℕ)
    → length (box_for 2 a (box_for 2 b (box_for 2 c (box_for 2 d (box_for 2 e (box_for 2 f (box_for 4 g (box_for 2 k (box_for 2 m (box_for 2 n (box_for 2 o [])))))))))))
    ≡ 24 + length a + length b + length c + length d + length e + length f + length g + length k + length m + length n + length o
boxes-length a b c d e f g k m n o = simp length-append (omega arith)

-- how long a sheet is
pub sheet-length : (w : World)
    → length (sheet_of w) ≡ 36 + length w.inside.command + length w.front.reply + length w.front.unread + works_of w.inside.write
unfolding paper_of boxes_of boxes_for
sheet-length w =
    let p = boxes_of w in
    let n = boxes-length p.motor p.cylinder p.seek p.index p.command p.reply p.unread p.lost p.write p.machine p.format in
    omega arith

-- what is known of a controller whose numbers are possible, of what is lent to it, and of its sheet
pub record Known (r : Regs) (h x : List ℕ) : Type 0 where
  pub count-in : r.count ≤ 9
  pub place_in : r.place ≤ r.fill
  pub fill-in : r.fill ≤ 7
  pub from_in : r.from ≤ r.until
  pub until-in : r.until ≤ length x
  pub held_in : r.write.on ≡ true → r.write.taken ≤ length h
  pub command-long : length (take r.count r.command) ≡ r.count
  pub reply-long : length (slice r.place r.fill r.reply) ≡ r.fill - r.place
  pub long : length (sheet_of (boxes_seen r h x))
      ≡ 36 + r.count + (r.fill - r.place) + (r.until - r.from) + works_of (writing_if r.write.on r.write h)

module _ (r : Regs) (h x : List ℕ) (nine : length r.command ≡ 9) (seven : length r.reply ≡ 7) (e : impossible_with h x r ≡ false) where
  pub known : Known r h x
  unfolding inside_of front_of
  known =
      let i : impossible_in x r ≡ false = possible-regs r h x e in
      let p : Possible r = possible r (possible-in x r i) in
      let few : r.count < 9 = count-few r (possible-in x r i) in
      let inside : r.until ≤ length x = until-long x r i in
      let c : length (take r.count r.command) ≡ r.count = length-take-le r.count r.command (omega arith) in
      let y : length (slice r.place r.fill r.reply) ≡ r.fill - r.place = length-slice r.place r.fill r.reply (omega arith) in
      let u : length (slice r.from r.until x) ≡ r.until - r.from = length-slice r.from r.until x inside in
      record {
        count-in = omega arith;
        place_in = p.place_in;
        fill-in = p.fill-in;
        from_in = p.from_in;
        until-in = inside;
        held_in = λ q. omega (arith, taken-few (setting_of r.setting) r.write p.write-in q, whole-most (goal_of r.write), possible-held r h x e);
        command-long = c;
        reply-long = y;
        long = sheet-length (boxes_seen r h x) ∙ (λ k. 36 + c k + y k + u k + works_of (writing_if r.write.on r.write h));
      }

  -- how long a sheet is, by the numbers of a controller whose numbers are possible
  pub sheet-size : length (sheet_of (boxes_seen r h x))
      ≡ 36 + r.count + (r.fill - r.place) + (r.until - r.from) + cond r.write.on (5 + r.write.taken) 0
  sheet-size =
      known.long
      ∙ ap (λ (n : ℕ). 36 + r.count + (r.fill - r.place) + (r.until - r.from) + n) (work-size r.write.on r.write.track r.write h refl known.held_in)

-- ---- the longest sheet

work-most : (x : Setting) (o : Option Writing) → wrong_writing x o ≡ false → works_of o ≤ 5 + (most_held - 1)
work-most x none e = omega arith
work-most x (some w) e = go w.goal (held-few x w e)
  where
    go : (g : Goal) → length w.held < most_held → length (write_as g w.c1 w.held) + length (format_as g w.c1 w.held) ≤ 5 + (most_held - 1)
    go (IntoSector id) h = omega (arith, h)
    go (IntoTrack z) h = omega (arith, h)

-- No sheet of boxes that refusal 1 does not name, with no more unread data than can be lent, is longer than `longest_sheet`,
pub sheet-longest : (w : World) → wrong_boxes w ≡ false → length w.front.unread ≤ most_transfer → length (sheet_of w) ≤ longest_sheet
sheet-longest w e l = omega (arith, sheet-length w, reply-few w e, command-few w e, work-most w.inside.setting w.inside.write (write-fits w e))

-- So the sheet of a controller whose numbers are possible is not,
pub sheet-most : (r : Regs) (h x : List ℕ) → length r.reply ≡ 7 → impossible_with h x r ≡ false → length (sheet_of (boxes_seen r h x)) ≤ longest_sheet
unfolding front_of
sheet-most r h x seven e =
    let ok : impossible_in x r ≡ false = (neither (not (eqb (length h) most_held)) (impossible_in x r) (unfold impossible_with in e)).1 in
    let few : length (slice r.from r.until x) ≤ most_transfer
    = omega (arith, length-slice r.from r.until x (until-long x r ok), until-in x r ok, transfer-in x) in
    sheet-longest (boxes_seen r h x) (seen-right r h x seven (possible-in x r ok)) few

-- a Read Data and a write of 1,024 bytes, each of which lacks its last byte
filled : List ℕ → List ℕ → World
filled u h = record {
  inside = record {
    setting = rust_machine;
    motor = false;
    index = 0;
    command = 6 ∷ 0 ∷ 0 ∷ 0 ∷ 0 ∷ 0 ∷ 0 ∷ 0 ∷ [];
    write = some record { c1 = 0; goal = IntoSector (record { c = 0; h = 0; r = 0; n = 3 }); held = h };
    drives = record { first = record { cylinder = 0; slot = Empty } };
  };
  front = record { seek = Idle; reply = 0 ∷ 0 ∷ 0 ∷ 0 ∷ 0 ∷ 0 ∷ 0 ∷ []; unread = u; lost = 0 };
}

filled-right : (u h : List ℕ) → length h < 1024 → wrong_boxes (filled u h) ≡ false
unfolding filled wrong_boxes wrong_work command_of command_by rows mask_rows
filled-right u h e = rw (size-3, lt-leb 1024 (length h) e)

filled-long : (u h : List ℕ) → length (sheet_of (filled u h)) ≡ 56 + length u + length h
unfolding filled
filled-long u h = omega (arith, sheet-length (filled u h))

filled-all : (u h : List ℕ) → length u ≡ most_transfer → length h ≡ most_held - 1 → Longest
unfolding filled
filled-all u h p q = record { boxes = filled u h; right = filled-right u h (omega arith); unread-most = p; long = omega (arith, filled-long u h) }

-- and one is as long.
pub longest : Longest
longest =
    let zeros : (n : ℕ) → length (replicate {A = ℕ} n 0) ≡ n = λ n. length-replicate {A = ℕ} n 0 in
    filled-all (replicate most_transfer 0) (replicate (most_held - 1) 0) (zeros most_transfer) (zeros (most_held - 1))
