-- The form: a sheet that is written is read back, and one that is accepted is the sheet of the boxes that it gives.
use mathlib.Core.Path.{◌≡◌, refl, sym, ap, ap₂, subst, ◌∙◌}
use Prim.Native.Nat.{ℕ, zero, suc, ◌+◌, ◌/◌, ◌%◌, ◌≤◌, ◌<◌}
use native.Mathlib.Omega.{arith}
use mathlib.Core.Bool.{Bool, true, false, not, ◌&&◌, ◌||◌}
use mathlib.Core.List.{List, [], ◌∷◌, ◌++◌}
use mathlib.Core.Option.{Option, none, some}
use lib.ListN.{length, take, drop, length-append, length-drop, take-append-drop, drop_of_length-le}
use lib.Seq.{get_or-drop, drop-drop, drop-cons, take-append_seam, drop-append_seam, length-take-le}
use lib.Dec.{eqb, leb}
use borrow.Author.Tests.{eqb-true, leb-true, eq-eqb, ne_eqb, le-leb, not-true}
use Rattle.fields.specs.Bytes.{byte_at}
use Rattle.fields.specs.Capacities.{most_transfer, most_held}
use Rattle.registers.specs.declared.regs.Seek.{Seek}
use Rattle.registers.specs.declared.regs.Seek.TheVariants.{Idle, Running, Done}
use Rattle.registers.specs.declared.regs.Goal.{Goal}
use Rattle.registers.specs.declared.regs.Goal.TheVariants.{IntoSector, IntoTrack}
use Rattle.registers.specs.Boxes.{Machine, Rust, DataSheet, Setting, setting_of, rust_machine, Empty, Writing, World}
use Rattle.registers.specs.Ports.{change_disk}
use Rattle.layout.specs.Layout.{flag_byte, seek_byte}
use Rattle.layout.proofs.Inverse.{flag-back, seek-back, flag-kept, seek-kept}
use Rattle.fields.proofs.Tests.{never, and-fst, and-snd, need-good}
use Rattle.sheet.specs.Sheets.{high_for, high_at, Sheet, write_as, write_box, machine_byte, format_as, format_box, boxes_of, sheet_version, box_for, boxes_for, paper_of, sheet_of}
use Rattle.sheet.specs.Sheets.{box_at, behind, behind_new, is_old, places_of, sheet_at, one_to, framed, is_work, in_range, work_if, in_box, either_box, no_write, work_of}
use Rattle.sheet.specs.Sheets.{world_from, wrong_writing, wrong_boxes, world_in, Writable}
use Rattle.sheet.specs.declared.reading.Places.{Places}
use Rattle.sheet.proofs.Gives.{setting_same, held-few, command-few, reply-few, write-fits}
use Rattle.std.specs.Prelude.{Ok}

-- ---- numbers, high byte first

-- numbers below a bound in so many bytes, written and read, and bytes read and written
record Digits (width bound : ℕ) : Type 0 where
  pub size : (n : ℕ) (rest : List ℕ) → length (high_for width n rest) ≡ width + length rest
  pub past : (n : ℕ) (rest : List ℕ) → drop width (high_for width n rest) ≡ rest
  pub back : (n : ℕ) (rest : List ℕ) → n < bound → high_at width (high_for width n rest) 0 ≡ n
  pub kept : (s : List ℕ) → ((k : ℕ) → byte_at s k < 256) → width ≤ length s → high_for width (high_at width s 0) (drop width s) ≡ s

two-kept : (s : List ℕ) → ((k : ℕ) → byte_at s k < 256) → 2 ≤ length s → high_for 2 (high_at 2 s 0) (drop 2 s) ≡ s
unfolding high_at
two-kept [] b h = absurd (omega arith)
two-kept (x ∷ []) b h = absurd (omega arith)
two-kept (x ∷ y ∷ s) b h =
    let n : ℕ = high_at 2 (x ∷ y ∷ s) 0 in
    let p : n / 256 % 256 ≡ x = omega (arith, b 0, b 1) in
    let q : n % 256 ≡ y = omega (arith, b 0, b 1) in
    λ i. p i ∷ q i ∷ s

four-kept : (s : List ℕ) → ((k : ℕ) → byte_at s k < 256) → 4 ≤ length s → high_for 4 (high_at 4 s 0) (drop 4 s) ≡ s
unfolding high_at
four-kept [] b h = absurd (omega arith)
four-kept (x ∷ []) b h = absurd (omega arith)
four-kept (x ∷ y ∷ []) b h = absurd (omega arith)
four-kept (x ∷ y ∷ z ∷ []) b h = absurd (omega arith)
four-kept (x ∷ y ∷ z ∷ u ∷ s) b h =
    let n : ℕ = high_at 4 (x ∷ y ∷ z ∷ u ∷ s) 0 in
    let p : n / 256 / 256 / 256 % 256 ≡ x = omega (arith, b 0, b 1, b 2, b 3) in
    let q : n / 256 / 256 % 256 ≡ y = omega (arith, b 0, b 1, b 2, b 3) in
    let r : n / 256 % 256 ≡ z = omega (arith, b 0, b 1, b 2, b 3) in
    let t : n % 256 ≡ u = omega (arith, b 0, b 1, b 2, b 3) in
    λ i. p i ∷ q i ∷ r i ∷ t i ∷ s

two : Digits 2 65536
unfolding high_at
two = record { size = λ n rest. omega arith; past = λ n rest. refl; back = λ n rest h. omega arith; kept = two-kept }

four : Digits 4 4294967296
unfolding high_at
four = record { size = λ n rest. omega arith; past = λ n rest. refl; back = λ n rest h. omega arith; kept = four-kept }

-- the number at a place is the one at the start of what stands there
high-drop : (width : ℕ) (s : List ℕ) (at k : ℕ) → high_at width (drop at s) k ≡ high_at width s (at + k)
unfolding high_at
high-drop zero s at k = refl
high-drop (suc width) s at k =
    let e : at + (k + 1) ≡ at + k + 1 = omega arith in
    rw (get_or-drop, high-drop width s at (k + 1), e)

-- ---- a number and a box at a place

-- what stands from a place inside a sheet up to its end
record Stands (s : List ℕ) (at : ℕ) (rest : List ℕ) : Type 0 where
  pub long : at + length rest ≡ length s
  pub from : drop at s ≡ rest

module _ (width bound : ℕ) (d : Digits width bound) (s : List ℕ) (at : ℕ) where
  here : high_at width (drop at s) 0 ≡ high_at width s at
  here = let z : at + 0 ≡ at = omega arith in high-drop width s at 0 ∙ ap (high_at width s) z

  -- a number that was written is read, and what follows stands behind it
  number_in : (n : ℕ) (rest : List ℕ) → n < bound → Stands s at (high_for width n rest) → (high_at width s at ≡ n) × Stands s (at + width) rest
  number_in n rest fits c = (
    sym here ∙ ap (λ (l : List ℕ). high_at width l 0) c.from ∙ d.back n rest fits,
    record {
      long = omega (arith, c.long, d.size n rest);
      from = sym (drop-drop width at s) ∙ ap (drop width) c.from ∙ d.past n rest;
    },
  )

  -- a box that was written is read, and what follows stands behind it
  box_in : (x rest : List ℕ) → length x < bound → Stands s at (box_for width x rest) → (box_at width s at ≡ x) × Stands s (behind width s at) rest
  unfolding box_at behind
  box_in x rest fits c =
      let (n, t) = number_in (length x) (x ++ rest) fits c in (
        ap₂ take n t.from ∙ take-append_seam x rest,
        record {
          long = omega (arith, n, t.long, length-append x rest);
          from = sym (drop-drop (high_at width s at) (at + width) s) ∙ ap₂ drop n t.from ∙ drop-append_seam x rest;
        },
      )

  module _ (b : (k : ℕ) → byte_at s k < 256) where
    -- a number that is read stands there as it is written
    number-out : (n : ℕ) (rest : List ℕ) → high_at width s at ≡ n → Stands s (at + width) rest → Stands s at (high_for width n rest)
    number-out n rest e c =
        let small : (k : ℕ) → byte_at (drop at s) k < 256 = λ k. rw get_or-drop (b (at + k)) in
        let whole : width ≤ length (drop at s) = omega (arith, c.long, length-drop at s) in
        record {
          long = omega (arith, c.long, d.size n rest);
          from = sym (d.kept (drop at s) small whole) ∙ ap₂ (high_for width) (here ∙ e) (drop-drop width at s ∙ c.from);
        }

    -- and so does a box that ends inside the sheet
    box_out : (rest : List ℕ) → Stands s (behind width s at) rest → Stands s at (box_for width (box_at width s at) rest)
    unfolding box_at behind
    box_out rest c =
        let n : ℕ = high_at width s at in
        let x : List ℕ = take n (drop (at + width) s) in
        let whole : length x ≡ n = length-take-le n (drop (at + width) s) (omega (arith, c.long, length-drop (at + width) s)) in
        number-out (length x) (x ++ rest) (sym whole) (record {
          long = omega (arith, whole, c.long, length-append x rest);
          from = sym (take-append-drop n (drop (at + width) s)) ∙ ap (λ (l : List ℕ). x ++ l) (drop-drop n (at + width) s ∙ c.from);
        })

-- ---- all boxes

-- boxes whose lengths fit
record Short (p : Sheet) : Type 0 where
  pub motor : length p.motor < 65536
  pub cylinder : length p.cylinder < 65536
  pub seek : length p.seek < 65536
  pub index : length p.index < 65536
  pub command : length p.command < 65536
  pub reply : length p.reply < 65536
  pub unread : length p.unread ≤ most_transfer
  pub lost : length p.lost < 65536
  pub write : length p.write < 65536
  pub machine : length p.machine < 65536
  pub format : length p.format < 65536

-- and so does the length of all
all_short : (p : Sheet) → Short p → length (boxes_for p) < 4294967296
unfolding boxes_for
all_short p f = simp length-append (omega arith)

-- what stands behind a box that version 1 does not have
next-new : (s : List ℕ) (at : ℕ) → is_old s ≡ false → behind_new (is_old s) s at ≡ behind 2 s at
next-new s at e = ap (λ (v : Bool). behind_new v s at) e

-- boxes that were written are read, and the last ends where the bytes do
boxes-in : (s : List ℕ) (p : Sheet) → is_old s ≡ false → Short p → Stands s 5 (boxes_for p) → (sheet_at s ≡ p) × ((places_of s).end ≡ length s)
unfolding boxes_for places_of sheet_at
boxes-in s p new f c =
    let at : Places = places_of s in
    let (motor, c1) = box_in 2 _ two s at.motor p.motor _ f.motor c in
    let (cylinder, c2) = box_in 2 _ two s at.cylinder p.cylinder _ f.cylinder c1 in
    let (seek, c3) = box_in 2 _ two s at.seek p.seek _ f.seek c2 in
    let (index, c4) = box_in 2 _ two s at.index p.index _ f.index c3 in
    let (command, c5) = box_in 2 _ two s at.command p.command _ f.command c4 in
    let (reply, c6) = box_in 2 _ two s at.reply p.reply _ f.reply c5 in
    let (unread, c7) = box_in 4 _ four s at.unread p.unread _ (omega (arith, f.unread)) c6 in
    let (lost, c8) = box_in 2 _ two s at.lost p.lost _ f.lost c7 in
    let (write, c9) = box_in 2 _ two s at.write p.write _ f.write c8 in
    let (machine, c10) = box_in 2 _ two s at.machine p.machine _ f.machine c9 in
    let behind-machine : at.format ≡ behind 2 s at.machine = next-new s at.machine new in
    let behind-format : at.end ≡ behind 2 s at.format = next-new s at.format new in
    let (format, c11) = box_in 2 _ two s at.format p.format _ f.format (subst (λ (k : ℕ). Stands s k (box_for 2 p.format [])) (sym behind-machine) c10) in (
      λ i. record {
        motor = motor i;
        cylinder = cylinder i;
        seek = seek i;
        index = index i;
        command = command i;
        reply = reply i;
        unread = unread i;
        lost = lost i;
        write = write i;
        machine = machine i;
        format = format i;
      },
      omega (arith, behind-format, c11.long),
    )

-- boxes that are read, of which the last ends where the bytes do, stand there as they are written
boxes-out : (s : List ℕ) → is_old s ≡ false → ((k : ℕ) → byte_at s k < 256) → (places_of s).end ≡ length s → Stands s 5 (boxes_for (sheet_at s))
unfolding boxes_for places_of sheet_at
boxes-out s new b e =
    let at : Places = places_of s in
    let c11 : Stands s at.end [] = record { long = omega (arith, e); from = drop_of_length-le s {i = at.end} (omega (arith, e)) } in
    let c10 = box_out 2 _ two s at.format b _ (subst (λ (k : ℕ). Stands s k []) (next-new s at.format new) c11) in
    let c9 = subst (λ (k : ℕ). Stands s k (box_for 2 (box_at 2 s at.format) [])) (next-new s at.machine new) c10 in
    box_out 2 _ two s at.motor b _
    (box_out 2 _ two s at.cylinder b _
    (box_out 2 _ two s at.seek b _
    (box_out 2 _ two s at.index b _
    (box_out 2 _ two s at.command b _
    (box_out 2 _ two s at.reply b _
    (box_out 4 _ four s at.unread b _
    (box_out 2 _ two s at.lost b _
    (box_out 2 _ two s at.write b _
    (box_out 2 _ two s at.machine b _ c9)))))))))

-- ---- the frame

-- a sheet of boxes that fit, with a machine, has its frame, and these boxes are read
paper-in : (p : Sheet) → Short p → one_to 1 p.machine ≡ true → (framed (paper_of p) ≡ true) × (sheet_at (paper_of p) ≡ p)
unfolding framed
paper-in p f one =
    let s : List ℕ = paper_of p in
    let n : ℕ = length (boxes_for p) in
    let c : Stands s 1 (high_for 4 n (boxes_for p)) = unfold paper_of in record { long = omega arith; from = refl } in
    let (told, t) = number_in 4 _ four s 1 n (boxes_for p) (all_short p f) c in
    let new : is_old s ≡ false = unfold paper_of in refl in
    let (same, end) = boxes-in s p new f t in
    let first : byte_at s 0 ≡ sheet_version = unfold paper_of in refl in
    let machine : one_to 1 (sheet_at s).machine ≡ true = ap (λ (q : Sheet). one_to 1 q.machine) same ∙ one in
    let long : 5 + high_at 4 s 1 ≡ length s = omega (arith, told, t.long) in
    (rw (new, eq-eqb (byte_at s 0) sheet_version first, machine, eq-eqb (5 + high_at 4 s 1) (length s) long, eq-eqb (places_of s).end (length s) end), same)

-- what has the frame of a sheet of version 2
record Framed (s : List ℕ) : Type 0 where
  pub first : byte_at s 0 ≡ sheet_version
  pub one : one_to 1 (sheet_at s).machine ≡ true
  pub long : 5 + high_at 4 s 1 ≡ length s
  pub end : (places_of s).end ≡ length s

framed-so : (s : List ℕ) → is_old s ≡ false → framed s ≡ true → Framed s
unfolding framed
framed-so s new e =
    let later : Bool = eqb (byte_at s 0) sheet_version && one_to 1 (sheet_at s).machine in
    let lengths : Bool = eqb (5 + high_at 4 s 1) (length s) && eqb (places_of s).end (length s) in
    let v : later ≡ true = subst (λ (f : Bool). (f || later) ≡ true) new (and-fst (is_old s || later) lengths e) in
    let l : lengths ≡ true = and-snd (is_old s || later) lengths e in
    record {
      first = eqb-true (byte_at s 0) sheet_version (and-fst (eqb (byte_at s 0) sheet_version) _ v);
      one = and-snd (eqb (byte_at s 0) sheet_version) _ v;
      long = eqb-true (5 + high_at 4 s 1) (length s) (and-fst (eqb (5 + high_at 4 s 1) (length s)) _ l);
      end = eqb-true (places_of s).end (length s) (and-snd (eqb (5 + high_at 4 s 1) (length s)) _ l);
    }

-- bytes with the frame of a sheet of version 2 are the sheet of the boxes in it
paper-out : (s : List ℕ) → is_old s ≡ false → ((k : ℕ) → byte_at s k < 256) → framed s ≡ true → paper_of (sheet_at s) ≡ s
unfolding paper_of
paper-out s new b e =
    let p : Sheet = sheet_at s in
    let f = framed-so s new e in
    let t : Stands s 5 (boxes_for p) = boxes-out s new b f.end in
    let c = number-out 4 _ four s 1 b (length (boxes_for p)) (boxes_for p) (omega (arith, f.long, t.long)) t in
    sym (drop-cons s 0 0 (omega (arith, f.long)) ∙ ap₂ (λ (v : ℕ) (l : List ℕ). v ∷ l) f.first c.from)

-- ---- boxes of the machine, written and read

-- a box of five numbers is not empty
some-box : (a b c d e : ℕ) (x : List ℕ) → eqb (length (a ∷ b ∷ c ∷ d ∷ e ∷ x)) 0 ≡ false
some-box a b c d e x = ne_eqb (length (a ∷ b ∷ c ∷ d ∷ e ∷ x)) 0 (λ q. omega (arith, q))

-- a write, or a Format, in its box
work-back : (w : Option Writing) → let none? : Bool = eqb (length (write_box w)) 0 in in_box none? (either_box none? (write_box w) (format_box w)) ≡ w
work-back none = refl
work-back (some w) = go w.goal
  where
    go : (g : Goal) → let x : List ℕ = write_as g w.c1 w.held in let y : List ℕ = format_as g w.c1 w.held in
        let none? : Bool = eqb (length x) 0 in in_box none? (either_box none? x y) ≡ some record { c1 = w.c1; goal = g; held = w.held }
    go (IntoSector id) = let e = some-box w.c1 id.c id.h id.r id.n w.held in rw (e, e) refl
    go (IntoTrack z) = let e = some-box w.c1 z.size z.sectors z.gap z.filler w.held in rw e refl

world-back : (w : World) → w.inside.index < 65536 → world_from (boxes_of w) ≡ change_disk Empty w
unfolding world_from boxes_of change_disk
world-back w fits = λ i. record {
  inside = record {
    setting = setting_same w.inside.setting i;
    motor = flag-back w.inside.motor i;
    index = two.back w.inside.index [] fits i;
    command = w.inside.command;
    write = work-back w.inside.write i;
    drives = record { first = record { cylinder = w.inside.drives.first.cylinder; slot = Empty } };
  };
  front = record { seek = seek-back w.front.seek i; reply = w.front.reply; unread = w.front.unread; lost = w.front.lost };
}

-- the boxes are in range
flag-few : (f : Bool) → leb (flag_byte f) 1 ≡ true
flag-few true = refl
flag-few false = refl

seek-few : (s : Seek) → leb (seek_byte s) 2 ≡ true
seek-few Idle = refl
seek-few Running = refl
seek-few Done = refl

machine-few : (m : Machine) → leb (machine_byte m) 1 ≡ true
machine-few Rust = refl
machine-few DataSheet = refl

five-whole : (a b c d e : ℕ) (x : List ℕ) → is_work (a ∷ b ∷ c ∷ d ∷ e ∷ x) ≡ true
five-whole a b c d e x = rw (some-box a b c d e x, le-leb 5 (length (a ∷ b ∷ c ∷ d ∷ e ∷ x)) (omega arith))

or-true : (v : Bool) → (v || true) ≡ true
or-true true = refl
or-true false = refl

-- both boxes have their form, and one of them is empty
record Works (x y : List ℕ) : Type 0 where
  pub write : is_work x ≡ true
  pub format : is_work y ≡ true
  pub alone : (eqb (length x) 0 || eqb (length y) 0) ≡ true

works-of : (w : Option Writing) → Works (write_box w) (format_box w)
works-of none = record { write = refl; format = refl; alone = refl }
works-of (some w) = go w.goal
  where
    go : (g : Goal) → Works (write_as g w.c1 w.held) (format_as g w.c1 w.held)
    go (IntoSector id) = record { write = five-whole w.c1 id.c id.h id.r id.n w.held; format = refl; alone = or-true (eqb (length (w.c1 ∷ id.c ∷ id.h ∷ id.r ∷ id.n ∷ w.held)) 0) }
    go (IntoTrack z) = record { write = refl; format = five-whole w.c1 z.size z.sectors z.gap z.filler w.held; alone = refl }

range_back : (w : World) → in_range (boxes_of w) ≡ true
unfolding in_range boxes_of
range_back w =
    let f = works-of w.inside.write in
    rw (flag-few w.inside.motor, seek-few w.front.seek, f.write, f.format, f.alone)

-- ---- boxes of the machine, read and written

-- a number of one byte
one_kept : (x : List ℕ) → length x ≡ 1 → byte_at x 0 ∷ [] ≡ x
one_kept [] h = absurd (omega arith)
one_kept (b ∷ []) h = refl
one_kept (b ∷ c ∷ x) h = absurd (omega arith)

-- c1 and ID
five-kept : (x : List ℕ) → 5 ≤ length x → byte_at x 0 ∷ byte_at x 1 ∷ byte_at x 2 ∷ byte_at x 3 ∷ byte_at x 4 ∷ drop 5 x ≡ x
five-kept [] h = absurd (omega arith)
five-kept (c1 ∷ []) h = absurd (omega arith)
five-kept (c1 ∷ c ∷ []) h = absurd (omega arith)
five-kept (c1 ∷ c ∷ h ∷ []) l = absurd (omega arith)
five-kept (c1 ∷ c ∷ h ∷ r ∷ []) l = absurd (omega arith)
five-kept (c1 ∷ c ∷ h ∷ r ∷ n ∷ x) l = refl

nil_is : (x : List ℕ) → eqb (length x) 0 ≡ true → [] ≡ x
nil_is [] e = refl
nil_is (b ∷ x) e = absurd (omega (arith, eqb-true (length (b ∷ x)) 0 e))

five-there : (x : List ℕ) → is_work x ≡ true → eqb (length x) 0 ≡ false → 5 ≤ length x
five-there x h e = leb-true 5 (length x) (subst (λ (v : Bool). (v || leb 5 (length x)) ≡ true) e h)

work-kept : (x y : List ℕ) → Works x y → let o : Option Writing = in_box (eqb (length x) 0) (either_box (eqb (length x) 0) x y) in (write_box o ≡ x) × (format_box o ≡ y)
work-kept x y w = go (eqb (length x) 0) refl (eqb (length y) 0) refl
  where
    go : (t : Bool) → eqb (length x) 0 ≡ t → (u : Bool) → eqb (length y) 0 ≡ u
        → let o : Option Writing = in_box (eqb (length x) 0) (either_box (eqb (length x) 0) x y) in (write_box o ≡ x) × (format_box o ≡ y)
    go true e true f = rw (e, f) (nil_is x e, nil_is y f)
    go true e false f = rw (e, f) (nil_is x e, five-kept y (five-there y w.format f))
    go false e true f = rw (e, e) (five-kept x (five-there x w.write e), nil_is y f)
    go false e false f = let z : (false || false) ≡ true = sym (ap₂ (λ (t u : Bool). t || u) e f) ∙ w.alone in never (cc)

-- boxes in range
record Ranged (p : Sheet) : Type 0 where
  pub motor : (length p.motor ≡ 1) × (byte_at p.motor 0 ≤ 1)
  pub cylinder : length p.cylinder ≡ 1
  pub seek : (length p.seek ≡ 1) × (byte_at p.seek 0 ≤ 2)
  pub index : length p.index ≡ 2
  pub lost : length p.lost ≡ 1
  pub works : Works p.write p.format

one-so : (most : ℕ) (x : List ℕ) → one_to most x ≡ true → (length x ≡ 1) × (byte_at x 0 ≤ most)
one-so most x e = (eqb-true (length x) 1 (and-fst (eqb (length x) 1) _ e), leb-true (byte_at x 0) most (and-snd (eqb (length x) 1) _ e))

ranged : (p : Sheet) → in_range p ≡ true → Ranged p
unfolding in_range
ranged p e =
    let e1 = and-snd (one_to 1 p.motor) _ e in
    let e2 = and-snd (eqb (length p.cylinder) 1) _ e1 in
    let e3 = and-snd (one_to 2 p.seek) _ e2 in
    let e4 = and-snd (eqb (length p.index) 2) _ e3 in
    let e5 = and-snd (eqb (length p.lost) 1) _ e4 in
    let e6 = and-snd (is_work p.write) _ e5 in
    record {
      motor = one-so 1 p.motor (and-fst (one_to 1 p.motor) _ e);
      cylinder = eqb-true (length p.cylinder) 1 (and-fst (eqb (length p.cylinder) 1) _ e1);
      seek = one-so 2 p.seek (and-fst (one_to 2 p.seek) _ e2);
      index = eqb-true (length p.index) 2 (and-fst (eqb (length p.index) 2) _ e3);
      lost = eqb-true (length p.lost) 1 (and-fst (eqb (length p.lost) 1) _ e4);
      works = record {
        write = and-fst (is_work p.write) _ e5;
        format = and-fst (is_work p.format) _ e6;
        alone = and-snd (is_work p.format) _ e6;
      };
    }

machine-kept : (b : ℕ) → b ≤ 1 → machine_byte (setting_of b).machine ≡ b
machine-kept zero h = refl
machine-kept (suc zero) h = refl
machine-kept (suc (suc b)) h = absurd (omega (arith, h))

world-kept : (p : Sheet) → ((k : ℕ) → byte_at p.index k < 256) → one_to 1 p.machine ≡ true → in_range p ≡ true → boxes_of (world_from p) ≡ p
unfolding world_from boxes_of
world-kept p b one e =
    let f = ranged p e in
    let m = one-so 1 p.machine one in
    let w = work-kept p.write p.format f.works in
    let whole = drop_of_length-le p.index {i = 2} (omega (arith, f.index)) in
    let index = ap (high_for 2 (high_at 2 p.index 0)) (sym whole) ∙ two.kept p.index b (omega (arith, f.index)) in
    λ i. record {
      motor = (ap (λ (v : ℕ). v ∷ []) (flag-kept (byte_at p.motor 0) f.motor.1) ∙ one_kept p.motor f.motor.0) i;
      cylinder = one_kept p.cylinder f.cylinder i;
      seek = (ap (λ (v : ℕ). v ∷ []) (seek-kept (byte_at p.seek 0) f.seek.1) ∙ one_kept p.seek f.seek.0) i;
      index = index i;
      command = p.command;
      reply = p.reply;
      unread = p.unread;
      lost = one_kept p.lost f.lost i;
      write = w.0 i;
      machine = (ap (λ (v : ℕ). v ∷ []) (machine-kept (byte_at p.machine 0) m.1) ∙ one_kept p.machine m.0) i;
      format = w.1 i;
    }

-- ---- writing, then reading

work-short : (x : Setting) (w : Option Writing) → wrong_writing x w ≡ false → (length (write_box w) < 65536) × (length (format_box w) < 65536)
work-short x none e = (omega arith, omega arith)
work-short x (some w) e = go w.goal (held-few x w e)
  where
    go : (g : Goal) → length w.held < most_held → (length (write_as g w.c1 w.held) < 65536) × (length (format_as g w.c1 w.held) < 65536)
    go (IntoSector id) h = (omega (arith, h), omega arith)
    go (IntoTrack z) h = (omega arith, omega (arith, h))

short : (w : World) → Writable w → Short (boxes_of w)
unfolding boxes_of
short w f = record {
  motor = omega arith;
  cylinder = omega arith;
  seek = omega arith;
  index = omega arith;
  command = omega (arith, command-few w f.right);
  reply = omega (arith, reply-few w f.right);
  unread = f.unread-fits;
  lost = omega arith;
  write = (work-short w.inside.setting w.inside.write (write-fits w f.right)).0;
  machine = omega arith;
  format = (work-short w.inside.setting w.inside.write (write-fits w f.right)).1;
}

-- Reading what was written gives the same boxes, with no disk.
pub sheet-back : (w : World) → Writable w → world_in (sheet_of w) ≡ Ok (change_disk Empty w)
unfolding world_in
sheet-back w f =
    let one : one_to 1 (boxes_of w).machine ≡ true = unfold boxes_of in machine-few w.inside.setting.machine in
    let (frame, same) = paper-in (boxes_of w) (short w f) one in
    let right : wrong_boxes (change_disk Empty w) ≡ false = unfold wrong_boxes change_disk in f.right in
    rw (frame, same, range_back w, world-back w f.index-fits, right)

-- ---- reading, then writing

-- what an accepted sheet has passed, and the boxes that it gives
record Accepted (s : List ℕ) (w : World) : Type 0 where
  pub frame : framed s ≡ true
  pub range : in_range (sheet_at s) ≡ true
  pub right : wrong_boxes w ≡ false
  pub from : world_from (sheet_at s) ≡ w

accepted : (s : List ℕ) (w : World) → world_in s ≡ Ok w → Accepted s w
unfolding world_in
accepted s w e =
    let (frame, e1) = need-good (framed s) _ _ _ e in
    let (range, e2) = need-good (in_range (sheet_at s)) _ _ _ e1 in
    let (right, e3) = need-good (not (wrong_boxes (world_from (sheet_at s)))) _ _ _ e2 in
    let from : world_from (sheet_at s) ≡ w = cc in
    record { frame = frame; range = range; right = rw (← from) (not-true (wrong_boxes (world_from (sheet_at s))) right); from = from }

-- bytes of a box are bytes
take-small : (n : ℕ) (l : List ℕ) (k : ℕ) → byte_at l k < 256 → byte_at (take n l) k < 256
take-small zero l k h = omega arith
take-small (suc n) [] k h = omega arith
take-small (suc n) (x ∷ l) zero h = h
take-small (suc n) (x ∷ l) (suc k) h = take-small n l k h

index-small : (s : List ℕ) → ((k : ℕ) → byte_at s k < 256) → (k : ℕ) → byte_at (sheet_at s).index k < 256
unfolding sheet_at box_at
index-small s b k =
    let at : ℕ = (places_of s).index in
    take-small (high_at 2 s at) (drop (at + 2) s) k (rw get_or-drop (b (at + 2 + k)))

-- A sheet of version 2 that is accepted is the sheet of the boxes that it gives.
pub sheet-is : (s : List ℕ) (w : World) → is_old s ≡ false → ((k : ℕ) → byte_at s k < 256) → world_in s ≡ Ok w → sheet_of w ≡ s
sheet-is s w new b e =
    let a = accepted s w e in
    let one = (framed-so s new a.frame).one in
    ap sheet_of (sym a.from) ∙ ap paper_of (world-kept (sheet_at s) (index-small s b) one a.range) ∙ paper-out s new b a.frame

-- So no two of them give equal boxes,
pub sheets-differ : (s t : List ℕ) (w : World) → is_old s ≡ false → is_old t ≡ false → ((k : ℕ) → byte_at s k < 256) → ((k : ℕ) → byte_at t k < 256)
    → world_in s ≡ Ok w → world_in t ≡ Ok w → s ≡ t
sheets-differ s t w new new' b c e f = sym (sheet-is s w new b e) ∙ sheet-is t w new' c f

-- and equal boxes have one sheet, whatever is in the drive.
pub one-sheet : (v w : World) → change_disk Empty v ≡ change_disk Empty w → sheet_of v ≡ sheet_of w
unfolding boxes_of change_disk
one-sheet v w e = ap sheet_of e

-- What is accepted is in range: the boxes are those that refusal 1 does not name,
pub accepted-right : (s : List ℕ) (w : World) → world_in s ≡ Ok w → wrong_boxes w ≡ false
accepted-right s w e = (accepted s w e).right

-- there is no disk,
pub accepted-empty : (s : List ℕ) (w : World) → world_in s ≡ Ok w → change_disk Empty w ≡ w
unfolding change_disk world_from
accepted-empty s w e = let a = accepted s w e in ap (change_disk Empty) (sym a.from) ∙ a.from

-- and the index fits.
pub accepted-index : (s : List ℕ) (w : World) → ((k : ℕ) → byte_at s k < 256) → world_in s ≡ Ok w → w.inside.index < 65536
unfolding world_from high_at
accepted-index s w b e =
    let x : List ℕ = (sheet_at s).index in
    let i : high_at 2 x 0 ≡ w.inside.index = ap (λ (v : World). v.inside.index) (accepted s w e).from in
    omega (arith, i, index-small s b 0, index-small s b 1)

-- ---- version 1

-- a box where the bytes end is empty
end-box : (s : List ℕ) (at : ℕ) → at ≡ length s → box_at 2 s at ≡ []
unfolding box_at
end-box s at e = ap (take (high_at 2 s at)) (drop_of_length-le s {i = at + 2} (omega (arith, e))) ∙ take_none (high_at 2 s at)
  where
    take_none : (n : ℕ) → ◌≡◌ {A = List ℕ} (take n []) []
    take_none zero = refl
    take_none (suc n) = refl

-- the boxes of a sheet of version 1: no machine, no Format
old-boxes : (s : List ℕ) → is_old s ≡ true → framed s ≡ true → ((sheet_at s).machine ≡ []) × ((sheet_at s).format ≡ [])
unfolding framed sheet_at places_of
old-boxes s old e =
    let later : Bool = eqb (byte_at s 0) sheet_version && one_to 1 (sheet_at s).machine in
    let lengths : Bool = eqb (5 + high_at 4 s 1) (length s) && eqb (places_of s).end (length s) in
    let l : lengths ≡ true = and-snd (is_old s || later) lengths e in
    let end : (places_of s).end ≡ length s = eqb-true (places_of s).end (length s) (and-snd (eqb (5 + high_at 4 s 1) (length s)) _ l) in
    let at : Places = places_of s in
    let machine : at.format ≡ at.machine = ap (λ (v : Bool). behind_new v s at.machine) old in
    let format : at.end ≡ at.format = ap (λ (v : Bool). behind_new v s at.format) old in
    (end-box s at.machine (omega (arith, end, machine, format)), end-box s at.format (omega (arith, end, format)))

no-format : (t : Bool) (x : List ℕ) → format_box (in_box t (either_box t x [])) ≡ []
no-format true x = refl
no-format false x = go (eqb (length x) 0)
  where
    go : (v : Bool) → format_box (work_if false v x) ≡ []
    go true = refl
    go false = refl

-- A sheet of version 1 that is accepted gives the Rust machine, and no Format.
pub old-rust : (s : List ℕ) (w : World) → is_old s ≡ true → world_in s ≡ Ok w → (w.inside.setting ≡ rust_machine) × (format_box w.inside.write ≡ [])
unfolding world_from
old-rust s w old e =
    let a = accepted s w e in
    let p : Sheet = sheet_at s in
    let b = old-boxes s old a.frame in
    let x : setting_of (byte_at p.machine 0) ≡ rust_machine = ap (λ (m : List ℕ). setting_of (byte_at m 0)) b.0 in
    let y : format_box (work_of p) ≡ [] =
    ap (λ (f : List ℕ). format_box (in_box (no_write p) (either_box (no_write p) p.write f))) b.1 ∙ no-format (no_write p) p.write in
    (sym (ap (λ (v : World). v.inside.setting) a.from) ∙ x, sym (ap (λ (v : World). format_box v.inside.write) a.from) ∙ y)
