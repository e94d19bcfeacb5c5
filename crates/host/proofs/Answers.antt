-- What the calls over a controller's bytes do, by the answers of the calls on its registers.
use mathlib.Core.Path.{◌≡◌, refl, sym, ap, ◌∙◌}
use Prim.Native.Nat.{ℕ, ◌-◌, ◌%◌, ◌≤◌}
use native.Mathlib.Omega.{arith}
use mathlib.Core.List.{List, ◌++◌, append-nil}
use lib.ListN.{length, set, take, drop, replicate, drop_of_length-le, length-drop, take-append-drop}
use lib.Seq.{take_all, drop_at, length-take-le}
use borrow.Rule.Slice.PartMut.{put_mid, mid_of}
use borrow.Author.Tests.{eq-eqb, ne_eqb}
use Rattle.fields.specs.Capacities.{most_data}
use Rattle.fields.specs.declared.id.SectorId.{SectorId}
use Rattle.fields.specs.declared.refusal.Refusal.{Refusal}
use Rattle.fields.specs.declared.refusal.Refusal.TheVariants.{BadController}
use Rattle.fields.proofs.Tests.{never}
use Rattle.store.specs.Spots.{place_of, part}
use Rattle.store.specs.declared.answer.Match.{Match}
use Rattle.store.proofs.Checks.{room_in}
use Rattle.store.proofs.Founds.{part-within}
use Rattle.registers.specs.declared.regs.Regs.{Regs}
use Rattle.registers.specs.Boxes.{Sent}
use Rattle.registers.specs.Settle.{regs_of}
use Rattle.commands.specs.Lent.{left, left_of}
use Rattle.sending.specs.Calls.{sent_to, data_write}
use Rattle.floppy.specs.Calls.{new_floppy}
use Rattle.layout.specs.Layout.{numbers_length, controller_length, numbers_for, floppy_bytes, held_at, regs_in}
use Rattle.words.specs.Words.{refusal_word, receipt_word}
use Rattle.host.specs.Calls.{answered, relaid, new_on, sending, if_taken, written_on, posted_on, write_on, part_word, part_on}
use Rattle.std.specs.Prelude.{Result, Ok, Err, Option}
use Rattle.store.specs.declared.find.Place.{Place}
use Rattle.registers.specs.declared.regs.Report.{Report}
use Rattle.registers.specs.declared.regs.Answered.{Answered as WithRegs}

-- ---- a new controller

pub new-bad : (k : ℕ) (l : List ℕ) (w : ℕ) → (length l ≡ controller_length → ⊥) → w ≡ refusal_word BadController → answered w l ≡ new_on k l
unfolding new_on
new-bad k l w n q = rw (ne_eqb _ _ n) (ap (λ (z : ℕ). answered z l) q)

-- zeros, but for the setting
zeros-with : (k : ℕ) → set (replicate controller_length 0) 42 (k % 2) ≡ floppy_bytes (new_floppy k)
unfolding numbers_for new_floppy
zeros-with k = refl

pub new-good : (k : ℕ) (l m : List ℕ) → length l ≡ controller_length → m ≡ replicate (length l) 0 → answered 0 (set m 42 (k % 2)) ≡ new_on k l
unfolding new_on
new-good k l m h e =
    rw (eq-eqb _ _ h) (ap (λ (z : List ℕ). answered 0 (set z 42 (k % 2))) (e ∙ ap (λ (n : ℕ). replicate n 0) h) ∙ ap (answered 0) (zeros-with k))

-- ---- a byte sent: the held bytes are the part behind the numbers

pub mid-is : (l : List ℕ) → mid_of numbers_length (length l - numbers_length) l ≡ held_at l
mid-is l = take_all (length l - numbers_length) (drop numbers_length l) (omega (arith, length-drop numbers_length l))

put_is : (l h : List ℕ) → length l ≡ controller_length → put_mid numbers_length (length l - numbers_length) l h ≡ take numbers_length l ++ h
put_is l h e =
    ap (λ (z : List ℕ). take numbers_length l ++ (h ++ z)) (drop_of_length-le (drop numbers_length l) {i = length l - numbers_length} (omega (arith, length-drop numbers_length l)))
    ∙ ap (λ (z : List ℕ). take numbers_length l ++ z) (append-nil h)

-- a refused byte leaves the held bytes
refused-held : (y : Result Sent Refusal) (r : Regs) (h t d x : List ℕ) (a : WithRegs Report) (h' t' d' x' : List ℕ) (why : Refusal)
    → left a h' t' d' x' ≡ left_of y r h t d x → a.answer ≡ Err why → h' ≡ h
unfolding left_of regs_of
refused-held (Err w) r h t d x a h' t' d' x' why e q = cc
refused-held (Ok s) r h t d x a h' t' d' x' why e q = never (cc)

-- the bytes with other held bytes in place
module _ (l h' : List ℕ) (long : length l ≡ controller_length) where
  abbrev pub Put : List ℕ
  Put = put_mid numbers_length (length l - numbers_length) l h'

  pub held-put : held_at Put ≡ h'
  held-put = ap (drop numbers_length) (put_is l h' long) ∙ drop_at (take numbers_length l) h' numbers_length (length-take-le numbers_length l (omega (arith, long)))

  pub put_back : h' ≡ held_at l → Put ≡ l
  put_back e = put_is l h' long ∙ ap (λ (z : List ℕ). take numbers_length l ++ z) e ∙ take-append-drop numbers_length l

module _ (l t d x : List ℕ) (b : ℕ) (a : WithRegs Report) (h' t' d' x' : List ℕ) (w : ℕ) (m : List ℕ) (long : length l ≡ controller_length) where
  abbrev Laid : List ℕ
  Laid = Put l h' long

  -- what is then in the bytes, by the answer
  taken-bytes : (z : Result Report Refusal) (r : Regs) → ((why : Refusal) → z ≡ Err why → h' ≡ held_at l)
      → if_taken z (relaid Laid r) Laid ≡ if_taken z (numbers_for r h') l
  taken-bytes (Ok z) r k = ap (numbers_for r) (held-put l h' long)
  taken-bytes (Err why) r k = put_back l h' long (k why refl)

  settled : ((why : Refusal) → a.answer ≡ Err why → h' ≡ held_at l) → answered w m ≡ written_on Laid a
      → sending w m t' d' x' ≡ posted_on l (left a h' t' d' x')
  settled k s =
      let p : w ≡ receipt_word a.answer = cc in
      let q : m ≡ if_taken a.answer (relaid Laid a.regs) Laid = cc in
      λ i. sending (p i) ((q ∙ taken-bytes a.answer a.regs k) i) t' d' x'

  module _ (g : Regs) (f : regs_in l ≡ Ok g) (o : left a h' t' d' x' ≡ data_write g b (mid_of numbers_length (length l - numbers_length) l) t d x)
      (s : answered w m ≡ written_on Laid a) where
    same : left a h' t' d' x' ≡ data_write g b (held_at l) t d x
    same = o ∙ ap (λ (z : List ℕ). data_write g b z t d x) (mid-is l)

    pub sent-good : sending w m t' d' x' ≡ write_on l t d x b
    unfolding write_on
    sent-good =
        rw f
        (settled (λ why q. refused-held (sent_to g b (held_at l) t d x) g (held_at l) t d x a h' t' d' x' why (unfold data_write in same) q) s
        ∙ ap (posted_on l) same)

-- bytes that no controller has
pub sent-bad : (l t d x : List ℕ) (b w : ℕ) (why : Refusal) → regs_in l ≡ Err why → w ≡ refusal_word why → sending w l t d x ≡ write_on l t d x b
unfolding write_on
sent-bad l t d x b w why e q = rw e (ap (λ (z : ℕ). sending z l t d x) q)

-- ---- where a sector stands

module _ (t b : List ℕ) (side cylinder : ℕ) (id : SectorId) (r : Result (Option Place) Refusal) (l : r ≡ place_of t b side cylinder id) where
  pub part-word : (p : Result (Option Place) Refusal) → r ≡ p → part_word p ≡ part_on t b side cylinder id
  unfolding part_on
  part-word p e = ap part_word (sym e ∙ l)

  pub part-few : (m : Match) (row from to end : ℕ) → r ≡ part m row from to end → (from ≤ to) × (to ≤ most_data)
  part-few m row from to end e = omega (arith, part-within t b side cylinder id r l m row from to end e, room_in b)
