-- What the calls that write and read a sheet over a controller's bytes do, by the answers of the calls on its parts.
use mathlib.Core.Path.{◌≡◌, refl, sym, ap, ◌∙◌}
use Prim.Native.Nat.{ℕ, ◌-◌}
use mathlib.Core.List.{List}
use lib.ListN.{length}
use borrow.Rule.Slice.PartMut.{mid_of}
use borrow.Author.Tests.{eq-eqb, ne_eqb}
use Rattle.fields.specs.declared.refusal.Refusal.{Refusal}
use Rattle.fields.specs.declared.refusal.Refusal.TheVariants.{BadController}
use Rattle.fields.proofs.Tests.{never}
use Rattle.registers.specs.declared.regs.Regs.{Regs}
use Rattle.registers.specs.Boxes.{World}
use Rattle.layout.specs.Layout.{numbers_length, controller_length, numbers_for, regs_at, held_at, regs_in}
use Rattle.store.specs.Calls.{penned}
use Rattle.sheet.specs.Calls.{sheet_written, taken_from, Resuming, resuming, resumed_as, sheet_read}
use Rattle.words.specs.Words.{refusal_word, extent_word}
use Rattle.host.specs.Calls.{answered, penned_on, write_sheet_on, switched_on, taken_up, resumed_by, resumed_on, read_sheet_on}
use Rattle.host.proofs.Answers.{mid-is, Put, held-put, put_back}
use Rattle.std.specs.Prelude.{Result, Ok, Err}
use Rattle.registers.specs.declared.regs.Answered.{Answered as WithRegs}

-- ---- writing

pub sheet-bad : (l x s : List ℕ) (w : ℕ) (why : Refusal) → regs_in l ≡ Err why → w ≡ refusal_word why → answered w s ≡ write_sheet_on l x s
unfolding write_sheet_on
sheet-bad l x s w why e q = rw e (ap (λ (z : ℕ). answered z s) q)

pub sheet-good : (l x s : List ℕ) (g : Regs) (a : Result ℕ Refusal) (s' : List ℕ) (w : ℕ) → regs_in l ≡ Ok g
    → penned a s' ≡ sheet_written g (mid_of numbers_length (length l - numbers_length) l) x s → w ≡ extent_word a → answered w s' ≡ write_sheet_on l x s
unfolding write_sheet_on
sheet-good l x s g a s' w f o q =
    rw f (ap (λ (y : ℕ). answered y s') q ∙ ap penned_on (o ∙ ap (λ (h : List ℕ). sheet_written g h x s) (mid-is l)))

-- ---- reading

pub read-bad : (l x s : List ℕ) (w : ℕ) → (length l ≡ controller_length → ⊥) → w ≡ refusal_word BadController → taken_up w l x ≡ read_sheet_on l x s
unfolding read_sheet_on
read-bad l x s w n q = rw (ne_eqb (length l) controller_length n) (ap (λ (z : ℕ). taken_up z l x) q)

-- a refused sheet leaves the held bytes
done_in : Resuming → Result (Unit {0}) Refusal
done_in (resuming a h x) = a.answer

refused-held : (y : Result World Refusal) (r : Regs) (h x : List ℕ) (a : WithRegs (Unit {0})) (h' x' : List ℕ) (why : Refusal)
    → resuming a h' x' ≡ resumed_as y r h x → a.answer ≡ Err why → h' ≡ h
unfolding done_in
refused-held (Err w) r h x a h' x' why e q = cc
refused-held (Ok w) r h x a h' x' why e q = let z : Err why ≡ Ok tt = sym q ∙ ap done_in e in never (cc)

module _ (l x s : List ℕ) (long : length l ≡ controller_length) (a : WithRegs (Unit {0})) (h' x' : List ℕ) (w : ℕ) (m : List ℕ) where
  -- what is then in the bytes, by the answer
  resumed-bytes : (z : Result (Unit {0}) Refusal) (r : Regs) → ((why : Refusal) → z ≡ Err why → h' ≡ held_at l) → answered w m ≡ switched_on (Put l h' long) (record { answer = z; regs = r })
      → taken_up w m x' ≡ resumed_by z l r h' x'
  resumed-bytes (Ok tt) r k e =
      let p : w ≡ 0 = cc in
      let q : m ≡ numbers_for r (held_at (Put l h' long)) = cc in
      λ i. taken_up (p i) ((q ∙ ap (numbers_for r) (held-put l h' long)) i) x'
  resumed-bytes (Err why) r k e =
      let p : w ≡ refusal_word why = cc in
      let q : m ≡ Put l h' long = cc in
      λ i. taken_up (p i) ((q ∙ put_back l h' long (k why refl)) i) x'

  pub read-good : (g : Regs) → g ≡ regs_at l → resuming a h' x' ≡ sheet_read g (mid_of numbers_length (length l - numbers_length) l) s x
      → answered w m ≡ switched_on (Put l h' long) a → taken_up w m x' ≡ read_sheet_on l x s
  unfolding read_sheet_on sheet_read
  read-good g f o t =
      let z : resuming a h' x' ≡ sheet_read (regs_at l) (held_at l) s x = o ∙ (λ i. sheet_read (f i) (mid-is l i) s x) in
      rw (eq-eqb (length l) controller_length long)
      (resumed-bytes a.answer a.regs (λ why q. refused-held (taken_from s x) (regs_at l) (held_at l) x a h' x' why z q) t ∙ ap (resumed_on l) z)
