-- What a turn of each loop leaves that goes byte by byte, and what its end shows, with d the slice as it came and b as it stands.
use mathlib.Core.Path.{◌≡◌, sym, ap, ◌∙◌}
use mathlib.Core.Bool.{Bool, false, ◌&&◌, and-true, and_assoc}
use mathlib.Core.List.{List, [], ◌∷◌, ◌++◌}
use Prim.Native.Nat.{ℕ, zero, suc, ◌+◌, ◌≤◌, ◌<◌}
use native.Mathlib.Nat.{le_of_lt}
use native.Mathlib.Numerals.{add-one}
use native.Mathlib.Omega.{arith}
use lib.Dec.{eqb}
use lib.ListN.{length, take, get_or, set}
use lib.Seq.{take-suc, take_all, length-take-le}
use Rattle.buffer.specs.Over.{over}
use Rattle.buffer.specs.Same.{same_bytes}
use Rattle.buffer.proofs.Overs.{over-set, over-length, over-over}
use Rattle.buffer.proofs.Sames.{same-no}

module _ (d b : List ℕ) where
  -- a loop that goes up stores the next element just after what it has laid
  up_turn : (f : ℕ → List ℕ) (at i v : ℕ) → b ≡ over d at (f i) → length (f i) ≡ i → f (i + 1) ≡ f i ++ (v ∷ []) → at + i < length d
      → set b (at + i) v ≡ over d at (f (i + 1))
  up_turn f at i v e l g h =
      let room : at + i < length (over d at (f i)) = omega (arith, over-length d at (f i) (omega arith)) in
      ap (λ (x : List ℕ). set x (at + i) v) e
      ∙ over-set (over d at (f i)) (at + i) v room
      ∙ over-over d at (f i) (v ∷ []) (at + i) (omega arith) (omega arith)
      ∙ ap (over d at) (sym g)

  -- one more byte of s is copied
  pub copy-turn : (at : ℕ) (s : List ℕ) (i : ℕ) → b ≡ over d at (take i s) → at + length s ≤ length d → i < length s
      → set b (at + i) (get_or s i 0) ≡ over d at (take (i + 1) s)
  copy-turn at s i e h k =
      up_turn (λ (n : ℕ). take n s) at i (get_or s i 0) e (length-take-le i s (le_of_lt k)) (rw (add-one, take-suc s i 0)) (omega arith)

  -- all of s is copied
  pub copy_done : (at : ℕ) (s : List ℕ) (i : ℕ) → b ≡ over d at (take i s) → length s ≤ i → b ≡ over d at s
  copy_done at s i e h = e ∙ ap (over d at) (take_all i s h)

-- two lists up to the next index are the same where they are up to this one, and at it
same_step : (a b : List ℕ) (i : ℕ) → i < length a → i < length b
    → same_bytes (take i a) (take i b) && eqb (get_or a i 0) (get_or b i 0) ≡ same_bytes (take (suc i) a) (take (suc i) b)
unfolding same_bytes
same_step [] b i h k = absurd (omega arith)
same_step (x ∷ a) [] i h k = absurd (omega arith)
same_step (x ∷ a) (y ∷ b) zero h k = sym (and-true (eqb x y))
same_step (x ∷ a) (y ∷ b) (suc i) h k =
    and_assoc (eqb x y) (same_bytes (take i a) (take i b)) (eqb (get_or a i 0) (get_or b i 0))
    ∙ ap (λ (t : Bool). eqb x y && t) (same_step a b i (omega arith) (omega arith))

module _ (a b : List ℕ) where
  -- lists of different lengths are not the same
  pub lengths_differ : (length a ≡ length b → ⊥) → false ≡ same_bytes a b
  lengths_differ h = sym (same-no a b (λ e. h (ap length e)))

  -- one more byte is compared
  pub same_turn : (t : Bool) (i : ℕ) → t ≡ same_bytes (take i a) (take i b) → length a ≡ length b → i < length a
      → t && eqb (get_or a i 0) (get_or b i 0) ≡ same_bytes (take (i + 1) a) (take (i + 1) b)
  same_turn t i e l h =
      ap (λ (u : Bool). u && eqb (get_or a i 0) (get_or b i 0)) e
      ∙ same_step a b i h (omega arith)
      ∙ ap (λ (n : ℕ). same_bytes (take n a) (take n b)) (sym (add-one i))

  -- all bytes are compared
  pub same-done : (t : Bool) (i : ℕ) → t ≡ same_bytes (take i a) (take i b) → length a ≡ length b → length a ≤ i → t ≡ same_bytes a b
  same-done t i e l h = e ∙ (λ j. same_bytes (take_all i a h j) (take_all i b (rw (← l) h) j))
