-- Laws of `same_bytes`: it answers whether two lists are equal.
use mathlib.Core.Path.{◌≡◌, refl, ap}
use mathlib.Core.Bool.{Bool, true, false, ◌&&◌, and-eq-true_iff}
use mathlib.Core.List.{List, [], ◌∷◌}
use Prim.Native.Nat.{ℕ}
use lib.Dec.{eqb}
use borrow.Author.Tests.{eqb-true, eq-eqb}
use Rattle.std.specs.Cmp.Lexicographic.{pointwise}
use Rattle.buffer.specs.Same.{same_bytes}

-- a list is the same as itself
pub same_refl : (a : List ℕ) → same_bytes a a ≡ true
unfolding same_bytes
same_refl [] = refl
same_refl (x ∷ a) = rw (eq-eqb x x refl) (same_refl a)

-- lists that are the same are equal
pub same-eq : (a b : List ℕ) → same_bytes a b ≡ true → a ≡ b
unfolding same_bytes
same-eq [] [] e = refl
same-eq [] (y ∷ b) e = cc
same-eq (x ∷ a) [] e = cc
same-eq (x ∷ a) (y ∷ b) e =
    let both : (eqb x y ≡ true) × (same_bytes a b ≡ true) = (and-eq-true_iff (eqb x y) (same_bytes a b)).0 e in
    λ i. eqb-true x y both.0 i ∷ same-eq a b both.1 i

-- a test that is not true is false
not-true-false : (t : Bool) → (t ≡ true → ⊥) → t ≡ false
not-true-false true h = absurd (h refl)
not-true-false false h = refl

-- lists that are not equal are not the same
pub same-no : (a b : List ℕ) → (a ≡ b → ⊥) → same_bytes a b ≡ false
same-no a b h = not-true-false (same_bytes a b) (λ e. h (same-eq a b e))

-- what `==` of two slices answers
pub same_pointwise : (a b : List ℕ) → pointwise eqb a b ≡ same_bytes a b
unfolding same_bytes
same_pointwise [] [] = refl
same_pointwise [] (y ∷ b) = refl
same_pointwise (x ∷ a) [] = refl
same_pointwise (x ∷ a) (y ∷ b) = ap (λ (t : Bool). eqb x y && t) (same_pointwise a b)
