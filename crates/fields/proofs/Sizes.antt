-- The laws about `size_of`, what is known of a size wherever one is used, and about `copies`.
use mathlib.Core.Path.{◌≡◌, refl, sym, ap, subst, ◌∙◌}
use Prim.Native.Nat.{ℕ, zero, suc, ◌+◌, ◌*◌, ◌/◌, ◌%◌, ◌^◌, ◌≤◌, ◌<◌}
use native.Mathlib.Nat.{div-le_self}
use native.Mathlib.Omega.{arith}
use mathlib.Core.Bool.{Bool, true, false, cond}
use lib.ListN.{get_or}
use lib.Dec.{eqb, ltb, leb, lit<, lit≤}
use mir.Val.{bool_byte}
use borrow.Author.Tests.{le-leb, lt-leb, ltb-true, eq-eqb, ne_eqb}
use Rattle.fields.specs.Model.{printed_sizes, size_of, whole_sizes, copies}
use Rattle.fields.specs.Capacities.{most_held}

-- the printed size that n & 3 chooses is the size; the other laws about sizes go by this one
pub size-by : (n k : ℕ) → n % 4 ≡ k → get_or printed_sizes k 0 ≡ size_of n
unfolding size_of
size-by n k e = ap (λ (j : ℕ). get_or printed_sizes j 0) (sym e)

-- the last one, where n & 3 is none of 0, 1 and 2
pub size-last : (n : ℕ) → (n % 4 ≡ 0 → ⊥) → (n % 4 ≡ 1 → ⊥) → (n % 4 ≡ 2 → ⊥) → 1024 ≡ size_of n
size-last n not-0 not-1 not-2 = size-by n 3 (omega (arith, not-0, not-1, not-2))

-- what holds of each printed size, with what chooses it, holds of every size
size-each : (P : ℕ → ℕ → Type 0) → P 0 128 → P 1 256 → P 2 512 → P 3 1024 → (n : ℕ) → P (n % 4) (size_of n)
size-each P p0 p1 p2 p3 n = subst (P (n % 4)) (size-by n (n % 4) refl) (at (n % 4) (omega arith))
  where
    at : (k : ℕ) → k < 4 → P k (get_or printed_sizes k 0)
    at zero l = p0
    at (suc zero) l = p1
    at (suc (suc zero)) l = p2
    at (suc (suc (suc zero))) l = p3
    at (suc (suc (suc (suc k)))) l = absurd (omega arith)

-- a size is positive
pub size-pos : (n : ℕ) → 0 < size_of n
size-pos = size-each (λ k size. 0 < size) (lit< tt) (lit< tt) (lit< tt) (lit< tt)

-- a sector's size is at most what a controller holds of a write
pub size-most : (n : ℕ) → size_of n ≤ most_held
size-most = size-each (λ k size. size ≤ most_held) (lit≤ tt) (lit≤ tt) (lit≤ tt) (lit≤ tt)

-- n and n + 4 name the same size
pub size-again : (n : ℕ) → size_of (n + 4) ≡ size_of n
size-again n = let e : (n + 4) % 4 ≡ n % 4 = omega arith in sym (size-by (n + 4) (n % 4) e) ∙ size-by n (n % 4) refl

-- it is what 01 says: 128 shifted left by n & 3, which is 128 times two to the n & 3
pub size-power : (n : ℕ) → size_of n ≡ 128 * 2 ^ (n % 4)
size-power = size-each (λ k size. size ≡ 128 * 2 ^ k) refl refl refl refl

-- the sizes of n 2 and n 3
pub size-2 : size_of 2 ≡ 512
size-2 = sym (size-by 2 2 refl)

pub size-3 : size_of 3 ≡ 1024
size-3 = sym (size-by 3 3 refl)

-- ---- copies

-- of an n of 4 or more: whether anything is stored, as the code has it as a number
pub copies-large : (stored n : ℕ) → 4 ≤ n → bool_byte (ltb 0 stored) ≡ copies stored n
unfolding copies
copies-large stored n l = simp (le-leb 4 n l) (as_number (ltb 0 stored))
  where
    as_number : (t : Bool) → bool_byte t ≡ cond t 1 0
    as_number true = refl
    as_number false = refl

-- of a smaller n: how often the size goes in, or none where that leaves a remainder
module _ (stored n size : ℕ) (small : n < 4) (e : size ≡ size_of n) where
  pub copies_whole : stored % size ≡ 0 → stored / size ≡ copies stored n
  unfolding copies whole_sizes
  copies_whole h =
      let q : stored % size_of n ≡ 0 = ap (λ (k : ℕ). stored % k) (sym e) ∙ h in
      simp (lt-leb 4 n small, eq-eqb _ _ q) (ap (λ (k : ℕ). stored / k) e)

  pub copies-none : (stored % size ≡ 0 → ⊥) → 0 ≡ copies stored n
  unfolding copies whole_sizes
  copies-none h =
      let q : stored % size_of n ≡ 0 → ⊥ = λ p. h (ap (λ (k : ℕ). stored % k) e ∙ p) in
      simp (lt-leb 4 n small, ne_eqb _ _ q)

-- there are never more copies than bytes
pub copies-few : (stored n : ℕ) → copies stored n ≤ stored
unfolding copies whole_sizes
copies-few stored n = by (leb 4 n) (ltb 0 stored) (eqb (stored % size_of n) 0) (ltb-true 0 stored)
  where
    by : (large some whole : Bool) → (some ≡ true → 0 < stored) → cond large (cond some 1 0) (cond whole (stored / size_of n) 0) ≤ stored
    by true true whole p = p refl
    by true false whole p = omega arith
    by false some true p = div-le_self stored (size_of n)
    by false some false p = omega arith

-- the archive's sector and the other cases of 2026-02
pub copies-cases : (copies 6144 6 ≡ 1) × (copies 0 4 ≡ 0) × (copies 3072 3 ≡ 3) × (copies 129 0 ≡ 0) × (copies 1 255 ≡ 1)
unfolding copies whole_sizes size_of
copies-cases = (refl, refl, refl, refl, refl)
