-- Decimal digits: writing them from the last to the first, and how many a number has.
use mathlib.Core.Path.{◌≡◌, refl, sym, ap, ◌∙◌}
use Prim.Native.Nat.{ℕ, zero, suc, ◌+◌, ◌-◌, ◌*◌, ◌/◌, ◌%◌, ◌^◌, ◌≤◌, ◌<◌}
use native.Mathlib.Nat.{pow-succ'}
use native.Mathlib.Omega.{arith}
use mathlib.Core.Bool.{Bool, true, false, cond}
use mathlib.Core.List.{List, [], ◌∷◌}
use lib.ListN.{length, drop, set, length-set, drop_of_length-le}
use lib.Dec.{ltb, lit≤}
use borrow.Author.Tests.{lt-ltb, le-ltb, ltb-false}
use Rattle.buffer.proofs.Overs.{over-set, over-drop}
use Rattle.listing.specs.Text.{digits_for, decimal}

-- ---- the loop that writes them

-- what it knows at its head: what is left goes before the digits from `at` on
pub record Writing (n : ℕ) (d : List ℕ) (left at : ℕ) : Type 0 where
  pub size : length d ≡ 20
  pub some : 0 < at
  pub within : at ≤ 20
  pub fits : left < 10 ^ at
  pub same : digits_for at left (drop at d) ≡ decimal n

-- a digit stored stands before those behind it
stored : (d : List ℕ) (a v : ℕ) → a < length d → drop a (set d a v) ≡ v ∷ drop (a + 1) d
stored d a v h = ap (drop a) (over-set d a v h) ∙ over-drop d a (v ∷ []) (omega arith)

digits_last : (a left : ℕ) (rest : List ℕ) → left < 10 → digits_for (suc a) left rest ≡ (48 + left) ∷ rest
unfolding digits_for
digits_last a left rest h = simp (lt-ltb _ _ h)

digits_more : (a left : ℕ) (rest : List ℕ) → 10 ≤ left → digits_for (suc a) left rest ≡ digits_for a (left / 10) ((48 + left % 10) ∷ rest)
unfolding digits_for
digits_more a left rest h = simp (le-ltb _ _ h)

pub writing_start : (n : ℕ) (d : List ℕ) → n < 2 ^ 64 → length d ≡ 20 → Writing n d n 20
writing_start n d h e =
    let big : 2 ^ 64 ≤ 10 ^ 20 = lit≤ tt in
    record {
      size = e;
      some = omega arith;
      within = omega arith;
      fits = omega arith;
      same = ap (digits_for 20 n) (drop_of_length-le d {i = 20} (omega arith));
    }

module _ (n : ℕ) (d : List ℕ) (left at : ℕ) (w : Writing n d left at) where
  -- the place of the digit that comes next
  place : at ≡ suc (at - 1)
  place = omega (arith, w.some)

  kept : digits_for (suc (at - 1)) left (drop (at - 1 + 1) d) ≡ decimal n
  kept =
      let e : at ≡ at - 1 + 1 = omega (arith, w.some) in
      (λ i. digits_for (sym place i) left (drop (sym e i) d)) ∙ w.same

  pub writing-again : 10 ≤ left → Writing n (set d (at - 1) (48 + left % 10)) (left / 10) (at - 1)
  writing-again h =
      let e : 10 ^ at ≡ 10 * 10 ^ (at - 1) = ap (λ (k : ℕ). 10 ^ k) place ∙ pow-succ' 10 (at - 1) in
      let inside : at - 1 < length d = omega (arith, w.size, w.some, w.within) in
      let f : left / 10 < 10 ^ (at - 1) = omega (arith, w.fits) in
      record {
        size = length-set d (at - 1) (48 + left % 10) ∙ w.size;
        some = positive (at - 1) f;
        within = omega (arith, w.within);
        fits = f;
        same = ap (digits_for (at - 1) (left / 10)) (stored d (at - 1) (48 + left % 10) inside)
            ∙ sym (digits_more (at - 1) left (drop (at - 1 + 1) d) h) ∙ kept;
      }
    where
      positive : (a : ℕ) → left / 10 < 10 ^ a → 0 < a
      positive zero f = let z : left / 10 < 1 = f in absurd (omega arith)
      positive (suc a) f = omega arith

  pub writing-done : left < 10 → drop (at - 1) (set d (at - 1) (48 + left)) ≡ decimal n
  writing-done h =
      let inside : at - 1 < length d = omega (arith, w.size, w.some, w.within) in
      stored d (at - 1) (48 + left) inside ∙ sym (digits_last (at - 1) left (drop (at - 1 + 1) d) h) ∙ kept

-- ---- how many there are

-- a number below 10 to the k has at most k digits
digits-few : (most k n : ℕ) (rest : List ℕ) → n < 10 ^ suc k → length (digits_for most n rest) ≤ suc k + length rest
unfolding digits_for
digits-few zero k n rest h = omega arith
digits-few (suc most) k n rest h = by (ltb n 10) refl k h (λ j q. digits-few most j (n / 10) ((48 + n % 10) ∷ rest) q)
  where
    by : (t : Bool) → ltb n 10 ≡ t → (k : ℕ) → n < 10 ^ suc k
        → ((j : ℕ) → n / 10 < 10 ^ suc j → length (digits_for most (n / 10) ((48 + n % 10) ∷ rest)) ≤ suc j + length ((48 + n % 10) ∷ rest))
        → length (cond t ((48 + n) ∷ rest) (digits_for most (n / 10) ((48 + n % 10) ∷ rest))) ≤ suc k + length rest
    by true q k h more = omega arith
    by false q zero h more = let l : 10 ≤ n = ltb-false n 10 q in let z : n < 10 = h in absurd (omega arith)
    by false q (suc j) h more =
        let e : 10 ^ suc (suc j) ≡ 10 * 10 ^ suc j = pow-succ' 10 (suc j) in
        let f : n / 10 < 10 ^ suc j = omega arith in
        omega (arith, more j f)

pub byte-digits : (n : ℕ) → n < 256 → length (decimal n) ≤ 3
byte-digits n h = let l : n < 10 ^ 3 = omega arith in omega (arith, digits-few 20 2 n [] l)

pub word-digits : (n : ℕ) → n < 65536 → length (decimal n) ≤ 5
word-digits n h = let l : n < 10 ^ 5 = omega arith in omega (arith, digits-few 20 4 n [] l)

pub all_digits : (most n : ℕ) (rest : List ℕ) → length (digits_for most n rest) ≤ most + length rest
unfolding digits_for
all_digits zero n rest = omega arith
all_digits (suc most) n rest = by (ltb n 10) (all_digits most (n / 10) ((48 + n % 10) ∷ rest))
  where
    by : (t : Bool) → length (digits_for most (n / 10) ((48 + n % 10) ∷ rest)) ≤ most + length ((48 + n % 10) ∷ rest)
        → length (cond t ((48 + n) ∷ rest) (digits_for most (n / 10) ((48 + n % 10) ∷ rest))) ≤ suc most + length rest
    by true h = omega arith
    by false h = omega arith
