-- What a reader answers, from the test that led there.
use mathlib.Core.Path.{◌≡◌, refl, ap, ◌∙◌}
use Prim.Native.Nat.{ℕ, ◌+◌, ◌*◌, ◌≤◌, ◌<◌}
use native.Mathlib.Omega.{arith}
use mathlib.Core.List.{List}
use mathlib.Core.Bool.{Bool, true, false, cond}
use lib.ListN.{length, take, drop, get_or-eq_default}
use lib.Dec.{leb}
use borrow.Author.Tests.{lt-leb, le-leb, leb-true, leb-false}
use Rattle.fields.specs.Bytes.{byte_at, number_at, text_at, read_number, read_string}
use Rattle.buffer.specs.Same.{same_bytes}
use Rattle.fields.specs.declared.refusal.Refusal.TheVariants.{ShortImage}
use Rattle.std.specs.Prelude.{Result, Ok, Err, is_ok, IsOk, IfErr, ◌↔◌}
use Rattle.std.proofs.lemmas.Result.{IfErr-at_err}
use Rattle.fields.specs.declared.refusal.Refusal.{Refusal}

-- a number in one, two and four bytes
pub number-1 : (b : List ℕ) (at : ℕ) → byte_at b at ≡ number_at 1 b at
unfolding number_at
number-1 b at = omega arith

pub number-2 : (b : List ℕ) (at : ℕ) → byte_at b at + 256 * byte_at b (at + 1) ≡ number_at 2 b at
unfolding number_at
number-2 b at = omega arith

-- whose second byte is past the end: the first alone
pub number_cut : (b : List ℕ) (at : ℕ) → length b ≤ at + 1 → byte_at b at ≡ number_at 2 b at
number_cut b at h = let e : byte_at b (at + 1) ≡ 0 = get_or-eq_default b 0 h in omega (arith, number-2 b at)

pub number-4 : (b : List ℕ) (at : ℕ) → number_at 2 b at + 65536 * number_at 2 b (at + 2) ≡ number_at 4 b at
unfolding number_at
number-4 b at =
    let e : at + 1 + 1 ≡ at + 2 = omega arith in
    let f : at + 1 + 1 + 1 ≡ at + 2 + 1 = omega arith in
    rw (f, e) (omega arith)

-- what `reach` answers
abbrev pub Reaches : Result (Unit {0}) Refusal → ℕ → List ℕ → ℕ → Type 0
Reaches r width b at = (IsOk r ↔ (at + width ≤ length b)) × IfErr r (λ why. why ≡ ShortImage)

-- and what a reader answers by it
module _ (width : ℕ) (b : List ℕ) (at : ℕ) (r : Result (Unit {0}) Refusal) (fits : IsOk r ↔ (at + width ≤ length b)) where
  short_reach : (why : Refusal) → r ≡ Err why → length b < at + width
  short_reach why e = by_cases (leb (at + width) (length b)) refl
    where
      by_cases : (t : Bool) → leb (at + width) (length b) ≡ t → length b < at + width
      by_cases true q = absurd (cc (e, fits.1 (leb-true _ _ q)))
      by_cases false q = leb-false _ _ q

  pub read_short : (why : Refusal) → r ≡ Err why → IfErr r (λ w. w ≡ ShortImage) → Err why ≡ read_number width b at
  unfolding read_number
  read_short why e s = let l : length b < at + width = short_reach why e in simp (lt-leb _ _ l) (ap Err (IfErr-at_err (λ w. w ≡ ShortImage) e s))

  pub read_whole : (u : Unit {0}) (v : ℕ) → r ≡ Ok u → v ≡ number_at width b at → Ok v ≡ read_number width b at
  unfolding read_number
  read_whole u v e q = let l : at + width ≤ length b = fits.0 (ap is_ok e) in simp (le-leb _ _ l) (ap Ok q)

-- a compare's two answers, likewise
module _ (t b : List ℕ) (at : ℕ) (r : Result (Unit {0}) Refusal) (fits : IsOk r ↔ (at + length t ≤ length b)) where
  pub string-short : (why : Refusal) → r ≡ Err why → IfErr r (λ w. w ≡ ShortImage) → Err why ≡ read_string t b at
  unfolding read_string
  string-short why e s =
      let l : length b < at + length t = short_reach (length t) b at r fits why e in
      simp (lt-leb _ _ l) (ap Err (IfErr-at_err (λ w. w ≡ ShortImage) e s))

  pub string-whole : (u : Unit {0}) (p : List ℕ) (q : Bool) → r ≡ Ok u → p ≡ take (length t) (drop at b) → q ≡ same_bytes p t
      → Ok q ≡ read_string t b at
  unfolding read_string text_at
  string-whole u p q e ep eq =
      let l : at + length t ≤ length b = fits.0 (ap is_ok e) in
      simp (le-leb _ _ l) (ap Ok (eq ∙ ap (λ (x : List ℕ). same_bytes x t) ep))

-- what each answer of a compare says
abbrev pub Told : List ℕ → List ℕ → ℕ → Result Bool Refusal → Type 0
Told t b at (Err why) = (leb (at + length t) (length b) ≡ false) × (why ≡ ShortImage)
Told t b at (Ok here) = (leb (at + length t) (length b) ≡ true) × (text_at t b at ≡ here)

answered : (t b : List ℕ) (at : ℕ) → Told t b at (read_string t b at)
unfolding read_string
answered t b at = whichever (leb (at + length t) (length b)) refl
  where
    whichever : (l : Bool) → leb (at + length t) (length b) ≡ l → Told t b at (cond l (Ok (text_at t b at)) (Err ShortImage))
    whichever true p = (p, refl)
    whichever false p = (p, refl)

pub told : (t b : List ℕ) (at : ℕ) (x : Result Bool Refusal) → read_string t b at ≡ x → Told t b at x
told t b at x e = rw e at (answered t b at)
