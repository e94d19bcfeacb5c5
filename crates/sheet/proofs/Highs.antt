-- Numbers that stand high byte first, byte by byte.
use Rattle.std.proofs.Common.{◌≡◌, refl, ap, ◌∙◌, ℕ, zero, suc, ◌+◌, ◌*◌, ◌-◌, ◌^◌, ◌≤◌, ◌<◌, ◌/◌, ◌%◌, List, [], ◌∷◌, arith}
use Rattle.std.specs.Prelude.{take, drop, length, ◌++◌}
use Rattle.std.specs.Int.{w64, to_be_bytes}
use Rattle.std.proofs.Math.Nat.{pow-succ', mul_assoc}
use Rattle.std.proofs.Math.Numerals.{add-one}
use Rattle.fields.specs.Bytes.{byte_at}
use Rattle.sheet.specs.Sheets.{high_at, high_for}

-- one byte more
pub high-more : (k : ℕ) (s : List ℕ) (at : ℕ) → high_at (suc k) s at ≡ 256 * high_at k s at + byte_at s (at + k)
unfolding high_at
high-more zero s at = let e : at + 0 ≡ at = omega arith in rw e (omega arith)
high-more (suc k) s at =
    let e : at + 1 + k ≡ at + suc k = omega arith in
    let f : high_at (suc k) s (at + 1) ≡ 256 * high_at k s (at + 1) + byte_at s (at + suc k) = high-more k s (at + 1) ∙ ap (λ (j : ℕ). 256 * high_at k s (at + 1) + byte_at s j) e in
    let p : 256 ^ suc k * byte_at s at ≡ 256 * (256 ^ k * byte_at s at) = ap (λ (z : ℕ). z * byte_at s at) (pow-succ' 256 k) ∙ mul_assoc 256 (256 ^ k) (byte_at s at) in
    omega (arith, f, p)

pub high-step : (k n b : ℕ) (s : List ℕ) (at : ℕ) → n ≡ high_at k s at → n < 256 ^ k → b ≡ byte_at s (at + k) → b < 256
    → (256 * n + b ≡ high_at (k + 1) s at) × (256 * n + b < 256 ^ (k + 1))
high-step k n b s at e h f l =
    let p : 256 ^ (k + 1) ≡ 256 * 256 ^ k = ap (λ (z : ℕ). 256 ^ z) (add-one k) ∙ pow-succ' 256 k in
    let q : high_at (k + 1) s at ≡ 256 * high_at k s at + byte_at s (at + k) = ap (λ (z : ℕ). high_at z s at) (add-one k) ∙ high-more k s at in
    (omega (arith, q, e, f), omega (arith, p, h, l))

pub high-none : (s : List ℕ) (at : ℕ) → (0 ≡ high_at 0 s at) × (0 < 1)
unfolding high_at
high-none s at = (refl, omega arith)

-- so few bytes that the number fits
pub few-bytes : (k width : ℕ) → k < width → width ≤ 4 → 256 ^ k ≤ 16777216
few-bytes zero width p q = omega arith
few-bytes (suc zero) width p q = omega arith
few-bytes (suc (suc zero)) width p q = omega arith
few-bytes (suc (suc (suc zero))) width p q = omega arith
few-bytes (suc (suc (suc (suc k)))) width p q = absurd (omega arith)

pub few-high : (width : ℕ) → width ≤ 4 → 256 ^ width ≤ 4294967296
few-high zero q = omega arith
few-high (suc k) q = omega (arith, few-bytes k (suc k) (omega arith) q)

-- the last bytes of a length are its lowest
pub high-bytes : (width n : ℕ) → width ≤ 4 → take (8 - (8 - width)) (drop (8 - width) (to_be_bytes w64 n)) ≡ high_for width n []
high-bytes zero n h = refl
high-bytes (suc zero) n h = refl
high-bytes (suc (suc zero)) n h = refl
high-bytes (suc (suc (suc zero))) n h =
    let a : n / 65536 % 256 ≡ n / 256 / 256 % 256 = omega arith in
    λ i. a i ∷ n / 256 % 256 ∷ n % 256 ∷ []
high-bytes (suc (suc (suc (suc zero)))) n h =
    let a : n / 65536 % 256 ≡ n / 256 / 256 % 256 = omega arith in
    let b : n / 16777216 % 256 ≡ n / 256 / 256 / 256 % 256 = omega arith in
    λ i. b i ∷ a i ∷ n / 256 % 256 ∷ n % 256 ∷ []
high-bytes (suc (suc (suc (suc (suc k))))) n h = absurd (omega arith)

-- what stands behind a number
pub high-before : (width n : ℕ) (x y : List ℕ) → high_for width n (x ++ y) ≡ high_for width n x ++ y
high-before zero n x y = refl
high-before (suc width) n x y = high-before width (n / 256) (n % 256 ∷ x) y

pub high-long : (width n : ℕ) (x : List ℕ) → length (high_for width n x) ≡ width + length x
high-long zero n x = omega arith
high-long (suc width) n x = high-long width (n / 256) (n % 256 ∷ x) ∙ omega arith
