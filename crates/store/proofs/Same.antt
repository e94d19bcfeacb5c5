-- Answers of one shape that are the same have the same in them; and what is left after a turn of a loop that counts up.
use Rattle.std.specs.Prelude.{◌≡◌, ℕ, ◌+◌, ◌-◌, Result, Ok, Err, Option, Some, None}
use Rattle.std.proofs.Common.{ap, arith}

some_or : {A : Type 0} → A → Option A → A
some_or d None = d
some_or d (Some x) = x

pub some-same : {A : Type 0} (x y : A) → Some x ≡ Some y → x ≡ y
unfolding some_or
some-same x y e = ap (some_or x) e

ok_or_else : {A E : Type 0} → A → Result A E → A
ok_or_else d (Err why) = d
ok_or_else d (Ok x) = x

pub ok-same : {A E : Type 0} (x y : A) → ◌≡◌ {A = Result A E} (Ok x) (Ok y) → x ≡ y
unfolding ok_or_else
ok-same x y e = ap (ok_or_else x) e

pub one-less : (P : ℕ → Type 0) (n k : ℕ) → P (n - k - 1) → P (n - (k + 1))
one-less P n k p = let e : n - k - 1 ≡ n - (k + 1) = omega arith in rw (← e) p

pub none-less : (P : ℕ → Type 0) (n : ℕ) → P n → P (n - 0)
none-less P n p = let e : n - 0 ≡ n = omega arith in rw e p
