-- What contradicts itself, both parts of a conjunction that holds, what a success says of the tests before it, and what a promise settles.
use mathlib.Core.Path.{◌≡◌, refl, sym, ◌∙◌}
use Prim.Native.Nat.{ℕ}
use native.Mathlib.Omega.{arith}
use mathlib.Core.Bool.{Bool, true, false, ◌&&◌}
use Rattle.fields.specs.Refusals.{need}
use Rattle.fields.specs.declared.refusal.Refusal.{Refusal}
use Rattle.std.specs.Prelude.{Result, Ok}

-- facts that contradict each other, from which congruence closure shows this, are never met
pub never : {A : Type 0} → ◌≡◌ {A = ℕ} 0 1 → A
never z = absurd (omega arith)

pub and-fst : (x y : Bool) → (x && y) ≡ true → x ≡ true
and-fst true y e = refl
and-fst false y e = e

pub and-snd : (x y : Bool) → (x && y) ≡ true → y ≡ true
and-snd true y e = e
and-snd false y e = cc

-- where a test did not refuse it has passed, and what follows it is good
pub need-good : {A : Type 0} (v : Bool) (why : Refusal) (next : Result A Refusal) (a : A) → need v why next ≡ Ok a → (v ≡ true) × (next ≡ Ok a)
need-good true why next a e = (refl, e)
need-good false why next a e = never (cc)

-- Two outcomes that are both the one that a promise names are equal.
pub one-outcome : {A : Type 0} (x y z : A) → x ≡ z → y ≡ z → x ≡ y
one-outcome x y z e f = e ∙ sym f
