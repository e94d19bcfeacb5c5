-- Tracks rise by cylinder and side exactly where their entries rise, in a table of any number of sides that theirs are less than.
use mathlib.Core.Path.{◌≡◌, refl, ap}
use Prim.Native.Nat.{ℕ, ◌+◌, ◌*◌, ◌≤◌, ◌<◌}
use native.Mathlib.Nat.{mul-le-mul_right}
use native.Mathlib.Omega.{arith}
use mathlib.Core.Bool.{Bool, true, false, ◌&&◌, ◌||◌}
use mathlib.Core.List.{[], ◌∷◌}
use lib.Dec.{eqb, ltb}
use borrow.Author.Tests.{ltb-true, ltb-false, lt-ltb, eqb-true, eq-eqb}
use Rattle.fields.specs.Model.{Track, Disk, Each}
use Rattle.fields.proofs.Tests.{never, and-fst, and-snd}
use Rattle.disk.specs.Change.{earlier}
use Rattle.home.specs.Home.{entry_for, rising_from, rising}

-- tracks whose entries rise, the first of them from a number on
unfoldable pub Ordered : ℕ → ℕ → Disk → Type 0
Ordered sides from [] = Unit {0}
Ordered sides from (t ∷ ts) = (from ≤ entry_for sides t) × Ordered sides (entry_for sides t + 1) ts

module _ (sides : ℕ) where
  -- a track that is earlier than another has the smaller entry
  earlier-entry : (t u : Track) → t.side < sides → earlier t u ≡ true → entry_for sides t + 1 ≤ entry_for sides u
  earlier-entry t u h e =
      by (ltb t.cylinder u.cylinder) (eqb t.cylinder u.cylinder) (ltb t.side u.side)
      (ltb-true t.cylinder u.cylinder) (eqb-true t.cylinder u.cylinder) (ltb-true t.side u.side) e
    where
      by : (x y z : Bool) → (x ≡ true → t.cylinder < u.cylinder) → (y ≡ true → t.cylinder ≡ u.cylinder) → (z ≡ true → t.side < u.side)
          → (x || (y && z)) ≡ true → entry_for sides t + 1 ≤ entry_for sides u
      by true y z f g k e = let l : t.cylinder + 1 ≤ u.cylinder = omega (arith, f refl) in omega (arith, mul-le-mul_right sides l)
      by false true true f g k e = let q : t.cylinder ≡ u.cylinder = g refl in rw q (omega (arith, k refl))
      by false true false f g k e = never (cc)
      by false false z f g k e = never (cc)

  -- and one with the smaller entry is earlier
  entry-earlier : (t u : Track) → u.side < sides → entry_for sides t + 1 ≤ entry_for sides u → earlier t u ≡ true
  entry-earlier t u h l =
      by (ltb t.cylinder u.cylinder) (ltb u.cylinder t.cylinder)
      (ltb-false t.cylinder u.cylinder) (ltb-true u.cylinder t.cylinder) (ltb-false u.cylinder t.cylinder)
    where
      by : (x y : Bool) → (x ≡ false → u.cylinder ≤ t.cylinder) → (y ≡ true → u.cylinder < t.cylinder) → (y ≡ false → t.cylinder ≤ u.cylinder)
          → x || (eqb t.cylinder u.cylinder && ltb t.side u.side) ≡ true
      by true y f g k = refl
      by false true f g k = let m : u.cylinder + 1 ≤ t.cylinder = omega (arith, g refl) in absurd (omega (arith, mul-le-mul_right sides m))
      by false false f g k =
          let e : t.cylinder ≡ u.cylinder = omega (arith, f refl, k refl) in
          let p : t.cylinder * sides ≡ u.cylinder * sides = ap (λ (c : ℕ). c * sides) e in
          let s : t.side < u.side = omega (arith, p) in
          rw (eq-eqb _ _ e, lt-ltb _ _ s) refl

  -- tracks that rise have entries that rise: those behind a track, and all
  rising-after : (t : Track) (ts : Disk) → t.side < sides → Each (λ u. u.side < sides) ts → rising_from t ts ≡ true → Ordered sides (entry_for sides t + 1) ts
  unfolding Each Ordered rising_from
  rising-after t [] h f e = tt
  rising-after t (u ∷ us) h f e =
      (earlier-entry t u h (and-fst (earlier t u) (rising_from u us) e), rising-after u us f.0 f.1 (and-snd (earlier t u) (rising_from u us) e))

  pub rising-ordered : (d : Disk) → Each (λ u. u.side < sides) d → rising d ≡ true → Ordered sides 0 d
  unfolding Each Ordered rising
  rising-ordered [] f e = tt
  rising-ordered (t ∷ ts) f e = (omega arith, rising-after t ts f.0 f.1 e)

  -- and tracks whose entries rise do
  ordered-after : (t : Track) (ts : Disk) → Each (λ u. u.side < sides) ts → Ordered sides (entry_for sides t + 1) ts → rising_from t ts ≡ true
  unfolding Each Ordered rising_from
  ordered-after t [] f o = refl
  ordered-after t (u ∷ us) f o = rw (entry-earlier t u f.0 o.0) (ordered-after u us f.1 o.1)

  pub ordered-rising : (from : ℕ) (d : Disk) → Each (λ u. u.side < sides) d → Ordered sides from d → rising d ≡ true
  unfolding Each Ordered rising
  ordered-rising from [] f o = refl
  ordered-rising from (t ∷ ts) f o = ordered-after t ts f.1 o.1
