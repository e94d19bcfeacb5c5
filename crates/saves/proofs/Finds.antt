-- The first match, and its change.
use mathlib.Core.Path.{◌≡◌, refl, sym, ap, ◌∙◌}
use Prim.Native.Nat.{ℕ, ◌+◌}
use mathlib.Core.Bool.{Bool, true, false}
use mathlib.Core.List.{List, [], ◌∷◌, ◌++◌}
use Rattle.fields.proofs.Tests.{never}
use Rattle.store.specs.Find.{Found, nothing, found, find_from}
use Rattle.disk.specs.Change.{change}

module _ {A : Type 0} where
  -- what was found, changed
  abbrev pub map_found : (A → A) → Found A → Found A
  map_found f nothing = nothing
  map_found f (found n x) = found n (f x)

  pub find-yes : (n : ℕ) (p : A → Bool) (x : A) (xs : List A) → p x ≡ true → find_from n p (x ∷ xs) ≡ found n x
  unfolding find_from
  find-yes n p x xs e = rw e

  pub find-no : (n : ℕ) (p : A → Bool) (x : A) (xs : List A) → p x ≡ false → find_from n p (x ∷ xs) ≡ find_from (n + 1) p xs
  unfolding find_from
  find-no n p x xs e = rw e

  pub change-yes : (p : A → Bool) (f : A → A) (x : A) (xs : List A) → p x ≡ true → change p f (x ∷ xs) ≡ f x ∷ xs
  unfolding change
  change-yes p f x xs e = rw e

  pub change-no : (p : A → Bool) (f : A → A) (x : A) (xs : List A) → p x ≡ false → change p f (x ∷ xs) ≡ x ∷ change p f xs
  unfolding change
  change-no p f x xs e = rw e

  -- two changes of one place are one
  pub change-change : (p : A → Bool) (f g : A → A) → ((x : A) → p (f x) ≡ p x) → (xs : List A) → change p g (change p f xs) ≡ change p (λ x. g (f x)) xs
  unfolding change
  change-change p f g keep [] = refl
  change-change p f g keep (x ∷ xs) = go (p x) refl (change-change p f g keep xs)
    where
      go : (b : Bool) → p x ≡ b → change p g (change p f xs) ≡ change p (λ y. g (f y)) xs → change p g (change p f (x ∷ xs)) ≡ change p (λ y. g (f y)) (x ∷ xs)
      go true e ih = ap (change p g) (change-yes p f x xs e) ∙ change-yes p g (f x) xs (keep x ∙ e) ∙ sym (change-yes p (λ y. g (f y)) x xs e)
      go false e ih =
          ap (change p g) (change-no p f x xs e) ∙ change-no p g x (change p f xs) e ∙ ap (λ (l : List A). x ∷ l) ih ∙ sym (change-no p (λ y. g (f y)) x xs e)

  -- the search finds what the change made
  pub find-change : (n : ℕ) (p : A → Bool) (f : A → A) → ((x : A) → p (f x) ≡ p x) → (xs : List A) → find_from n p (change p f xs) ≡ map_found f (find_from n p xs)
  unfolding find_from change
  find-change n p f keep [] = refl
  find-change n p f keep (x ∷ xs) = go (p x) refl (find-change (n + 1) p f keep xs)
    where
      go : (b : Bool) → p x ≡ b → find_from (n + 1) p (change p f xs) ≡ map_found f (find_from (n + 1) p xs) → find_from n p (change p f (x ∷ xs)) ≡ map_found f (find_from n p (x ∷ xs))
      go true e ih = ap (find_from n p) (change-yes p f x xs e) ∙ find-yes n p (f x) xs (keep x ∙ e) ∙ sym (ap (map_found f) (find-yes n p x xs e))
      go false e ih = ap (find_from n p) (change-no p f x xs e) ∙ find-no n p x (change p f xs) e ∙ ih ∙ sym (ap (map_found f) (find-no n p x xs e))

  -- tests that nothing passes both, and changes that leave the other's test as it is
  module _ (p q : A → Bool) (f g : A → A) (apart : (x : A) → p x ≡ true → q x ≡ false) (keep_q : (x : A) → q (f x) ≡ q x) (keep_p : (x : A) → p (g x) ≡ p x) where
    pub find-other : (n : ℕ) (xs : List A) → find_from n q (change p f xs) ≡ find_from n q xs
    unfolding find_from change
    find-other n [] = refl
    find-other n (x ∷ xs) = go (p x) refl (q x) refl (find-other (n + 1) xs)
      where
        go : (a : Bool) → p x ≡ a → (b : Bool) → q x ≡ b → find_from (n + 1) q (change p f xs) ≡ find_from (n + 1) q xs → find_from n q (change p f (x ∷ xs)) ≡ find_from n q (x ∷ xs)
        go true e b eq ih = ap (find_from n q) (change-yes p f x xs e) ∙ find-no n q (f x) xs (keep_q x ∙ apart x e) ∙ sym (find-no n q x xs (apart x e))
        go false e true eq ih = ap (find_from n q) (change-no p f x xs e) ∙ find-yes n q x (change p f xs) eq ∙ sym (find-yes n q x xs eq)
        go false e false eq ih = ap (find_from n q) (change-no p f x xs e) ∙ find-no n q x (change p f xs) eq ∙ ih ∙ sym (find-no n q x xs eq)

    -- two changes at different places, in either order
    pub change-comm : (xs : List A) → change q g (change p f xs) ≡ change p f (change q g xs)
    unfolding change
    change-comm [] = refl
    change-comm (x ∷ xs) = go (p x) refl (q x) refl (change-comm xs)
      where
        go : (a : Bool) → p x ≡ a → (b : Bool) → q x ≡ b → change q g (change p f xs) ≡ change p f (change q g xs) → change q g (change p f (x ∷ xs)) ≡ change p f (change q g (x ∷ xs))
        go true e b eq ih =
            ap (change q g) (change-yes p f x xs e) ∙ change-no q g (f x) xs (keep_q x ∙ apart x e)
            ∙ sym (ap (change p f) (change-no q g x xs (apart x e)) ∙ change-yes p f x (change q g xs) e)
        go false e true eq ih =
            ap (change q g) (change-no p f x xs e) ∙ change-yes q g x (change p f xs) eq
            ∙ sym (ap (change p f) (change-yes q g x xs eq) ∙ change-no p f (g x) xs (keep_p x ∙ e))
        go false e false eq ih =
            ap (change q g) (change-no p f x xs e) ∙ change-no q g x (change p f xs) eq ∙ ap (λ (l : List A). x ∷ l) ih
            ∙ sym (ap (change p f) (change-no q g x xs eq) ∙ change-no p f x (change q g xs) e)

  -- a change takes one place apart: what stands before and behind it stays
  module _ (p : A → Bool) (f : A → A) (k : ℕ) (x : A) where
    pub record Changed (n : ℕ) (xs : List A) : Type 0 where
      pub front : List A
      pub back : List A
      pub was : xs ≡ front ++ (x ∷ back)
      pub is : change p f xs ≡ front ++ (f x ∷ back)
      pub passes : p x ≡ true
      pub none_before : find_from n p front ≡ nothing

    pub changed-one : (n : ℕ) (xs : List A) → find_from n p xs ≡ found k x → Changed n xs
    unfolding find_from change
    changed-one n [] e = never (cc)
    changed-one n (y ∷ ys) e = go (p y) refl (changed-one (n + 1) ys)
      where
        go : (b : Bool) → p y ≡ b → (find_from (n + 1) p ys ≡ found k x → Changed (n + 1) ys) → Changed n (y ∷ ys)
        go true q ih =
            let w : found n y ≡ found k x = sym (find-yes n p y ys q) ∙ e in
            let z : y ≡ x = cc in
            record {
              front = [];
              back = ys;
              was = ap (λ (a : A). a ∷ ys) z;
              is = change-yes p f y ys q ∙ ap (λ (a : A). f a ∷ ys) z;
              passes = ap p (sym z) ∙ q;
              none_before = refl;
            }
        go false q ih =
            let r : Changed (n + 1) ys = ih (sym (find-no n p y ys q) ∙ e) in
            record {
              front = y ∷ r.front;
              back = r.back;
              was = ap (λ (l : List A). y ∷ l) r.was;
              is = change-no p f y ys q ∙ ap (λ (l : List A). y ∷ l) r.is;
              passes = r.passes;
              none_before = find-no n p y r.front q ∙ r.none_before;
            }
