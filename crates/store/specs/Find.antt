-- The first element of a list that passes a test, with its index.
use Rattle.std.specs.Prelude.{ℕ, ◌+◌, List, [], ◌∷◌, Bool, cond, drop}

-- what a search finds
pub data Found (A : Type 0) : Type 0 where
  nothing : Found A
  found : ℕ → A → Found A

-- the first match, counting from n
unfoldable pub find_from : {A : Type 0} → ℕ → (A → Bool) → List A → Found A
find_from n p [] = nothing
find_from n p (x ∷ xs) = cond (p x) (found n x) (find_from (n + 1) p xs)

-- the first match
abbrev pub find : {A : Type 0} → (A → Bool) → List A → Found A
find p xs = find_from 0 p xs

-- the first element of what is left of a list, of which so many have passed
abbrev pub head_from : {A : Type 0} → ℕ → List A → Found A
head_from n [] = nothing
head_from n (x ∷ xs) = found n x

-- the element at an index
abbrev pub nth : {A : Type 0} → ℕ → List A → Found A
nth k xs = head_from k (drop k xs)
