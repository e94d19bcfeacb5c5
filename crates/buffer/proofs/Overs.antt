-- Laws of `over`, and of the parts of a list that it is used with.
use mathlib.Core.Path.{◌≡◌, sym, ap, ◌∙◌}
use mathlib.Core.List.{List, [], ◌∷◌, ◌++◌, append_assoc}
use Prim.Native.Nat.{ℕ, zero, suc, ◌+◌, ◌-◌, ◌≤◌, ◌<◌}
use native.Mathlib.Nat.{add-zero, le_refl, sub-zero, zero-sub, suc-sub-suc}
use native.Mathlib.Numerals.{add-one}
use native.Mathlib.Omega.{arith}
use lib.ListN.{length, take, drop, get_or, set, length-append, length-take, length-drop, take-append-drop}
use lib.Seq.{length-take-le, take-nil, take-append-le, take-take, take_at, take-add, drop_at, drop-drop, drop-append-add, set_split, get_or-take, get_or-drop, slice, length-slice}
use borrow.Rule.Slice.PartMut.{put_mid}
use Rattle.buffer.specs.Over.{over}

-- the part from `from` up to `end`, cut at its start first
pub slice-drop : (d : List ℕ) (from end : ℕ) → take (end - from) (drop from d) ≡ slice from end d
slice-drop d zero end = ap (λ (n : ℕ). take n d) (sub-zero end)
slice-drop [] (suc from) zero = take-nil (0 - suc from)
slice-drop [] (suc from) (suc end) = take-nil (suc end - suc from)
slice-drop (x ∷ d) (suc from) zero = ap (λ (n : ℕ). take n (drop from d)) (zero-sub (suc from))
slice-drop (x ∷ d) (suc from) (suc end) = ap (λ (n : ℕ). take n (drop from d)) (suc-sub-suc end from) ∙ slice-drop d from end

module _ (d : List ℕ) where
  -- what stands from m on is the part up to b and what stands from b on
  pub drop-cut : (m b : ℕ) → m ≤ b → drop m d ≡ slice m b d ++ drop b d
  drop-cut m b h =
      let e : m + (b - m) ≡ b = omega arith in
      sym (take-append-drop (b - m) (drop m d))
      ∙ (λ i. slice-drop d m b i ++ (drop-drop (b - m) m d ∙ ap (λ (k : ℕ). drop k d) e) i)

  -- two parts that touch are one part
  pub slice-join : (a m b : ℕ) → a ≤ m → m ≤ b → slice a m d ++ slice m b d ≡ slice a b d
  slice-join a m b h k =
      let e : a + (m - a) ≡ m = omega arith in
      let f : m - a + (b - m) ≡ b - a = omega arith in
      let s : take (b - m) (drop (m - a) (drop a d)) ≡ slice m b d =
      ap (take (b - m)) (drop-drop (m - a) a d ∙ ap (λ (n : ℕ). drop n d) e) ∙ slice-drop d m b in
      (λ i. sym (slice-drop d a m) i ++ sym s i)
      ∙ sym (take-add (m - a) (b - m) (drop a d))
      ∙ ap (λ (n : ℕ). take n (drop a d)) f
      ∙ slice-drop d a b

  -- laying nothing changes nothing
  pub over-nil : (at : ℕ) → over d at [] ≡ d
  unfolding over
  over-nil at = rw add-zero (take-append-drop at d)

  -- laying what is there changes nothing
  pub over-same : (a b : ℕ) → a ≤ b → b ≤ length d → over d a (slice a b d) ≡ d
  unfolding over
  over-same a b h k =
      let e : a + length (slice a b d) ≡ b = omega (arith, length-slice a b d k) in
      ap (λ (n : ℕ). take a d ++ (slice a b d ++ drop n d)) e
      ∙ ap (λ (x : List ℕ). take a d ++ x) (sym (drop-cut a b h))
      ∙ take-append-drop a d

  -- storing an element is laying it
  pub over-set : (k v : ℕ) → k < length d → set d k v ≡ over d k (v ∷ [])
  unfolding over
  over-set k v h = set_split d k v h ∙ ap (λ (n : ℕ). take k d ++ (v ∷ drop n d)) (sym (add-one k))

  -- the length is kept
  pub over-length : (at : ℕ) (s : List ℕ) → at + length s ≤ length d → length (over d at s) ≡ length d
  unfolding over
  over-length at s h = simp (length-append, length-take, length-drop) (omega arith)

  -- the front is kept
  pub over-take : (at : ℕ) (s : List ℕ) (k : ℕ) → at ≤ length d → k ≤ at → take k (over d at s) ≡ take k d
  unfolding over
  over-take at s k h l = take-append-le k (take at d) _ (rw length-take-le l) ∙ take-take k at d l

  -- from the place on stand what was laid and the rest
  pub over-drop : (at : ℕ) (s : List ℕ) → at ≤ length d → drop at (over d at s) ≡ s ++ drop (at + length s) d
  unfolding over
  over-drop at s h = drop_at (take at d) _ at (length-take-le at d h)

  -- laid from the start: what was laid, and the rest
  pub over-front : (s : List ℕ) → over d 0 s ≡ s ++ drop (length s) d
  unfolding over
  over-front s = let z : 0 + length s ≡ length s = omega arith in rw z

  -- the rest is kept
  pub over-past : (at : ℕ) (s : List ℕ) (k : ℕ) → at ≤ length d → at + length s ≤ k → drop k (over d at s) ≡ drop k d
  over-past at s k h l =
      let e : at + (length s + (k - (at + length s))) ≡ k = omega arith in
      let f : at + length s + (k - (at + length s)) ≡ k = omega arith in
      ap (λ (n : ℕ). drop n (over d at s)) (sym e)
      ∙ sym (drop-drop (length s + (k - (at + length s))) at (over d at s))
      ∙ ap (drop (length s + (k - (at + length s)))) (over-drop at s h)
      ∙ drop-append-add s (drop (at + length s) d) (k - (at + length s))
      ∙ drop-drop (k - (at + length s)) (at + length s) d
      ∙ ap (λ (n : ℕ). drop n d) f

  -- what was laid is read back
  pub over-slice : (at : ℕ) (s : List ℕ) (end : ℕ) → end ≡ at + length s → at ≤ length d → slice at end (over d at s) ≡ s
  over-slice at s end e h =
      let n : length s ≡ end - at = omega arith in
      sym (slice-drop (over d at s) at end)
      ∙ ap (take (end - at)) (over-drop at s h)
      ∙ take_at s (drop (at + length s) d) (end - at) n

  -- an element before the place is kept
  pub over-before : (at : ℕ) (s : List ℕ) (k z : ℕ) → at ≤ length d → k < at → get_or (over d at s) k z ≡ get_or d k z
  over-before at s k z h l =
      sym (get_or-take at (over d at s) k z l)
      ∙ ap (λ (x : List ℕ). get_or x k z) (over-take at s at h (le_refl at))
      ∙ get_or-take at d k z l

  -- an element past what was laid is kept
  pub over-after : (at : ℕ) (s : List ℕ) (k z : ℕ) → at ≤ length d → at + length s ≤ k → get_or (over d at s) k z ≡ get_or d k z
  over-after at s k z h l =
      let first : (x : List ℕ) → get_or (drop k x) 0 z ≡ get_or x k z = λ x. get_or-drop k x 0 z ∙ ap (λ (n : ℕ). get_or x n z) (add-zero k) in
      sym (first (over d at s)) ∙ ap (λ (x : List ℕ). get_or x 0 z) (over-past at s k h l) ∙ first d

  -- laid just before what was laid
  pub over-join : (at : ℕ) (r s : List ℕ) (at' : ℕ) → at' ≡ at + length r → at' ≤ length d → over (over d at' s) at r ≡ over d at (r ++ s)
  unfolding over
  over-join at r s at' e h =
      let t : take at (over d at' s) ≡ take at d = over-take at' s at h (omega arith) in
      let u : drop (at + length r) (over d at' s) ≡ s ++ drop (at' + length s) d = rw (← e) (over-drop at' s h) in
      let end : at' + length s ≡ at + length (r ++ s) = simp length-append (omega arith) in
      (λ i. t i ++ (r ++ u i))
      ∙ ap (λ (x : List ℕ). take at d ++ x) (sym (append_assoc r s (drop (at' + length s) d)))
      ∙ ap (λ (n : ℕ). take at d ++ (r ++ s ++ drop n d)) end

  -- laid just after what was laid
  pub over-over : (at : ℕ) (s t : List ℕ) (at' : ℕ) → at' ≡ at + length s → at ≤ length d → over (over d at s) at' t ≡ over d at (s ++ t)
  unfolding over
  over-over at s t at' e h =
      let p : List ℕ = take at d ++ s in
      let l : length p ≡ at' = simp (length-append, length-take) (omega arith) in
      let f : take at' (over d at s) ≡ p =
      ap (take at') (sym (append_assoc (take at d) s (drop (at + length s) d))) ∙ take_at p (drop (at + length s) d) at' l in
      let u : drop (at' + length t) (over d at s) ≡ drop (at' + length t) d = over-past at s (at' + length t) h (omega arith) in
      let end : at' + length t ≡ at + length (s ++ t) = simp length-append (omega arith) in
      (λ i. f i ++ (t ++ u i))
      ∙ append_assoc (take at d) s (t ++ drop (at' + length t) d)
      ∙ ap (λ (x : List ℕ). take at d ++ x) (sym (append_assoc s t (drop (at' + length t) d)))
      ∙ ap (λ (n : ℕ). take at d ++ (s ++ t ++ drop n d)) end

  -- laid over what was laid there, when that was no longer
  pub over-again : (at : ℕ) (v w : List ℕ) → at ≤ length d → length v ≤ length w → over (over d at v) at w ≡ over d at w
  unfolding over
  over-again at v w h k =
      let t : take at (over d at v) ≡ take at d = over-take at v at h (le_refl at) in
      let u : drop (at + length w) (over d at v) ≡ drop (at + length w) d = over-past at v (at + length w) h (omega arith) in
      λ i. t i ++ (w ++ u i)

  -- a part that was lent, and came back as other bytes, is those bytes laid over the whole
  pub over-mid : (at k : ℕ) (s : List ℕ) → length s ≡ k → put_mid at k d s ≡ over d at s
  unfolding over
  over-mid at k s e = ap (λ (x : List ℕ). take at d ++ (s ++ x)) (drop-drop k at d ∙ ap (λ (n : ℕ). drop (at + n) d) (sym e))
