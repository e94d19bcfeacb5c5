-- What the proofs of the moves cite, with d the slice as it came.
use mathlib.Core.Path.{◌≡◌, sym, ap, ◌∙◌}
use mathlib.Core.List.{List, ◌++◌, append_assoc, append-nil}
use Prim.Native.Nat.{ℕ, ◌+◌, ◌-◌, ◌≤◌, ◌<◌, min}
use native.Mathlib.Omega.{arith}
use lib.ListN.{length, take, drop, replicate, length-append, length-take, length-drop, length-replicate}
use lib.Seq.{slice, slice_empty, length-slice, length-take-le, paste}
use borrow.Rule.Slice.PartMut.{put_mid}
use Rattle.buffer.specs.Over.{over}
use Rattle.buffer.proofs.Overs.{over-same, over-length, over-past, over-slice, over-join, over-over, over-again, slice-drop, slice-join, over-mid}

-- a part that was copied to another place is laid there
pub paste-over : (d : List ℕ) (from to end : ℕ) → from ≤ end → end ≤ length d → paste d to (drop from d) (end - from) ≡ over d to (slice from end d)
unfolding over
paste-over d from to end h k =
    append_assoc (take to d) (take (end - from) (drop from d)) _
    ∙ (λ i. take to d ++ (slice-drop d from end i ++ drop (to + sym (length-slice from end d k) i) d))

-- a part that stays where it is
pub stayed-over : (d : List ℕ) (from to end : ℕ) → to ≡ from → from ≤ end → end ≤ length d → d ≡ over d to (slice from end d)
stayed-over d from to end e h k = sym (over-same d from end h k) ∙ ap (λ (n : ℕ). over d n (slice from end d)) (sym e)

-- a part that was filled
pub filled-over : (d x : List ℕ) (at n k v m : ℕ) → x ≡ replicate m v → m ≡ length (take k (drop at d)) → k ≡ n → at + n ≤ length d
    → put_mid at k d x ≡ over d at (replicate n v)
filled-over d x at n k v m e f g h =
    let q : m ≡ n = f ∙ length-take-le k (drop at d) (simp length-drop (omega arith)) ∙ g in
    over-mid d at k x (ap length e ∙ length-replicate m v ∙ q ∙ sym g) ∙ ap (over d at) (e ∙ ap (λ (i : ℕ). replicate i v) q)

-- ---- blocks that change places, with d the slice as it came and b as it stands

module _ (d b : List ℕ) where
  -- the first block has moved up by the second's length, and the second, kept in k, is laid before it
  pub hop-done : (e c k : List ℕ) (a m n : ℕ) → k ≡ over c 0 (take (n - m) (drop m d)) → e ≡ over d (a + (n - m)) (slice a m d) → b ≡ over e a (take (n - m) k)
      → a ≤ m → m ≤ n → n ≤ length d → b ≡ over d a (slice m n d ++ slice a m d)
  hop-done e c k a m n ek ee eb h l r =
      let s : take (n - m) (drop m d) ≡ slice m n d = slice-drop d m n in
      let t : length (take (n - m) (drop m d)) ≡ n - m = simp (length-take, length-drop) (omega arith) in
      let u : length (slice m n d) ≡ n - m = length-slice m n d r in
      let kept : take (n - m) k ≡ slice m n d = ap (take (n - m)) ek ∙ over-slice c 0 (take (n - m) (drop m d)) (n - m) (omega arith) (omega arith) ∙ s in
      eb ∙ (λ i. over (ee i) a (kept i)) ∙ over-join d a (slice m n d) (slice a m d) (a + (n - m)) (omega arith) (omega arith)

  -- one more part of the second block stands before the first
  pub exchange-turn : (e : List ℕ) (a m n mid low t k : ℕ) → b ≡ over d a (slice m mid d ++ slice a m d) → low ≡ a + (mid - m)
      → e ≡ over b low (slice mid (mid + t) b ++ slice low mid b) → a ≤ m → n ≤ length d → m ≤ mid → mid < n → t ≡ min (n - mid) k
      → e ≡ over d a (slice m (mid + t) d ++ slice a m d)
  exchange-turn e a m n mid low t k eb el ee h r g f q =
      let s : List ℕ = slice m mid d in
      let x : List ℕ = slice a m d in
      let y : List ℕ = slice mid (mid + t) d in
      let ls : length s ≡ mid - m = length-slice m mid d (omega arith) in
      let lx : length x ≡ m - a = length-slice a m d (omega arith) in
      let lsx : length (s ++ x) ≡ mid - a = simp length-append (omega arith) in
      let lyx : length x ≤ length (y ++ x) = simp length-append (omega arith) in
      let front : List ℕ = over d a s in
      let room : low ≤ length front = omega (arith, over-length d a s (omega arith)) in
      let both : b ≡ over front low x = eb ∙ sym (over-over d a s x low (omega arith) (omega arith)) in
      let first : slice low mid b ≡ x = ap (slice low mid) both ∙ over-slice front low x mid (omega arith) room in
      let next : slice mid (mid + t) b ≡ y =
      ap (slice mid (mid + t)) eb ∙ sym (slice-drop (over d a (s ++ x)) mid (mid + t))
      ∙ ap (take (mid + t - mid)) (over-past d a (s ++ x) mid (omega arith) (omega arith)) ∙ slice-drop d mid (mid + t) in
      ee ∙ (λ i. over (both i) low (next i ++ first i))
      ∙ over-again front low x (y ++ x) room lyx
      ∙ over-over d a s (y ++ x) low (omega arith) (omega arith)
      ∙ ap (over d a) (sym (append_assoc s y x) ∙ ap (λ (z : List ℕ). z ++ x) (slice-join d m mid (mid + t) g (omega arith)))

  -- the whole second block stands before the first
  pub exchange-done : (a m n mid : ℕ) → b ≡ over d a (slice m mid d ++ slice a m d) → mid ≤ n → n ≤ mid → b ≡ over d a (slice m n d ++ slice a m d)
  exchange-done a m n mid e h k =
      let q : mid ≡ n = omega arith in e ∙ ap (λ (j : ℕ). over d a (slice m j d ++ slice a m d)) q

module _ (d : List ℕ) (a m n : ℕ) (h : a ≤ m) (k : m ≤ n) (l : n ≤ length d) where
  -- an exchange starts with nothing moved
  pub exchange-start : d ≡ over d a (slice m m d ++ slice a m d)
  exchange-start = sym (over-same d a m h (omega arith)) ∙ ap (λ (x : List ℕ). over d a (x ++ slice a m d)) (sym (slice_empty m d))

  -- an exchange with an empty second block
  pub exchange-no-second : n ≤ m → d ≡ over d a (slice m n d ++ slice a m d)
  exchange-no-second g = exchange-done d d a m n m exchange-start k g

  -- an exchange with an empty first block
  pub exchange-no-first : m ≤ a → d ≡ over d a (slice m n d ++ slice a m d)
  exchange-no-first g =
      let e : m ≡ a = omega arith in
      sym (over-same d m n k l)
      ∙ ap (over d m) (sym (append-nil (slice m n d)) ∙ ap (λ (x : List ℕ). slice m n d ++ x) (sym (slice_empty m d)))
      ∙ (λ i. over d (e i) (slice m n d ++ slice (e i) m d))
