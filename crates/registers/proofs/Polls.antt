-- Lost bytes: with k unread bytes, k at least 1, no write in progress and lost count L, status reads alone empty the data after exactly 3k - L reads.
use Rattle.std.proofs.Common.{◌≡◌, ℕ, zero, suc, ◌+◌, ◌-◌, ◌*◌, ◌/◌, ◌≤◌, Bool, true, false, eqb, ◌↔◌, List, [], ◌∷◌, length, drop, refl, ap, ◌∙◌, arith, length-drop, eqb-true}
use mathlib.Core.Option.{none}
use borrow.Author.Tests.{eqb-false}
use Rattle.fields.proofs.Tests.{never}
use Rattle.registers.specs.Boxes.{World}
use Rattle.registers.specs.Ports.{on?, some?, polled, after_status, polls}

module _ (w : World) (idle : w.inside.write ≡ none) where
  off : on? w.inside.write ≡ false
  off = ap on? idle

  -- what one read does: nothing where nothing is unread, else it counts, and at three it drops
  rests : some? w.front.unread ≡ false → ((after_status w).front.unread ≡ w.front.unread) × ((after_status w).front.lost ≡ w.front.lost)
  unfolding after_status polled
  rests e = rw (off, e) (refl, refl)

  counts : some? w.front.unread ≡ true → eqb w.front.lost 2 ≡ false
      → ((after_status w).front.unread ≡ w.front.unread) × ((after_status w).front.lost ≡ w.front.lost + 1)
  unfolding after_status polled
  counts e f = rw (off, e, f) (refl, refl)

  drops : some? w.front.unread ≡ true → eqb w.front.lost 2 ≡ true
      → ((after_status w).front.unread ≡ drop 1 w.front.unread) × ((after_status w).front.lost ≡ 0)
  unfolding after_status polled
  drops e f = rw (off, e, f) (refl, refl)

none_left : (l : List ℕ) → some? l ≡ false → length l ≡ 0
none_left [] e = refl
none_left (x ∷ l) e = never (cc)

some_left : (l : List ℕ) → some? l ≡ true → 1 ≤ length l
some_left [] e = never (cc)
some_left (x ∷ l) e = omega arith

-- after n reads (L + n) / 3 bytes are gone
pub polls-left : (n : ℕ) (w : World) → w.inside.write ≡ none → w.front.lost ≤ 2
    → length (polls n w).front.unread ≡ length w.front.unread - (w.front.lost + n) / 3
unfolding polls
polls-left zero w idle h = omega arith
polls-left (suc n) w idle h = go (some? w.front.unread) refl (eqb w.front.lost 2) refl (polls-left n (after_status w))
  where
    still : (after_status w).inside.write ≡ none
    still = unfold after_status in idle

    go : (u : Bool) → some? w.front.unread ≡ u → (v : Bool) → eqb w.front.lost 2 ≡ v
        → ((after_status w).inside.write ≡ none → (after_status w).front.lost ≤ 2 → length (polls n (after_status w)).front.unread ≡ length (after_status w).front.unread - ((after_status w).front.lost + n) / 3)
        → length (polls n (after_status w)).front.unread ≡ length w.front.unread - (w.front.lost + suc n) / 3
    go false e v f ih =
        let s = rests w idle e in
        let l : length (after_status w).front.unread ≡ length w.front.unread = ap length s.0 in
        ih still (omega (arith, s.1, h)) ∙ omega (arith, l, s.1, none_left w.front.unread e)
    go true e false f ih =
        let s = counts w idle e f in
        let l : length (after_status w).front.unread ≡ length w.front.unread = ap length s.0 in
        let d : w.front.lost ≡ 2 → ⊥ = eqb-false w.front.lost 2 f in
        ih still (omega (arith, s.1, h, d)) ∙ omega (arith, l, s.1)
    go true e true f ih =
        let s = drops w idle e f in
        let l : length (after_status w).front.unread ≡ length w.front.unread - 1 = ap length s.0 ∙ length-drop 1 w.front.unread in
        ih still (omega (arith, s.1)) ∙ omega (arith, l, s.1, eqb-true w.front.lost 2 f, some_left w.front.unread e)

-- so the data are empty after exactly 3k - L reads, and not before
pub polls-empty : (n : ℕ) (w : World) → w.inside.write ≡ none → w.front.lost ≤ 2 → 1 ≤ length w.front.unread
    → (length (polls n w).front.unread ≡ 0) ↔ (3 * length w.front.unread - w.front.lost ≤ n)
polls-empty n w idle h k = let e = polls-left n w idle h in (λ z. omega arith, λ z. omega arith)
