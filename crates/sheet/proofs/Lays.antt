-- Boxes laid one behind another.
use mathlib.Core.Path.{◌≡◌, refl, sym, ap, ◌∙◌}
use Prim.Native.Nat.{ℕ, ◌+◌, ◌-◌, ◌%◌, ◌≤◌, ◌<◌}
use native.Mathlib.Nat.{add-zero}
use native.Mathlib.Omega.{arith}
use Rattle.std.specs.Int.{w64, to_be_bytes}
use mathlib.Core.Bool.{Bool, true, false, not}
use mathlib.Core.List.{List, [], ◌∷◌, ◌++◌, append_assoc, append-nil}
use lib.ListN.{length, take, drop, length-append}
use lib.Seq.{length-take-le, slice}
use borrow.Author.Tests.{not-true, not-false}
use Rattle.buffer.specs.Over.{over}
use Rattle.buffer.proofs.Overs.{over-over}
use Rattle.fields.specs.declared.refusal.Refusal.TheVariants.{BadController, ShortBuffer}
use Rattle.registers.specs.declared.regs.Regs.{Regs}
use Rattle.registers.specs.declared.regs.Pending.{Pending}
use Rattle.registers.specs.View.{writing_if, inside_of, front_of}
use Rattle.sending.specs.Calls.{impossible_with}
use Rattle.layout.specs.Layout.{flag_byte, seek_byte}
use Rattle.sheet.specs.Sheets.{high_for, box_for, write_box, format_box, sheet_version, boxes_of, boxes_for, paper_of, sheet_of}
use Rattle.store.specs.Calls.{penned}
use Rattle.store.proofs.Pens.{penned-short, penned-whole}
use Rattle.sheet.specs.Calls.{boxes_seen, work_for, sheet_written}
use Rattle.sheet.proofs.Gives.{machine-number}
use Rattle.sheet.proofs.Highs.{high-bytes, high-before, high-long}
use Rattle.sheet.proofs.Lengths.{work-long, Known}
use Rattle.std.specs.Prelude.{Ok, Err}

-- two parts, the second just behind the first
laid-behind : (d d₁ d₂ a b : List ℕ) (at at' : ℕ) → at ≤ length d → at' ≡ at + length a → d₁ ≡ over d at a → d₂ ≡ over d₁ at' b
    → d₂ ≡ over d at (a ++ b)
laid-behind d d₁ d₂ a b at at' h e p q = q ∙ ap (λ (z : List ℕ). over z at' b) p ∙ over-over d at a b at' e h

-- a box: its length, and then its bytes
laid-box : (d d₁ d₂ a x : List ℕ) (at at' : ℕ) → at' + length x ≤ length d → at' ≡ at + length a → d₁ ≡ over d at a → d₂ ≡ over d₁ at' x
    → d₂ ≡ over d at (a ++ (x ++ []))
laid-box d d₁ d₂ a x at at' h e p q = laid-behind d d₁ d₂ a x at at' (omega arith) e p q ∙ ap (λ (z : List ℕ). over d at (a ++ z)) (sym (append-nil x))

pub laid-put : (d d₁ d₂ b x : List ℕ) (at width : ℕ) → width ≤ 4 → at + width + length x ≤ length d → b ≡ to_be_bytes w64 (length x)
    → d₁ ≡ over d at (take (8 - (8 - width)) (drop (8 - width) b)) → d₂ ≡ over d₁ (at + width) x → d₂ ≡ over d at (box_for width x [])
laid-put d d₁ d₂ b x at width few h e p q =
    let a : List ℕ = high_for width (length x) [] in
    let n : length a ≡ width = high-long width (length x) [] ∙ add-zero width in
    let r : d₁ ≡ over d at a = p ∙ ap (λ (z : List ℕ). over d at (take (8 - (8 - width)) (drop (8 - width) z))) e ∙ ap (over d at) (high-bytes width (length x) few) in
    laid-box d d₁ d₂ a x at (at + width) (omega (arith, h)) (omega (arith, n)) r q ∙ ap (over d at) (sym (high-before width (length x) [] (x ++ [])))

-- the box of a write that is to stand here, or is not
pub laid_none : (d d₁ h : List ℕ) (at : ℕ) (f : Bool) (p : Pending) → not f ≡ true → d₁ ≡ over d at (box_for 2 [] [])
    → d₁ ≡ over d at (box_for 2 (work_for f p h) [])
laid_none d d₁ h at f p q e = e ∙ ap (λ (v : Bool). over d at (box_for 2 (work_for v p h) [])) (sym (not-true f q))

pub laid-work : (d d₁ d₂ h : List ℕ) (at : ℕ) (f : Bool) (p : Pending) → not f ≡ false → (f ≡ true → p.taken ≤ length h)
    → at + 2 + length (work_for f p h) ≤ length d
    → d₁ ≡ over d at (high_for 2 (5 + p.taken) (p.c1 ∷ p.target.one ∷ p.target.two ∷ p.target.three ∷ p.target.four ∷ []))
    → d₂ ≡ over d₁ (at + 7) (take p.taken h) → d₂ ≡ over d at (box_for 2 (work_for f p h) [])
laid-work d d₁ d₂ h at f p q k e g s =
    let on : f ≡ true = not-false f q in
    let l : p.taken ≤ length h = k on in
    let x : List ℕ = take p.taken h in
    let t : length x ≡ p.taken = length-take-le p.taken h l in
    let m : length (work_for f p h) ≡ 5 + p.taken = ap (λ (v : Bool). length (work_for v p h)) on ∙ work-long p h l in
    let n : 5 + p.taken ≡ length (work_for true p h) = sym (work-long p h l) in
    laid-box d d₁ d₂ (high_for 2 (5 + p.taken) (p.c1 ∷ p.target.one ∷ p.target.two ∷ p.target.three ∷ p.target.four ∷ [])) x at (at + 7) (omega arith) refl g s
    ∙ ap (λ (v : ℕ). over d at (high_for 2 v (work_for true p h ++ []))) n
    ∙ ap (λ (v : Bool). over d at (box_for 2 (work_for v p h) [])) (sym on)

-- ---- a whole sheet

-- what stands before the command, before what follows it
abbrev opening_for : Regs → ℕ → List ℕ → List ℕ
opening_for r rest next =
    sheet_version
    ∷ high_for 4 rest
    (box_for 2 (flag_byte r.motor ∷ [])
    (box_for 2 (r.drive.cylinder ∷ [])
    (box_for 2 (seek_byte r.drive.seek ∷ [])
    (box_for 2 (high_for 2 r.index []) next))))

-- the command and the reply behind it
pub laid-first : (d d₁ d₂ d₃ o x y z : List ℕ) (r : Regs) (rest at : ℕ) → y ≡ z → o ≡ opening_for r rest [] → d₁ ≡ over d 0 o
    → d₂ ≡ over d₁ 18 (box_for 2 x []) → at ≡ 20 + length x → d₃ ≡ over d₂ at (box_for 2 y [])
    → d₃ ≡ over d 0 (opening_for r rest (box_for 2 x (box_for 2 z [])))
laid-first d d₁ d₂ d₃ o x y z r rest at g e p q f s =
    let a : List ℕ = opening_for r rest [] in
    let b : List ℕ = box_for 2 x [] in
    let n : at ≡ 0 + length (a ++ b) = simp append-nil (omega arith) in
    let u : d₂ ≡ over d 0 (a ++ b) = laid-behind d d₁ d₂ a b 0 18 (omega arith) refl (p ∙ ap (over d 0) e) q in
    laid-behind d d₂ d₃ (a ++ b) (box_for 2 y []) 0 at (omega arith) n u s
    ∙ ap (λ (l : List ℕ). over d 0 (opening_for r rest (high_for 2 (length x) l))) (append_assoc x [] (box_for 2 y []))
    ∙ ap (λ (l : List ℕ). over d 0 (opening_for r rest (box_for 2 x (box_for 2 l [])))) g

-- the write, the machine and the Format
abbrev works_for : List ℕ → ℕ → List ℕ → List ℕ
works_for x m y = box_for 2 x (box_for 2 (m ∷ []) (box_for 2 y []))

pub laid-works : (d d₁ d₂ d₃ x y u v : List ℕ) (m at at₁ at₂ : ℕ) → at ≤ length d → u ≡ x → v ≡ y → d₁ ≡ over d at (box_for 2 x []) → at₁ ≡ at + 2 + length x
    → d₂ ≡ over d₁ at₁ (box_for 2 (m ∷ []) []) → at₂ ≡ at₁ + 2 + 1 → d₃ ≡ over d₂ at₂ (box_for 2 y []) → d₃ ≡ over d at (works_for u m v)
laid-works d d₁ d₂ d₃ x y u v m at at₁ at₂ h eu ev p e q f s =
    let a : List ℕ = box_for 2 x [] in
    let b : List ℕ = box_for 2 (m ∷ []) [] in
    let c : List ℕ = box_for 2 y [] in
    let n : length a ≡ 2 + length x = simp append-nil (omega arith) in
    let k : at₂ ≡ at + length (a ++ b) = simp length-append (omega arith) in
    let w : d₂ ≡ over d at (a ++ b) = laid-behind d d₁ d₂ a b at at₁ h (omega arith) p q in
    laid-behind d d₂ d₃ (a ++ b) c at at₂ h k w s
    ∙ ap (λ (l : List ℕ). over d at (high_for 2 (length x) l)) (append_assoc (x ++ []) b c ∙ append_assoc x [] (b ++ c))
    ∙ (λ i. over d at (works_for (sym eu i) m (sym ev i)))

-- the unread data and the lost count, and what is laid behind them
pub laid-rest : (d d₁ d₂ d₃ x c z : List ℕ) (lost at at₁ at₂ : ℕ) → at ≤ length d → x ≡ z → d₁ ≡ over d at (box_for 4 x []) → at₁ ≡ at + 4 + length x
    → d₂ ≡ over d₁ at₁ (box_for 2 (lost ∷ []) []) → at₂ ≡ at₁ + 2 + 1 → d₃ ≡ over d₂ at₂ c
    → d₃ ≡ over d at (box_for 4 z (box_for 2 (lost ∷ []) c))
laid-rest d d₁ d₂ d₃ x c z lost at at₁ at₂ h g p e q f s =
    let a : List ℕ = box_for 4 x [] in
    let b : List ℕ = box_for 2 (lost ∷ []) [] in
    let n : length a ≡ 4 + length x = simp append-nil (omega arith) in
    let m : at₂ ≡ at + length (a ++ b) = simp length-append (omega arith) in
    let u : d₂ ≡ over d at (a ++ b) = laid-behind d d₁ d₂ a b at at₁ h (omega arith) p q in
    laid-behind d d₂ d₃ (a ++ b) c at at₂ h m u s
    ∙ ap (λ (l : List ℕ). over d at (high_for 4 (length x) l)) (append_assoc (x ++ []) b c ∙ append_assoc x [] (b ++ c))
    ∙ ap (λ (l : List ℕ). over d at (box_for 4 l (b ++ c))) g

-- what stands behind the reply
abbrev rest_for : List ℕ → ℕ → List ℕ → ℕ → List ℕ → List ℕ
rest_for x lost y m z = box_for 4 x (box_for 2 (lost ∷ []) (works_for y m z))

-- both
pub laid-sheet : (d d₁ d₂ h x : List ℕ) (r : Regs) (n at : ℕ) → Known r h x → n ≡ length (sheet_of (boxes_seen r h x))
    → d₁ ≡ over d 0 (opening_for r (n - 5) (box_for 2 (take r.count r.command) (box_for 2 (slice r.place r.fill r.reply) [])))
    → at ≡ 22 + r.count + (r.fill - r.place)
    → d₂ ≡ over d₁ at (rest_for (slice r.from r.until x) r.lost (write_box (writing_if r.write.on r.write h)) (r.setting % 2) (format_box (writing_if r.write.on r.write h)))
    → d₂ ≡ over d 0 (sheet_of (boxes_seen r h x))
unfolding paper_of boxes_of boxes_for inside_of front_of
laid-sheet d d₁ d₂ h x r n at k e p f q =
    let c : List ℕ = take r.count r.command in
    let y : List ℕ = slice r.place r.fill r.reply in
    let o = writing_if r.write.on r.write h in
    let rest : ℕ → List ℕ = λ v. rest_for (slice r.from r.until x) r.lost (write_box o) v (format_box o) in
    let b : List ℕ = rest (r.setting % 2) in
    let a : List ℕ = opening_for r (n - 5) (box_for 2 c (box_for 2 y [])) in
    let m : n - 5 ≡ length (boxes_for (boxes_of (boxes_seen r h x))) = omega arith in
    let s : at ≡ 0 + length a = simp (append-nil, length-append) (omega arith) in
    laid-behind d d₁ d₂ a b 0 at (omega arith) s p q
    ∙ ap (λ (z : List ℕ). over d 0 (opening_for r (n - 5) (high_for 2 (length c) z))) (append_assoc c (box_for 2 y []) b)
    ∙ ap (λ (z : List ℕ). over d 0 (opening_for r (n - 5) (box_for 2 c (high_for 2 (length y) z)))) (append_assoc y [] b)
    ∙ ap (λ (i : ℕ). over d 0 (opening_for r i (box_for 2 c (box_for 2 y b)))) m
    ∙ ap (λ (i : ℕ). over d 0 (opening_for r (length (boxes_for (boxes_of (boxes_seen r h x)))) (box_for 2 c (box_for 2 y (rest i))))) (machine-number r.setting)

-- ---- the call

module _ (r : Regs) (h x s : List ℕ) where
  -- numbers that no controller has
  pub written-wrong : impossible_with h x r ≡ true → penned (Err BadController) s ≡ sheet_written r h x s
  unfolding sheet_written
  written-wrong e = rw e

  module _ (n : ℕ) (e : impossible_with h x r ≡ false) (l : n ≡ length (sheet_of (boxes_seen r h x))) where
    -- a buffer that is too short, and one that is not
    pub written-short : length s < n → penned (Err ShortBuffer) s ≡ sheet_written r h x s
    unfolding sheet_written
    written-short k = rw e (penned-short (sheet_of (boxes_seen r h x)) s n l k)

    pub written-whole : (s' : List ℕ) → n ≤ length s → s' ≡ over s 0 (sheet_of (boxes_seen r h x)) → penned (Ok n) s' ≡ sheet_written r h x s
    unfolding sheet_written
    written-whole s' k q = rw e (penned-whole (sheet_of (boxes_seen r h x)) s n l s' k q)
