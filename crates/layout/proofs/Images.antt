-- A controller as bytes: which numbers stand where, and which bytes a controller has.
use mathlib.Core.Path.{◌≡◌, refl, ap, ◌∙◌}
use Prim.Native.Nat.{ℕ}
use native.Mathlib.Omega.{arith}
use mathlib.Core.Bool.{true}
use mathlib.Core.List.{List, [], ◌++◌}
use lib.ListN.{length, drop}
use borrow.Author.Tests.{eqb-true}
use Rattle.buffer.specs.Over.{over}
use Rattle.buffer.proofs.Overs.{over-over, over-front}
use Rattle.fields.proofs.Tests.{and-fst, need-good}
use Rattle.fields.specs.declared.refusal.Refusal.TheVariants.{BadController}
use Rattle.registers.specs.declared.regs.Regs.{Regs}
use Rattle.std.specs.Prelude.{Ok}
use Rattle.layout.specs.Layout.{controller_length, command_for, reading_for, state_for, numbers_for, held_at, formed, regs_in}

-- ---- bytes as registers

-- the numbers, written over the first bytes
pub laid-over : (b l : List ℕ) (r : Regs) → b ≡ numbers_for r [] → over l 0 b ≡ numbers_for r (held_at l)
unfolding numbers_for
laid-over b l r e = over-front l b ∙ ap (λ (z : List ℕ). z ++ drop (length z) l) e

-- the parts of the numbers, laid one behind another
pub laid-parts : (l l₁ l₂ l₃ x y z : List ℕ) (r : Regs) → x ≡ command_for r [] → y ≡ reading_for r [] → z ≡ state_for r []
    → l₁ ≡ over l 0 x → l₂ ≡ over l₁ 17 y → l₃ ≡ over l₂ 28 z → l₃ ≡ numbers_for r (held_at l)
unfolding numbers_for
laid-parts l l₁ l₂ l₃ x y z r p q s e f g =
    let a : List ℕ = command_for r [] in
    let b : List ℕ = reading_for r [] in
    let u : l₁ ≡ over l 0 a = e ∙ ap (over l 0) p in
    let v : l₂ ≡ over l 0 (a ++ b) = f ∙ (λ i. over (u i) 17 (q i)) ∙ over-over l 0 a b 17 refl (omega arith) in
    g ∙ (λ i. over (v i) 28 (s i)) ∙ over-over l 0 (a ++ b) (state_for r []) 28 refl (omega arith) ∙ laid-over (a ++ b ++ state_for r []) l r refl

-- ---- bytes that a controller has, and others

pub formed-long : (l : List ℕ) → formed l ≡ true → length l ≡ controller_length
unfolding formed
formed-long l e = eqb-true _ _ (and-fst _ _ e)

pub regs-long : (l : List ℕ) (r : Regs) → regs_in l ≡ Ok r → length l ≡ controller_length
unfolding regs_in
regs-long l r e = formed-long l (need-good (formed l) BadController _ r e).0
