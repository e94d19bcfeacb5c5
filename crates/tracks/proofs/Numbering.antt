-- IDs that are laid one behind another, and read back.
use mathlib.Core.Path.{◌≡◌, refl, sym, ap, ap₂, ◌∙◌}
use Prim.Native.Nat.{ℕ, zero, suc, ◌+◌, ◌*◌, ◌≤◌}
use native.Mathlib.Omega.{arith}
use mathlib.Core.List.{List, [], ◌∷◌, ◌++◌}
use lib.ListN.{length, drop}
use Rattle.buffer.specs.Over.{over}
use Rattle.buffer.proofs.Overs.{over-nil, over-length, over-over, over-front}
use Rattle.fields.specs.Bytes.{byte_at}
use Rattle.fields.specs.declared.id.SectorId.{SectorId}
use Rattle.tracks.specs.Block.{id_at}
use Rattle.tracks.specs.Rows.{ids_at, ids_for, ids_from}

-- as many IDs as are read, and as are numbered
pub ids-length : (b : List ℕ) (at k : ℕ) → length (ids_at b at k) ≡ k
unfolding ids_at
ids-length b at zero = refl
ids-length b at (suc k) = ap suc (ids-length b (at + 4) k)

numbered-length : (c h n r k : ℕ) → length (ids_from c h n r k) ≡ k
unfolding ids_from
numbered-length c h n r zero = refl
numbered-length c h n r (suc k) = ap suc (numbered-length c h n (r + 1) k)

-- ---- Laid

-- what follows may be laid behind
ids-append : (xs : List SectorId) (rest : List ℕ) → ids_for xs [] ++ rest ≡ ids_for xs rest
unfolding ids_for
ids-append [] rest = refl
ids-append (x ∷ xs) rest = ap (λ (l : List ℕ). x.c ∷ x.h ∷ x.r ∷ x.n ∷ l) (ids-append xs rest)

-- four bytes each
ids-long : (xs : List SectorId) → length (ids_for xs []) ≡ 4 * length xs
unfolding ids_for
ids-long [] = refl
ids-long (x ∷ xs) = let e : length (ids_for xs []) ≡ 4 * length xs = ids-long xs in omega arith

-- one ID more, at the end
one-more : (c h n r k : ℕ) (rest : List ℕ) → ids_for (ids_from c h n r (k + 1)) rest ≡ ids_for (ids_from c h n r k) (c ∷ h ∷ (r + k) ∷ n ∷ rest)
unfolding ids_for ids_from
one-more c h n r zero rest = let e : r ≡ r + 0 = omega arith in ap (λ (x : ℕ). c ∷ h ∷ x ∷ n ∷ rest) e
one-more c h n r (suc k) rest =
    let e : suc k + 1 ≡ suc (k + 1) = omega arith in
    let f : r + 1 + k ≡ r + suc k = omega arith in
    rw e (
    ap (λ (l : List ℕ). c ∷ h ∷ r ∷ n ∷ l)
    (one-more c h n (r + 1) k rest ∙ ap (λ (x : ℕ). ids_for (ids_from c h n (r + 1) k) (c ∷ h ∷ x ∷ n ∷ rest)) f)
    )

-- what the loop knows at its head: the first k IDs are laid
pub record Numbering (ids₀ : List ℕ) (c h n : ℕ) (ids : List ℕ) (k : ℕ) : Type 0 where
  pub same : length ids ≡ length ids₀
  pub laid : ids ≡ over ids₀ 0 (ids_for (ids_from c h n 1 k) [])

module _ (ids₀ : List ℕ) (c h n : ℕ) where
  pub number-start : Numbering ids₀ c h n ids₀ 0
  unfolding ids_for ids_from
  number-start = record { same = refl; laid = sym (over-nil ids₀ 0) }

  module _ (ids : List ℕ) (k : ℕ) (s : Numbering ids₀ c h n ids k) where
    pub number-again : (next : List ℕ) → next ≡ over ids (4 * k) (c ∷ h ∷ (k + 1) ∷ n ∷ []) → 4 * (k + 1) ≤ length ids₀
        → Numbering ids₀ c h n next (k + 1)
    number-again next p fits =
        let l : 4 * k ≡ 0 + length (ids_for (ids_from c h n 1 k) []) = omega (arith, ids-long (ids_from c h n 1 k), numbered-length c h n 1 k) in
        let e : 1 + k ≡ k + 1 = omega arith in
        record {
          same = ap length p ∙ over-length ids (4 * k) (c ∷ h ∷ (k + 1) ∷ n ∷ []) (omega (arith, s.same)) ∙ s.same;
          laid =
              p ∙ ap (λ (x : List ℕ). over x (4 * k) (c ∷ h ∷ (k + 1) ∷ n ∷ [])) s.laid
              ∙ over-over ids₀ 0 (ids_for (ids_from c h n 1 k) []) (c ∷ h ∷ (k + 1) ∷ n ∷ []) (4 * k) l (omega arith)
              ∙ ap (over ids₀ 0) (
              ids-append (ids_from c h n 1 k) (c ∷ h ∷ (k + 1) ∷ n ∷ [])
              ∙ sym (one-more c h n 1 k [] ∙ ap (λ (r : ℕ). ids_for (ids_from c h n 1 k) (c ∷ h ∷ r ∷ n ∷ [])) e)
              );
        }

    pub number-done : (count : ℕ) → k ≤ count → count ≤ k → ids ≡ over ids₀ 0 (ids_for (ids_from c h n 1 count) [])
    number-done count few all =
        let e : k ≡ count = omega arith in s.laid ∙ ap (λ (m : ℕ). over ids₀ 0 (ids_for (ids_from c h n 1 m) [])) e

-- ---- Read back

-- four bytes in front put every ID four places further
module _ (a b c d : ℕ) (l : List ℕ) where
  byte-further : (at : ℕ) → byte_at (a ∷ b ∷ c ∷ d ∷ l) (suc (suc (suc (suc at)))) ≡ byte_at l at
  byte-further at = refl

  further : (at k : ℕ) → at + 4 + k ≡ suc (suc (suc (suc (at + k))))
  further at k = omega arith

  id-further : (at : ℕ) → id_at (a ∷ b ∷ c ∷ d ∷ l) (at + 4) ≡ id_at l at
  id-further at =
      let z : at + 4 ≡ suc (suc (suc (suc at))) = omega arith in
      λ i. record {
        c = byte_at (a ∷ b ∷ c ∷ d ∷ l) (z i);
        h = byte_at (a ∷ b ∷ c ∷ d ∷ l) (further at 1 i);
        r = byte_at (a ∷ b ∷ c ∷ d ∷ l) (further at 2 i);
        n = byte_at (a ∷ b ∷ c ∷ d ∷ l) (further at 3 i);
      }

  ids-further : (at k : ℕ) → ids_at (a ∷ b ∷ c ∷ d ∷ l) (at + 4) k ≡ ids_at l at k
  unfolding ids_at
  ids-further at zero = refl
  ids-further at (suc k) = ap₂ (λ (x : SectorId) (xs : List SectorId). x ∷ xs) (id-further at) (ids-further (at + 4) k)

-- IDs that are laid are read back
ids-back : (xs : List SectorId) (rest : List ℕ) → ids_at (ids_for xs rest) 0 (length xs) ≡ xs
unfolding ids_at ids_for
ids-back [] rest = refl
ids-back (x ∷ xs) rest =
    ap (λ (l : List SectorId). x ∷ l) (ids-further x.c x.h x.r x.n (ids_for xs rest) 0 (length xs) ∙ ids-back xs rest)

-- so numbered IDs are
pub ids-numbered : (ids₀ ids : List ℕ) (c h n count : ℕ) → ids ≡ over ids₀ 0 (ids_for (ids_from c h n 1 count) [])
    → ids_at ids 0 count ≡ ids_from c h n 1 count
ids-numbered ids₀ ids c h n count e =
    let xs : List SectorId = ids_from c h n 1 count in
    let rest : List ℕ = drop (length (ids_for (ids_from c h n 1 count) [])) ids₀ in
    let f : ids ≡ ids_for (ids_from c h n 1 count) rest =
    e ∙ over-front ids₀ (ids_for (ids_from c h n 1 count) []) ∙ ids-append (ids_from c h n 1 count) rest in
    (λ i. ids_at (f i) 0 (sym (numbered-length c h n 1 count) i)) ∙ ids-back (ids_from c h n 1 count) rest
