-- Texts laid one behind another, and the lines that are laid so.
use mathlib.Core.Path.{◌≡◌, refl, sym, ap, subst, ◌∙◌}
use Prim.Native.Nat.{ℕ, ◌+◌, ◌≤◌}
use native.Mathlib.Omega.{arith}
use mathlib.Core.List.{List, [], ◌++◌}
use lib.ListN.{length, length-append}
use Rattle.buffer.specs.Over.{over}
use Rattle.buffer.proofs.Overs.{over-over, over-nil, over-length}
use Rattle.fields.specs.Refusals.{number_of}
use Rattle.fields.specs.Model.{copies}
use Rattle.fields.specs.declared.refusal.Refusal.{Refusal}
use Rattle.fields.specs.declared.id.SectorId.{SectorId}
use Rattle.tracks.specs.declared.track.Kind.{Kind}
use Rattle.tracks.specs.declared.track.Head.{Head}
use Rattle.tracks.specs.declared.track.Row.{Row}
use Rattle.image.specs.declared.walk.Totals.{Totals}
use Rattle.listing.specs.Text.{disk_word, tracks_word, sectors_word, bytes_word, track_word, gap_word, filler_word, sector_word, space, end, refused_word, kind_word, decimal, printed_as, disk_fields, id_text, sector_fields, track_fields}
use Rattle.listing.specs.Lines.{Laid, row_line, head_line, totals_line}
use Rattle.std.specs.Prelude.{Err}

-- ---- one text behind another

-- the same text by another name
pub renamed : {d d' : List ℕ} {at r : ℕ} (x y : List ℕ) → x ≡ y → Laid d at x d' r → Laid d at y d' r
renamed {d} {d'} {at} {r} x y e l = subst (λ (z : List ℕ). Laid d at z d' r) e l

-- a text and what is laid behind it, which has its room then
pub both : {d d₁ d₂ : List ℕ} {at a₁ a₂ : ℕ} (x y : List ℕ) → at + length (x ++ y) ≤ length d → Laid d at x d₁ a₁
    → (a₁ + length y ≤ length d₁ → Laid d₁ a₁ y d₂ a₂) → Laid d at (x ++ y) d₂ a₂
both {d} {d₁} {d₂} {at} {a₁} {a₂} x y h p k =
    let e : length (x ++ y) ≡ length x + length y = length-append x y in
    let n : length d₁ ≡ length d = ap length p.bytes ∙ over-length d at x (omega arith) in
    let q : Laid d₁ a₁ y d₂ a₂ = k (omega (arith, p.behind)) in
    record {
      bytes = q.bytes ∙ ap (λ (z : List ℕ). over z a₁ y) p.bytes ∙ over-over d at x y a₁ p.behind (omega arith);
      behind = omega (arith, p.behind, q.behind);
    }

-- what a loop that lays a text knows at its head: `rest` is still to be laid
pub record Left (d₀ : List ℕ) (start : ℕ) (text d : List ℕ) (at : ℕ) (rest : List ℕ) : Type 0 where
  pub same : length d ≡ length d₀
  pub pending : over d at rest ≡ over d₀ start text
  pub behind : at + length rest ≡ start + length text

module _ (d₀ : List ℕ) (start : ℕ) (text : List ℕ) where
  pub left-start : (rest : List ℕ) → rest ≡ text → Left d₀ start text d₀ start rest
  left-start rest e = record { same = refl; pending = ap (over d₀ start) e; behind = ap (λ (z : List ℕ). start + length z) e }

  module _ (d : List ℕ) (at : ℕ) (rest : List ℕ) (l : Left d₀ start text d at rest) where
    pub left-done : rest ≡ [] → Laid d₀ start text d at
    left-done e = record {
      bytes = sym (over-nil d at) ∙ ap (over d at) (sym e) ∙ l.pending;
      behind = let n : length rest ≡ 0 = ap length e in omega (arith, l.behind);
    }

    module _ (room : start + length text ≤ length d₀) (x more : List ℕ) (e : rest ≡ x ++ more) where
      parts : length rest ≡ length x + length more
      parts = ap length e ∙ length-append x more

      pub left-room : at + length x ≤ length d
      left-room = omega (arith, parts, l.behind, l.same)

      pub left-again : (d' : List ℕ) (r : ℕ) → Laid d at x d' r → Left d₀ start text d' r more
      left-again d' r p =
          let inside : at ≤ length d = omega (arith, left-room) in
          record {
            same = ap length p.bytes ∙ over-length d at x left-room ∙ l.same;
            pending = ap (λ (z : List ℕ). over z r more) p.bytes ∙ over-over d at x more r p.behind inside ∙ ap (over d at) (sym e) ∙ l.pending;
            behind = omega (arith, p.behind, parts, l.behind);
          }

-- ---- the lines, and how long they are

-- the disk's line by the kind that a branch has told
module _ (kind k : Kind) (e : kind ≡ k) (at : ℕ) where
  pub kind-room : (room : ℕ) → at + length (disk_word ++ kind_word kind) ≤ room → at + length (disk_word ++ kind_word k) ≤ room
  kind-room room h = subst (λ (x : Kind). at + length (disk_word ++ kind_word x) ≤ room) e h

  pub kind-laid : {d d' : List ℕ} {r : ℕ} → Laid d at (disk_word ++ kind_word k) d' r → Laid d at (disk_word ++ kind_word kind) d' r
  kind-laid l = renamed (disk_word ++ kind_word k) (disk_word ++ kind_word kind) (ap (λ (x : Kind). disk_word ++ kind_word x) (sym e)) l

pub field-length : (w : List ℕ) (n : ℕ) → length (w ++ decimal n) ≡ length w + length (decimal n)
field-length w n = length-append w (decimal n)

pub id-length : (i : SectorId) → length (id_text i) ≡ 10 + length (decimal i.c) + length (decimal i.h) + length (decimal i.r) + length (decimal i.n)
unfolding id_text
id-length i = simp length-append (omega arith)

pub row-length : (row : Row) → length (row_line row)
    ≡ length (id_text row.id) + 5 + length (decimal row.st1.bits) + length (decimal row.st2.bits) + length (decimal row.stored)
    + length (decimal (copies row.stored row.id.n))
unfolding sector_fields
row-length row = simp length-append (omega arith)

pub head-length : (h : Head) → length (head_line h)
    ≡ 30 + length (decimal h.cylinder) + length (decimal h.side) + length (decimal h.sectors) + length (decimal h.gap) + length (decimal h.filler)
unfolding track_fields
head-length h = simp length-append (omega arith)

pub totals-length : (kind : Kind) (n : Totals) → length (totals_line kind n)
    ≡ 25 + length (disk_word ++ kind_word kind) + length (decimal n.tracks) + length (decimal n.sectors) + length (decimal n.bytes)
unfolding disk_fields
totals-length kind n = simp length-append (omega arith)

pub refusal-length : (why : Refusal) → length (printed_as (Err why)) ≡ 9 + length (decimal (number_of why))
refusal-length why = simp length-append (omega arith)

-- each line by its fields
module _ {d d₁ d₂ : List ℕ} {at a₁ a₂ : ℕ} where
  pub refusal-laid : (why : Refusal) (n : ℕ) → n ≡ number_of why → at + length (printed_as (Err why)) ≤ length d → Laid d at (refused_word ++ decimal n) d₁ a₁
      → Laid d₁ a₁ end d₂ a₂ → Laid d at (printed_as (Err why)) d₂ a₂
  refusal-laid why n e l p q =
      both (refused_word ++ decimal (number_of why)) end l
      (renamed (refused_word ++ decimal n) (refused_word ++ decimal (number_of why)) (ap (λ (k : ℕ). refused_word ++ decimal k) e) p) (λ m. q)

  module _ {d₃ d₄ : List ℕ} {a₃ a₄ : ℕ} where
    pub id-laid : (i : SectorId) → at + length (id_text i) ≤ length d → Laid d at (sector_word ++ decimal i.c) d₁ a₁
        → Laid d₁ a₁ (space ++ decimal i.h) d₂ a₂ → Laid d₂ a₂ (space ++ decimal i.r) d₃ a₃ → Laid d₃ a₃ (space ++ decimal i.n) d₄ a₄
        → Laid d at (id_text i) d₄ a₄
    unfolding id_text
    id-laid i l p q r s =
        both (sector_word ++ decimal i.c) (space ++ (decimal i.h ++ (space ++ (decimal i.r ++ (space ++ decimal i.n))))) l p
        (λ m. both (space ++ decimal i.h) (space ++ (decimal i.r ++ (space ++ decimal i.n))) m q
        (λ m. both (space ++ decimal i.r) (space ++ decimal i.n) m r (λ m. s)))

    module _ {d₅ : List ℕ} {a₅ : ℕ} where
      pub totals-laid : (kind : Kind) (n : Totals) → at + length (totals_line kind n) ≤ length d → Laid d at (disk_word ++ kind_word kind) d₁ a₁
          → Laid d₁ a₁ (tracks_word ++ decimal n.tracks) d₂ a₂ → Laid d₂ a₂ (sectors_word ++ decimal n.sectors) d₃ a₃
          → Laid d₃ a₃ (bytes_word ++ decimal n.bytes) d₄ a₄ → Laid d₄ a₄ end d₅ a₅ → Laid d at (totals_line kind n) d₅ a₅
      unfolding disk_fields
      totals-laid kind n l p q r s t =
          both (disk_word ++ kind_word kind) _ l p
          (λ m. both (tracks_word ++ decimal n.tracks) _ m q
          (λ m. both (sectors_word ++ decimal n.sectors) _ m r
          (λ m. both (bytes_word ++ decimal n.bytes) end m s (λ m. t))))

      module _ {d₆ : List ℕ} {a₆ : ℕ} where
        pub head-laid : (h : Head) → at + length (head_line h) ≤ length d → Laid d at (track_word ++ decimal h.cylinder) d₁ a₁
            → Laid d₁ a₁ (space ++ decimal h.side) d₂ a₂ → Laid d₂ a₂ (sectors_word ++ decimal h.sectors) d₃ a₃
            → Laid d₃ a₃ (gap_word ++ decimal h.gap) d₄ a₄ → Laid d₄ a₄ (filler_word ++ decimal h.filler) d₅ a₅ → Laid d₅ a₅ end d₆ a₆
            → Laid d at (head_line h) d₆ a₆
        unfolding track_fields
        head-laid h l p q r s t u =
            both (track_word ++ decimal h.cylinder) _ l p
            (λ m. both (space ++ decimal h.side) _ m q
            (λ m. both (sectors_word ++ decimal h.sectors) _ m r
            (λ m. both (gap_word ++ decimal h.gap) _ m s
            (λ m. both (filler_word ++ decimal h.filler) end m t (λ m. u)))))

        pub row_laid : (row : Row) (n : ℕ) → n ≡ copies row.stored row.id.n → at + length (row_line row) ≤ length d → Laid d at (id_text row.id) d₁ a₁
            → Laid d₁ a₁ (space ++ decimal row.st1.bits) d₂ a₂ → Laid d₂ a₂ (space ++ decimal row.st2.bits) d₃ a₃
            → Laid d₃ a₃ (space ++ decimal row.stored) d₄ a₄ → Laid d₄ a₄ (space ++ decimal n) d₅ a₅ → Laid d₅ a₅ end d₆ a₆
            → Laid d at (row_line row) d₆ a₆
        unfolding sector_fields
        row_laid row n e l p q r s t u =
            let t' : Laid d₄ a₄ (space ++ decimal (copies row.stored row.id.n)) d₅ a₅ =
            renamed (space ++ decimal n) (space ++ decimal (copies row.stored row.id.n)) (ap (λ (k : ℕ). space ++ decimal k) e) t in
            both (id_text row.id) _ l p
            (λ m. both (space ++ decimal row.st1.bits) _ m q
            (λ m. both (space ++ decimal row.st2.bits) _ m r
            (λ m. both (space ++ decimal row.stored) _ m s
            (λ m. both (space ++ decimal (copies row.stored row.id.n)) end m t' (λ m. u)))))
