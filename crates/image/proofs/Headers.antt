-- What the calls on the disk block answer, from the tests that led there.
use mathlib.Core.Path.{◌≡◌, refl, sym, ap, ◌∙◌}
use Prim.Native.Nat.{ℕ, zero, suc, ◌+◌, ◌*◌, ◌≤◌, ◌<◌}
use native.Mathlib.Omega.{arith}
use native.Mathlib.Nat.{mul-le-mul}
use mathlib.Core.List.{List}
use lib.ListN.{length, get_or, drop}
use lib.Seq.{get_or-drop}
use borrow.Author.Tests.{lt-leb, le-leb, leb-true, leb-false}
use Rattle.fields.specs.Bytes.{byte_at, number_at, read_string}
use Rattle.image.specs.Dsk.{extended_text, normal_text, image_kind, entries, table_end, header_of, size_entry, entry_of}
use Rattle.image.specs.Calls.{opened_of}
use Rattle.fields.specs.declared.refusal.Refusal.{Refusal}
use Rattle.fields.specs.declared.refusal.Refusal.TheVariants.{ShortImage, NotAnImage}
use Rattle.tracks.specs.declared.track.Kind.{Kind}
use Rattle.tracks.specs.declared.track.Kind.TheVariants.{Normal, Extended}
use Rattle.fields.proofs.Readers.{told}
use Rattle.std.specs.Prelude.{Result, Ok, Err, Some, None, false, true}

-- ---- the kind

module _ (b : List ℕ) where
  pub kind-short : (why : Refusal) → read_string extended_text b 0 ≡ Err why → Err why ≡ image_kind b
  unfolding image_kind
  kind-short why e = let f = told extended_text b 0 (Err why) e in simp (f.0, f.1)

  pub kind-extended : read_string extended_text b 0 ≡ Ok true → Ok Extended ≡ image_kind b
  unfolding image_kind
  kind-extended e = let f = told extended_text b 0 (Ok true) e in simp (f.0, f.1)

  module _ (e : read_string extended_text b 0 ≡ Ok false) where
    -- twelve bytes are there, so the eight that the second compare needs are too
    pub kind-never : (why : Refusal) → read_string normal_text b 0 ≡ Err why → Err why ≡ image_kind b
    kind-never why g =
        let f : 12 ≤ length b = leb-true 12 (length b) (told extended_text b 0 (Ok false) e).0 in
        let h : length b < 8 = leb-false 8 (length b) (told normal_text b 0 (Err why) g).0 in
        absurd (omega arith)

    pub kind-normal : read_string normal_text b 0 ≡ Ok true → Ok Normal ≡ image_kind b
    unfolding image_kind
    kind-normal g = let f = told extended_text b 0 (Ok false) e in let h = told normal_text b 0 (Ok true) g in simp (f.0, f.1, h.1)

    pub kind-none : read_string normal_text b 0 ≡ Ok false → Err NotAnImage ≡ image_kind b
    unfolding image_kind
    kind-none g = let f = told extended_text b 0 (Ok false) e in let h = told normal_text b 0 (Ok false) g in simp (f.0, f.1, h.1)

-- ---- the table

-- tracks times sides
pub entries-most : (x y : ℕ) → x < 256 → y < 256 → x * y ≤ 65025
entries-most x y h k = let a : x ≤ 255 = omega arith in let b : y ≤ 255 = omega arith in mul-le-mul a b

-- a size byte that is not 0
size-entry : (n : ℕ) → (n ≡ 0 → ⊥) → Some (256 * n) ≡ size_entry n
size-entry zero h = absurd (h refl)
size-entry (suc n) h = refl

module _ (kind : Kind) (b : List ℕ) (i : ℕ) where
  pub entry-normal : (v : ℕ) → kind ≡ Normal → v ≡ number_at 2 b 0x32 → Some v ≡ entry_of kind b i
  unfolding entry_of
  entry-normal v k e = rw k (ap Some e)

  module _ (k : kind ≡ Extended) (t : List ℕ) (et : t ≡ drop 0x34 b) (v : ℕ) (ev : v ≡ get_or t i 0) where
    -- the byte of the table behind its start
    table-byte : byte_at b (0x34 + i) ≡ v
    table-byte = sym (get_or-drop 0x34 b i 0) ∙ ap (λ (l : List ℕ). get_or l i 0) (sym et) ∙ sym ev

    pub entry_absent : v ≡ 0 → None ≡ entry_of kind b i
    unfolding entry_of
    entry_absent z = rw (k, table-byte, z)

    pub entry-size : (v ≡ 0 → ⊥) → Some (256 * v) ≡ entry_of kind b i
    unfolding entry_of
    entry-size z = rw (k, table-byte) (size-entry v z)

-- ---- opening

module _ (b : List ℕ) (n : Result Kind Refusal) (e : n ≡ image_kind b) where
  pub open-refused : (why : Refusal) → n ≡ Err why → Err why ≡ opened_of b (header_of b)
  unfolding header_of
  open-refused why f = simp (sym e ∙ f)

  module _ (kind : Kind) (f : n ≡ Ok kind) (m end : ℕ) (em : m ≡ entries b) (ee : end ≡ table_end kind m) where
    pub open-short : length b < end → Err ShortImage ≡ opened_of b (header_of b)
    unfolding header_of
    open-short l =
        let q : table_end kind (entries b) ≡ end = cc in
        simp (sym e ∙ f, q, lt-leb _ _ l)

    pub open-ready : end ≤ length b → Ok (record { kind = kind; entry = 0; entries = m; at = 0x100 }) ≡ opened_of b (header_of b)
    unfolding header_of
    open-ready l =
        let q : table_end kind (entries b) ≡ end = cc in
        simp (sym e ∙ f, q, le-leb _ _ l) (cc)
