-- A disk as its user sees it. Nothing here speaks of an image or of a place in a store.
use Rattle.std.specs.Prelude.{ℕ, ◌+◌, ◌/◌, ◌%◌, cond, List, [], ◌∷◌, length, get_or, eqb, ltb, leb}
use Rattle.fields.specs.declared.id.SectorId.{SectorId}
use Rattle.fields.specs.declared.id.St1.{St1}
use Rattle.fields.specs.declared.id.St2.{St2}

-- the four sizes, as they are printed (2026-04)
abbrev pub printed_sizes : List ℕ
printed_sizes = 128 ∷ 256 ∷ 512 ∷ 1024 ∷ []

-- a sector's size by n: the printed one at place n & 3, counted from 0
unfoldable pub size_of : ℕ → ℕ
size_of n = get_or printed_sizes (n % 4) 0

-- the whole sizes stored: stored length over size by n where that leaves no remainder, else 0 (01, "Listing program")
unfoldable pub whole_sizes : ℕ → ℕ → ℕ
whole_sizes stored n = cond (eqb (stored % size_of n) 0) (stored / size_of n) 0

-- copies: for n of 4 or more 1 when anything is stored, 0 when nothing is (2026-02); for n 0 to 3 the whole sizes stored
unfoldable pub copies : ℕ → ℕ → ℕ
copies stored n = cond (leb 4 n) (cond (ltb 0 stored) 1 0) (whole_sizes stored n)

-- a sector: its ID, its two status bytes and its stored bytes, however many
pub record Sector : Type 0 where
  pub id : SectorId
  pub st1 : St1
  pub st2 : St2
  pub content : List ℕ

-- a track: cylinder and side, the size n, gap and filler that it was formatted with, and its sectors
pub record Track : Type 0 where
  pub cylinder : ℕ
  pub side : ℕ
  pub size : ℕ
  pub gap : ℕ
  pub filler : ℕ
  pub sectors : List Sector

-- a disk: its tracks, in order
abbrev pub Disk : Type 0
Disk = List Track

-- a number of each element, summed
unfoldable pub total : {A : Type 0} → (A → ℕ) → List A → ℕ
total f [] = 0
total f (x ∷ xs) = f x + total f xs

-- what holds of every element
unfoldable pub Each : {A : Type 0} → (A → Type 0) → List A → Type 0
Each P [] = Unit {0}
Each P (x ∷ xs) = P x × Each P xs

-- how many bytes a track stores
abbrev pub track_bytes : Track → ℕ
track_bytes t = total (λ s. length s.content) t.sectors

-- how many sectors and how many bytes a disk has
abbrev pub sector_count : Disk → ℕ
sector_count d = total (λ t. length t.sectors) d

abbrev pub byte_count : Disk → ℕ
byte_count d = total track_bytes d
