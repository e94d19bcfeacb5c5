-- The DSK format, normal and extended: which disk an image holds, or why it is refused (01, "Reading an image").
-- Places are those of the published description, of the disk block. `Block` of crate `tracks` says what a track block holds.
use Rattle.std.specs.Prelude.{ℕ, zero, suc, ◌+◌, ◌*◌, List, [], ◌∷◌, cond, length, drop, leb, Result, Ok, Err, Option, Some, None}
use Rattle.fields.specs.Refusals.{need, after}
use Rattle.fields.specs.Bytes.{byte_at, number_at, text_at}
use Rattle.fields.specs.Model.{Track, Disk}
use Rattle.tracks.specs.Block.{track_of}
use Rattle.fields.specs.declared.refusal.Refusal.TheVariants.{ShortImage, NotAnImage}
use Rattle.tracks.specs.declared.track.Kind.{Kind}
use Rattle.tracks.specs.declared.track.Kind.TheVariants.{Normal, Extended}
use Rattle.fields.specs.declared.refusal.Refusal.{Refusal}

-- ---- The disk block

-- `EXTENDED CPC`
abbrev pub extended_text : List ℕ
extended_text = 0x45 ∷ 0x58 ∷ 0x54 ∷ 0x45 ∷ 0x4E ∷ 0x44 ∷ 0x45 ∷ 0x44 ∷ 0x20 ∷ 0x43 ∷ 0x50 ∷ 0x43 ∷ []

-- `MV - CPC`
abbrev pub normal_text : List ℕ
normal_text = 0x4D ∷ 0x56 ∷ 0x20 ∷ 0x2D ∷ 0x20 ∷ 0x43 ∷ 0x50 ∷ 0x43 ∷ []

-- the kind, by the first 12 bytes
unfoldable pub image_kind : List ℕ → Result Kind Refusal
image_kind b =
    need (leb 12 (length b)) ShortImage
    (cond (text_at extended_text b 0) (Ok Extended) (cond (text_at normal_text b 0) (Ok Normal) (Err NotAnImage)))

-- how many entries the table has: tracks times sides
unfoldable pub entries : List ℕ → ℕ
entries b = byte_at b 0x30 * byte_at b 0x31

-- where the table ends: a normal image has one size for all tracks, an extended one a byte for each entry
abbrev pub table_end : Kind → ℕ → ℕ
table_end Normal n = 0x34
table_end Extended n = 0x34 + n

-- the kind of an image whose disk block is good
unfoldable pub header_of : List ℕ → Result Kind Refusal
header_of b = after (image_kind b) (λ kind. need (leb (table_end kind (entries b)) (length b)) ShortImage (Ok kind))

-- an entry of an extended table: 0 is a track that is not there, else the size in units of 256
abbrev pub size_entry : ℕ → Option ℕ
size_entry zero = None
size_entry (suc n) = Some (256 * suc n)

-- the size of the track of entry i
unfoldable pub entry_of : Kind → List ℕ → ℕ → Option ℕ
entry_of Normal b i = Some (number_at 2 b 0x32)
entry_of Extended b i = size_entry (byte_at b (0x34 + i))

-- ---- The tracks of an image

-- a track before those that follow it
abbrev pub before : Track → Result Disk Refusal → Result Disk Refusal
before t (Err why) = Err why
before t (Ok ts) = Ok (t ∷ ts)

-- an absent track moves no position; any other is read, and the next one stands its size further
abbrev pub placed : Option ℕ → Result Disk Refusal → (ℕ → Result Disk Refusal) → Result Disk Refusal
placed None skip read = skip
placed (Some n) skip read = read n

-- the tracks of so many entries from entry i on, the first of them at a place
unfoldable pub tracks_from : Kind → List ℕ → ℕ → ℕ → ℕ → Result Disk Refusal
tracks_from kind b i at zero = Ok []
tracks_from kind b i at (suc left) =
    placed (entry_of kind b i) (tracks_from kind b (i + 1) at left)
    (λ size. after (track_of kind (drop at b)) (λ t. before t (tracks_from kind b (i + 1) (at + size) left)))

-- an image: its kind and its disk
pub record Dsk : Type 0 where
  pub kind : Kind
  pub disk : Disk

abbrev pub image_of : Kind → Result Disk Refusal → Result Dsk Refusal
image_of kind (Err why) = Err why
image_of kind (Ok tracks) = Ok (record { kind = kind; disk = tracks })

-- the image that these bytes are: the first track is at 0x100
unfoldable pub dsk_of : List ℕ → Result Dsk Refusal
dsk_of b = after (header_of b) (λ kind. image_of kind (tracks_from kind b 0 0x100 (entries b)))
