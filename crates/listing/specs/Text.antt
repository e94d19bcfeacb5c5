-- What the listing program prints (01, "Listing program"), over the disk that an image holds by `Rattle.image.specs.Dsk`. A text is a list of bytes.
use Rattle.std.specs.Prelude.{ℕ, zero, suc, ◌+◌, ◌/◌, ◌%◌, cond, List, [], ◌∷◌, ◌++◌, length, ltb, leb, Result, Ok, Err}
use Rattle.fields.specs.Refusals.{need, after, number_of}
use Rattle.fields.specs.Capacities.{most_tracks, most_sectors}
use Rattle.fields.specs.Model.{copies, Sector, Track, Disk, sector_count, byte_count}
use Rattle.image.specs.Dsk.{Dsk, dsk_of}
use Rattle.fields.specs.declared.id.SectorId.{SectorId}
use Rattle.tracks.specs.declared.track.Kind.{Kind}
use Rattle.tracks.specs.declared.track.Kind.TheVariants.{Normal, Extended}
use Rattle.fields.specs.declared.refusal.Refusal.TheVariants.{LongInput, TooManyTracks, TooManySectors}
use Rattle.fields.specs.declared.refusal.Refusal.{Refusal}

-- ---- Words

-- `disk `, ` tracks `, ` sectors `, ` bytes `
abbrev pub disk_word : List ℕ
disk_word = 0x64 ∷ 0x69 ∷ 0x73 ∷ 0x6B ∷ 0x20 ∷ []

abbrev pub tracks_word : List ℕ
tracks_word = 0x20 ∷ 0x74 ∷ 0x72 ∷ 0x61 ∷ 0x63 ∷ 0x6B ∷ 0x73 ∷ 0x20 ∷ []

abbrev pub sectors_word : List ℕ
sectors_word = 0x20 ∷ 0x73 ∷ 0x65 ∷ 0x63 ∷ 0x74 ∷ 0x6F ∷ 0x72 ∷ 0x73 ∷ 0x20 ∷ []

abbrev pub bytes_word : List ℕ
bytes_word = 0x20 ∷ 0x62 ∷ 0x79 ∷ 0x74 ∷ 0x65 ∷ 0x73 ∷ 0x20 ∷ []

-- `track `, ` gap `, ` filler `
abbrev pub track_word : List ℕ
track_word = 0x74 ∷ 0x72 ∷ 0x61 ∷ 0x63 ∷ 0x6B ∷ 0x20 ∷ []

abbrev pub gap_word : List ℕ
gap_word = 0x20 ∷ 0x67 ∷ 0x61 ∷ 0x70 ∷ 0x20 ∷ []

abbrev pub filler_word : List ℕ
filler_word = 0x20 ∷ 0x66 ∷ 0x69 ∷ 0x6C ∷ 0x6C ∷ 0x65 ∷ 0x72 ∷ 0x20 ∷ []

-- `sector `, a space, the end of a line, `refused `
abbrev pub sector_word : List ℕ
sector_word = 0x73 ∷ 0x65 ∷ 0x63 ∷ 0x74 ∷ 0x6F ∷ 0x72 ∷ 0x20 ∷ []

abbrev pub space : List ℕ
space = 0x20 ∷ []

abbrev pub end : List ℕ
end = 0x0A ∷ []

abbrev pub refused_word : List ℕ
refused_word = 0x72 ∷ 0x65 ∷ 0x66 ∷ 0x75 ∷ 0x73 ∷ 0x65 ∷ 0x64 ∷ 0x20 ∷ []

-- `normal` or `extended`
abbrev pub kind_word : Kind → List ℕ
kind_word Normal = 0x6E ∷ 0x6F ∷ 0x72 ∷ 0x6D ∷ 0x61 ∷ 0x6C ∷ []
kind_word Extended = 0x65 ∷ 0x78 ∷ 0x74 ∷ 0x65 ∷ 0x6E ∷ 0x64 ∷ 0x65 ∷ 0x64 ∷ []

-- ---- Decimal fields

-- the digits of a number of up to so many, before what follows them
unfoldable pub digits_for : ℕ → ℕ → List ℕ → List ℕ
digits_for zero n rest = rest
digits_for (suc most) n rest = cond (ltb n 10) ((48 + n) ∷ rest) (digits_for most (n / 10) ((48 + n % 10) ∷ rest))

-- a number in decimal; no number of a listing has more than 20 digits
abbrev pub decimal : ℕ → List ℕ
decimal n = digits_for 20 n []

-- ---- Lines

-- each sector: c, h, r, n, st1, st2, stored length, copies
unfoldable pub id_text : SectorId → List ℕ
id_text i = sector_word ++ (decimal i.c ++ (space ++ (decimal i.h ++ (space ++ (decimal i.r ++ (space ++ decimal i.n))))))

unfoldable pub sector_fields : SectorId → ℕ → ℕ → ℕ → List ℕ
sector_fields id st1 st2 stored =
    id_text id
    ++ (space ++ (decimal st1
    ++ (space ++ (decimal st2
    ++ (space ++ (decimal stored
    ++ (space ++ (decimal (copies stored id.n) ++ end))))))))

abbrev pub sector_line : Sector → List ℕ
sector_line s = sector_fields s.id s.st1.bits s.st2.bits (length s.content)

-- each track: cylinder, side, sectors, gap, filler
unfoldable pub track_fields : ℕ → ℕ → ℕ → ℕ → ℕ → List ℕ
track_fields cylinder side sectors gap filler =
    track_word ++ (decimal cylinder
    ++ (space ++ (decimal side
    ++ (sectors_word ++ (decimal sectors
    ++ (gap_word ++ (decimal gap
    ++ (filler_word ++ (decimal filler ++ end)))))))))

abbrev pub track_line : Track → List ℕ
track_line t = track_fields t.cylinder t.side (length t.sectors) t.gap t.filler

-- first line: kind, tracks loaded, sectors, sum of stored lengths
unfoldable pub disk_fields : Kind → ℕ → ℕ → ℕ → List ℕ
disk_fields kind tracks sectors bytes =
    disk_word ++ (kind_word kind
    ++ (tracks_word ++ (decimal tracks
    ++ (sectors_word ++ (decimal sectors
    ++ (bytes_word ++ (decimal bytes ++ end)))))))

abbrev pub disk_line : Dsk → List ℕ
disk_line d = disk_fields d.kind (length d.disk) (sector_count d.disk) (byte_count d.disk)

-- the sectors, each on a line; the tracks, each with its sectors under it
unfoldable pub sector_lines : List Sector → List ℕ
sector_lines [] = []
sector_lines (s ∷ ss) = sector_line s ++ sector_lines ss

unfoldable pub track_lines : Disk → List ℕ
track_lines [] = []
track_lines (t ∷ ts) = track_line t ++ (sector_lines t.sectors ++ track_lines ts)

-- ---- The whole

abbrev pub listing_text : Dsk → List ℕ
listing_text d = disk_line d ++ track_lines d.disk

-- no longer input is listed, and no longer text is printed
abbrev pub most_input : ℕ
most_input = 65536

abbrev pub most_text : ℕ
most_text = 98304

-- 10 is judged first, then the image, then 6 and 7; with no store 8 never comes
unfoldable pub listing_of : List ℕ → Result (List ℕ) Refusal
listing_of b =
    need (leb (length b) most_input) LongInput
    (after (dsk_of b) (λ d.
    need (leb (length d.disk) most_tracks) TooManyTracks
    (need (leb (sector_count d.disk) most_sectors) TooManySectors (Ok (listing_text d)))))

-- a refusal prints `refused N` alone
abbrev pub printed_as : Result (List ℕ) Refusal → List ℕ
printed_as (Err why) = refused_word ++ (decimal (number_of why) ++ end)
printed_as (Ok text) = text

-- what the program prints for an input
unfoldable pub printed : List ℕ → List ℕ
printed b = printed_as (listing_of b)
