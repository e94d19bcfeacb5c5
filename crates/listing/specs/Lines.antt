-- What the private calls that lay a text leave, in terms of what the walk hands out. A reader of the promise need not read this page.
use Rattle.std.specs.Prelude.{ℕ, zero, suc, ◌+◌, ◌≤◌, ◌≡◌, List, [], ◌++◌, length, Result, Ok, Err}
use Rattle.buffer.specs.Over.{over}
use Rattle.tracks.specs.Block.{row_of}
use Rattle.image.specs.Calls.{tracks_left, to_come, survey_of}
use Rattle.tracks.specs.declared.track.Kind.{Kind}
use Rattle.image.specs.declared.walk.Walk.{Walk}
use Rattle.tracks.specs.declared.track.Head.{Head}
use Rattle.tracks.specs.declared.track.Row.{Row}
use Rattle.image.specs.declared.walk.Totals.{Totals}
use Rattle.listing.specs.Text.{sector_fields, track_fields, disk_fields, track_lines, most_input, printed_as, printed}
use Rattle.fields.specs.declared.refusal.Refusal.{Refusal}
use Rattle.fields.specs.Capacities.{most_tracks, most_sectors}

-- a text was laid from a place on, and the place behind it answered
pub record Laid (d : List ℕ) (at : ℕ) (text d' : List ℕ) (next : ℕ) : Type 0 where
  pub bytes : d' ≡ over d at text
  pub behind : next ≡ at + length text

-- the line of an entry, a track's by what was read of it, and a disk's by what was counted
abbrev pub row_line : Row → List ℕ
row_line row = sector_fields row.id row.st1.bits row.st2.bits row.stored

abbrev pub head_line : Head → List ℕ
head_line h = track_fields h.cylinder h.side h.sectors h.gap h.filler

abbrev pub totals_line : Kind → Totals → List ℕ
totals_line kind n = disk_fields kind n.tracks n.sectors n.bytes

-- the lines of so many entries of a track block's sector list, from entry k on
unfoldable pub row_lines : Kind → List ℕ → ℕ → ℕ → List ℕ
row_lines kind b k zero = []
row_lines kind b k (suc left) = row_line (row_of kind b k) ++ row_lines kind b (k + 1) left

-- the lines of a block's track
abbrev pub block_lines : Kind → List ℕ → Head → List ℕ
block_lines kind b h = head_line h ++ row_lines kind b 0 h.sectors

-- a walk whose tracks are good and whose lines find room from a place on
pub record Listable (b : List ℕ) (w : Walk) (at room : ℕ) : Type 0 where
  pub whole : tracks_left b w ≡ Ok (to_come b w)
  pub lines : at + length (track_lines (to_come b w)) ≤ room

-- an image that is listed, by its survey
pub record Surveyed (b : List ℕ) (n : Totals) (w : Walk) : Type 0 where
  pub short : length b ≤ most_input
  pub read : Ok (n, w) ≡ survey_of b
  pub tracks : n.tracks ≤ most_tracks
  pub sectors : n.sectors ≤ most_sectors

-- what an input is found to be: an image that is listed, or one whose refusal is printed
abbrev pub Judged : List ℕ → Result (Totals × Walk) Refusal → Type 0
Judged b (Err why) = printed_as (Err why) ≡ printed b
Judged b (Ok (n, w)) = Surveyed b n w
