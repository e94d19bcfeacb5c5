-- What the walk's calls answer, in terms of the format.
use Rattle.std.specs.Prelude.{◌≡◌, ℕ, ◌+◌, ◌-◌, ◌<◌, List, [], cond, length, drop, ltb, Result, Ok, Err, Option, Some, None}
use Rattle.fields.specs.Model.{Track, Disk, sector_count, byte_count}
use Rattle.tracks.specs.Block.{track_of, track_head}
use Rattle.image.specs.Dsk.{Dsk, entries, entry_of, tracks_from, dsk_of, before}
use Rattle.tracks.specs.declared.track.Kind.{Kind}
use Rattle.image.specs.declared.walk.Walk.{Walk}
use Rattle.image.specs.declared.walk.Step.TheVariants as step
use Rattle.tracks.specs.declared.track.Head.{Head}
use Rattle.fields.specs.declared.refusal.Refusal.{Refusal}
use Rattle.image.specs.declared.walk.Step.{Step}
use Rattle.image.specs.declared.walk.Totals.{Totals}

-- a walk at an image's first entry
abbrev pub start_of : List ℕ → Kind → Walk
start_of b kind = record { kind = kind; entry = 0; entries = entries b; at = 0x100 }

-- opening an image
abbrev pub opened_of : List ℕ → Result Kind Refusal → Result Walk Refusal
opened_of b (Err why) = Err why
opened_of b (Ok kind) = Ok (start_of b kind)

-- how much a disk holds
abbrev pub totals : Disk → Totals
totals d = record { tracks = length d; sectors = sector_count d; bytes = byte_count d }

-- a survey of the tracks that a walk hands out: the refusal, or how much there is
abbrev pub totals_from : Result Disk Refusal → Result Totals Refusal
totals_from (Err why) = Err why
totals_from (Ok d) = Ok (totals d)

-- a survey of an image: how much it holds, and the walk
abbrev pub surveyed : List ℕ → Result Dsk Refusal → Result (Totals × Walk) Refusal
surveyed b (Err why) = Err why
surveyed b (Ok d) = Ok (totals d.disk, start_of b d.kind)

unfoldable pub survey_of : List ℕ → Result (Totals × Walk) Refusal
survey_of b = surveyed b (dsk_of b)

-- the walk past one entry, with the next track at a place
abbrev pub past : Walk → ℕ → Walk
past w at = record { kind = w.kind; entry = w.entry + 1; entries = w.entries; at = at }

-- one step: no entry is left, the track is not there, or its block is read
abbrev pub read_step : Walk → ℕ → Result Track Refusal → Result Step Refusal
read_step w size (Err why) = Err why
read_step w size (Ok t) = Ok (step.Track (track_head t) (past w (w.at + size)))

abbrev pub entry_step : List ℕ → Walk → Option ℕ → Result Step Refusal
entry_step b w None = Ok (step.Absent (past w w.at))
entry_step b w (Some n) = read_step w n (track_of w.kind (drop w.at b))

unfoldable pub step_of : List ℕ → Walk → Result Step Refusal
step_of b w = cond (ltb w.entry w.entries) (entry_step b w (entry_of w.kind b w.entry)) (Ok step.End)

-- the tracks that a walk has still to hand out
unfoldable pub tracks_left : List ℕ → Walk → Result Disk Refusal
tracks_left b w = tracks_from w.kind b w.entry w.at (w.entries - w.entry)

-- the tracks that it has still to hand out where they are good, none where they are not
abbrev pub tracks_in : Result Disk Refusal → Disk
tracks_in (Err why) = []
tracks_in (Ok d) = d

abbrev pub to_come : List ℕ → Walk → Disk
to_come b w = tracks_in (tracks_left b w)

-- a walk that has passed one entry
pub record Moved (w r : Walk) : Type 0 where
  pub more : w.entry < w.entries
  pub next : r.entry ≡ w.entry + 1
  pub same : r.entries ≡ w.entries
  pub kind : r.kind ≡ w.kind

-- a track that was handed out, before those that follow it
pub record Handed (b : List ℕ) (w : Walk) (h : Head) (r : Walk) : Type 0 where
  pub moved : Moved w r
  pub track : Track
  pub read : track_of w.kind (drop w.at b) ≡ Ok track
  pub head : h ≡ track_head track
  pub left : tracks_left b w ≡ before track (tracks_left b r)

-- what a step's answer says of the tracks that the walk had left
abbrev pub Says : List ℕ → Walk → Result Step Refusal → Type 0
Says b w (Ok step.End) = tracks_left b w ≡ Ok []
Says b w (Err why) = tracks_left b w ≡ Err why
Says b w (Ok (step.Absent r)) = Moved w r × (tracks_left b w ≡ tracks_left b r)
Says b w (Ok (step.Track h r)) = Handed b w h r
