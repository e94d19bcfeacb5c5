-- What the calls that measure and write an image answer and leave.
use Rattle.std.specs.Prelude.{List, ℕ, length, Result, Ok, Err}
use Rattle.fields.specs.Refusals.{after}
use Rattle.store.specs.Store.{disk_of}
use Rattle.store.specs.Calls.{Penned, penned, penned_to}
use Rattle.home.specs.Home.{home_of}
use Rattle.fields.specs.declared.refusal.Refusal.{Refusal}

-- the image of the disk that a store holds; 2, then 12
unfoldable pub image_in : List ℕ → List ℕ → Result (List ℕ) Refusal
image_in t b = after (disk_of t b) home_of

-- `disk_image_length`: how long it is
abbrev pub extent_of : Result (List ℕ) Refusal → Result ℕ Refusal
extent_of (Err why) = Err why
extent_of (Ok x) = Ok (length x)

-- `disk_write_image`: 13 last; a refusal leaves the buffer
abbrev pub written_as : Result (List ℕ) Refusal → List ℕ → Penned
written_as (Err why) s = penned (Err why) s
written_as (Ok x) s = penned_to x s
