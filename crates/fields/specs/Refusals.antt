-- The refusal numbers of documents 01 and 02, and how an answer goes on where there is no refusal.
use Rattle.std.specs.Prelude.{ℕ, Bool, true, false, Result, Ok, Err}
use Rattle.fields.specs.declared.refusal.Refusal.{Refusal}
use Rattle.fields.specs.declared.refusal.Refusal.TheVariants.{BadController, BadStore, ShortImage, NotAnImage, NotATrack, TooManyTracks}
use Rattle.fields.specs.declared.refusal.Refusal.TheVariants.{TooManySectors, NoRoom, NoTransferRoom, LongInput, BadSheet, NoImage, ShortBuffer}

-- the table "Refusal numbers" of 01; 11 and 13 of request 2026-01, 12 of 2026-03
abbrev pub number_of : Refusal → ℕ
number_of BadController = 1
number_of BadStore = 2
number_of ShortImage = 3
number_of NotAnImage = 4
number_of NotATrack = 5
number_of TooManyTracks = 6
number_of TooManySectors = 7
number_of NoRoom = 8
number_of NoTransferRoom = 9
number_of LongInput = 10
number_of BadSheet = 11
number_of NoImage = 12
number_of ShortBuffer = 13

-- goes on where the test holds, and refuses where it does not
abbrev pub need : {A : Type 0} → Bool → Refusal → Result A Refusal → Result A Refusal
need true why next = next
need false why next = Err why

-- goes on with what was read
abbrev pub after : {A B : Type 0} → Result A Refusal → (A → Result B Refusal) → Result B Refusal
after (Err why) next = Err why
after (Ok a) next = next a
