-- What the functions that read a list, or sum a result up, answer.
use Rattle.std.specs.Prelude.{ℕ, zero, suc, ◌+◌, ◌-◌, ◌*◌, ◌%◌, ◌≤◌, ◌≡◌, List, [], ◌∷◌, Bool, true, false, cond, length, leb, ltb, Result, Ok, Err, IsErr, Option, None, Some}
use Rattle.fields.specs.Bytes.{number_at}
use Rattle.replay.specs.declared.Amount.{Amount}
use Rattle.replay.specs.declared.Record.{Record}
use Rattle.replay.specs.declared.Fault.{Fault}
use Rattle.replay.specs.declared.Fault.TheVariants.{Failed, Broken}
use Rattle.fields.specs.declared.refusal.Refusal.{Refusal}
use Rattle.store.specs.declared.check.Tallied.{Tallied}

-- the check number of bytes and of one more
abbrev pub check_with : ℕ → ℕ → ℕ
check_with h b = (h * 16777619 + b) % 4294967291

-- the check number of a list of bytes, on top of that of the bytes before
unfoldable pub check_from : ℕ → List ℕ → ℕ
check_from h [] = h
check_from h (b ∷ bs) = check_from (check_with h b) bs

-- the number in the four bytes at a place, 0 where they are not all there
unfoldable pub number_in : List ℕ → ℕ → ℕ
number_in b at = cond (leb (at + 4) (length b)) (number_at 4 b at) 0

-- how much a disk holds, from the check of its store and its count of tracks
abbrev pub held_in : Result Tallied Refusal → ℕ → Amount
held_in (Err why) tracks = record { tracks = 0; sectors = 0; bytes = 0 }
held_in (Ok ta) tracks = record { tracks = tracks; sectors = ta.sectors; bytes = ta.bytes }

-- a digit in hex as its letter: 0 to 9, and then A to F or a to f
abbrev pub hex_digit : Bool → ℕ → ℕ
hex_digit capital d = cond (ltb d 10) (48 + d) (cond capital 65 97 + (d - 10))

-- a replay that failed ends with an error; a list that is broken is only told of
abbrev pub Fails : {E : Type 0} → Fault → Result (Unit {0}) E → Type 0
Fails (Failed why) ended = IsErr ended
Fails Broken ended = Unit {0}

-- a yes to so many bytes is given only where there is room for them
abbrev pub Fits : Bool → ℕ → ℕ → Type 0
Fits taken n room = taken ≡ true → n ≤ room

-- a chunk is no longer than the room for it
abbrev pub ChunkFits : Option ℕ → ℕ → Type 0
ChunkFits None room = Unit {0}
ChunkFits (Some n) room = n ≤ room

-- a record is no longer than the room for its name and the room for its image
abbrev pub RecordFits : Option Record → ℕ → ℕ → Type 0
RecordFits None name image = Unit {0}
RecordFits (Some r) name image = (r.letters ≤ name) × (r.len ≤ image)

-- what is done after a call: more where it answered yes, and else nothing, but its fault is handed on
abbrev pub Onward : {E : Type 0} → Result Bool E → Type 0 → Result (Unit {0}) E → Type 0
Onward (Ok true) more done = more
Onward (Ok false) more done = done ≡ Ok tt
Onward (Err why) more done = done ≡ Err why

-- calls that are made one after another as long as they answer yes, but no more than so many, and what is answered then
unfoldable pub Runs : {F E : Type 0} → (F → Result Bool E → F → Type 0) → ℕ → F → Result (Unit {0}) E → Type 0
Runs call zero f done = done ≡ Ok tt
Runs {F} {E} call (suc n) f done = (r : Result Bool E) × (g : F) × call f r g × Onward r (Runs call n g done) done
