-- What the private calls of a save answer and leave, by place. A reader of the promises need not read this page.
use Rattle.std.specs.Prelude.{ℕ, ◌+◌, ◌-◌, ◌%◌, ◌/◌, List, [], ◌∷◌, leb, Result, Ok}
use Rattle.fields.specs.Refusals.{need}
use Rattle.fields.specs.declared.refusal.Refusal.TheVariants.{NoRoom}
use Rattle.fields.specs.declared.refusal.Refusal.{Refusal}
use Rattle.store.specs.declared.find.Place.{Place}

-- the two bytes of a stored length
abbrev pub length_bytes : ℕ → List ℕ
length_bytes n = n % 256 ∷ n / 256 ∷ []

-- whether so many bytes can take the place of a sector's: 8 where a row cannot name them or the sum that would result is over the room
unfoldable pub judged : Place → ℕ → ℕ → Result (Unit {0}) Refusal
judged p count room = need (leb count 65535) NoRoom (need (leb (p.end - (p.to - p.from) + count) room) NoRoom (Ok tt))
