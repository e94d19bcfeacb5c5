-- The answer word: the byte in bits 0 to 7, the refusal number in bits 8 to 15, above them what each call says. A refused call answers its number alone.
use Rattle.std.specs.Prelude.{ℕ, ◌+◌, ◌*◌, ◌^◌, Bool, true, false, Result, Ok, Err, Option, Some, None}
use Rattle.fields.specs.Refusals.{number_of}
use Rattle.fields.specs.declared.refusal.Refusal.{Refusal}
use Rattle.store.specs.declared.answer.Match.{Match}
use Rattle.store.specs.declared.answer.Geometry.{Geometry}
use Rattle.registers.specs.declared.regs.Report.{Report}

abbrev pub refusal_word : Refusal → ℕ
refusal_word why = 256 * number_of why

-- the word of an answer, by that of its value
abbrev pub answer_word : {A : Type 0} → (A → ℕ) → Result A Refusal → ℕ
answer_word word (Ok v) = word v
answer_word word (Err why) = refusal_word why

abbrev pub byte_word : Result ℕ Refusal → ℕ
byte_word = answer_word (λ b. b)

-- yes is 1, no is 0
abbrev pub bool_word : Bool → ℕ
bool_word false = 0
bool_word true = 1

abbrev pub flag_word : Result Bool Refusal → ℕ
flag_word = answer_word bool_word

-- a call that answers nothing
abbrev pub done_word : Result (Unit {0}) Refusal → ℕ
done_word = answer_word (λ done. 0)

-- which sector was served: its place in the track in bits 16 to 23, how many bear its ID in bits 24 to 31 (2026-05)
abbrev pub match_word : Match → ℕ
match_word m = m.place * 2 ^ 16 + m.count * 2 ^ 24

-- what the host is told
abbrev pub report_word : Report → ℕ
report_word x = match_word x.sector

abbrev pub receipt_word : Result Report Refusal → ℕ
receipt_word = answer_word report_word

-- whether there is a sector, and which
abbrev pub found_word : Option Match → ℕ
found_word (Some m) = 1 + match_word m
found_word None = 0

abbrev pub has_word : Result (Option Match) Refusal → ℕ
has_word = answer_word found_word

-- the greatest cylinder of side 0 in bits 0 to 7, of the other sides in bits 16 to 23
abbrev pub sides_word : Geometry → ℕ
sides_word g = g.c0 + 65536 * g.c1

abbrev pub geometry_word : Result Geometry Refusal → ℕ
geometry_word = answer_word sides_word

-- the length of what is written in bits 32 to 63
abbrev pub length_word : ℕ → ℕ
length_word n = n * 2 ^ 32

abbrev pub extent_word : Result ℕ Refusal → ℕ
extent_word = answer_word length_word
