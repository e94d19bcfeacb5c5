-- Bytes and numbers by place, and what the byte readers answer (01, "Modules in port order", 1).
use Rattle.std.specs.Prelude.{ℕ, zero, suc, ◌+◌, ◌-◌, ◌*◌, ◌/◌, ◌%◌, List, Bool, cond, length, get_or, take, drop, eqb, leb, Result, Ok, Err}
use Rattle.buffer.specs.Same.{same_bytes}
use Rattle.fields.specs.declared.refusal.Refusal.TheVariants.{ShortImage}
use Rattle.fields.specs.declared.refusal.Refusal.{Refusal}

-- the byte at a place, 0 past the end
abbrev pub byte_at : List ℕ → ℕ → ℕ
byte_at b at = get_or b at 0

-- the number that stands in so many bytes from a place, low byte first
unfoldable pub number_at : ℕ → List ℕ → ℕ → ℕ
number_at zero b at = 0
number_at (suc width) b at = byte_at b at + 256 * number_at width b (at + 1)

-- a byte with a bit (a power of two) added, and with a bit flipped
unfoldable pub with_bit : ℕ → ℕ → ℕ
with_bit bit x = cond (eqb (x / bit % 2) 1) x (x + bit)

unfoldable pub flip_bit : ℕ → ℕ → ℕ
flip_bit bit x = cond (eqb (x / bit % 2) 1) (x - bit) (x + bit)

-- whether these bytes stand at a place
unfoldable pub text_at : List ℕ → List ℕ → ℕ → Bool
text_at t b at = same_bytes (take (length t) (drop at b)) t

-- `read_u8`, `read_u16` and `read_u32`: the number in 1, 2 or 4 bytes; a short input is 3
unfoldable pub read_number : ℕ → List ℕ → ℕ → Result ℕ Refusal
read_number width b at = cond (leb (at + width) (length b)) (Ok (number_at width b at)) (Err ShortImage)

-- `read_string`, as a compare of bytes; a short input is 3
unfoldable pub read_string : List ℕ → List ℕ → ℕ → Result Bool Refusal
read_string t b at = cond (leb (at + length t) (length b)) (Ok (text_at t b at)) (Err ShortImage)
